use Rattle.std.proofs.Common.{◌≡◌, ◌∙◌, List, ap, length, subst, sym}
use Rattle.std.proofs.lemmas.List.{length-map}
use Rattle.sound_terms.specs.declared.BoundIndex.{BoundIndex}
use Rattle.sound_terms.specs.declared.piece.Home.{Home}
use Rattle.sound_terms.specs.Homes.{AreHomes}
use Rattle.sound_terms.specs.Sounds.{SoundFacts}
use Rattle.list_terms.specs.Binding.{Binding, OpenedFile}
use Rattle.list_terms.specs.BoundHomes.{homes_from, homes_of}
use Rattle.list_terms.specs.Heard.{sounds_of}
use Rattle.sourceindex.proofs.HomeLaws.{are_homes}
use Rattle.sourceindex.proofs.bound.Bound.homes.Goals as goal

-- The table for this number of files is the binding's.
all_homes : (binding : Binding) (indexes : List BoundIndex) (sounds : List SoundFacts) (homes : List Home)
    → indexes ≡ binding.indexes → sounds ≡ sounds_of binding
    → ((opened : List OpenedFile) → length opened ≡ length sounds → homes ≡ homes_from indexes 0 opened)
    → homes ≡ homes_of binding
all_homes binding indexes sounds homes same lent are =
    are binding.files (sym (ap length lent ∙ length-map binding.files (λ (file : OpenedFile). file.facts)))
    ∙ ap (λ (known : List BoundIndex). homes_from known 0 binding.files) same

pub of-requires : goal.of-requires
of-requires c =
    let same =
    all_homes c.args.self.now c.indexes.result.now c.sounds.result.now c.in_ok-homes.homes.items
    c.indexes.ensures.indexes c.sounds.ensures.sounds c.in_ok-homes.ensures in
    subst AreHomes (sym same) (are_homes c.args.self.now c.indexes.ensures.bound)

pub returns : goal.returns
returns c =
    c.of.ensures
    ∙ all_homes c.args.self.now c.indexes.result.now c.sounds.result.now c.in_ok-homes.homes.items
    c.indexes.ensures.indexes c.sounds.ensures.sounds c.in_ok-homes.ensures
