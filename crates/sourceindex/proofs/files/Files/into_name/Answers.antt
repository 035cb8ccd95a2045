use Rattle.std.proofs.Common.{◌∙◌, ap, arith}
use Rattle.sound_terms.specs.Sounds.{SoundFacts}
use Rattle.sourceindex.proofs.FilePlaces.{sound_read, sound_within}
use Rattle.sourceindex.proofs.files.Files.into_name.Goals as goal

pub swap_remove-requires : goal.swap_remove-requires
swap_remove-requires c = omega (arith, sound_within c.self.invariant c.self.view_is c.args.position c.requires, c.self.inside.sounds.ok.0)

pub returns : goal.returns
returns c = λ file there.
    c.into_name.ensures ∙ ap (λ (sound : SoundFacts). sound.name) (sound_read c.self.invariant c.self.view_is c.args.position
    c.requires file there c.swap_remove.result c.swap_remove.ensures.value)
