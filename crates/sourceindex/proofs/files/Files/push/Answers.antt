use Rattle.std.proofs.Common.{◌≡◌, ◌∙◌, ◌∷◌, ◌++◌, [], None, arith, ap, length, refl, string_bytes}
use Rattle.list_terms.specs.Binding.{file_named}
use Rattle.sourceindex.specs.Files.{opened_of}
use Rattle.sourceindex.proofs.FilePlaces.{length-opened_of, opened_of-push, placed_push}
use Rattle.sourceindex.proofs.files.Files.push.Goals as goal

pub returns-clause-position : goal.returns-clause-position
returns-clause-position c =
    let many = length-opened_of c.self.inside.paths.items c.self.inside.sounds.items in
    let view = ap length c.self.view_is in
    omega (arith, many, view, c.in-Ok.ensures, c.len.ensures, c.self.inside.sounds.ok.0)

pub returns-clause-pushed : goal.returns-clause-pushed
returns-clause-pushed c =
    let paths = c.self.inside.paths.items in
    let sounds = c.self.inside.sounds.items in
    let sounds_pushed : c.push.new.self.items ≡ sounds ++ c.args.sound ∷ [] =
    c.in_ok-push.ensures.items ∙ rw c.in_ok-reserve.ensures.items refl in
    let paths_pushed : c.push-2.new.self.items ≡ paths ++ c.args.path ∷ [] =
    c.in_ok-push-2.ensures.items ∙ rw c.in_ok-reserve-2.ensures.items refl in
    rw (sounds_pushed, paths_pushed) (opened_of-push paths sounds c.args.path c.args.sound c.self.invariant.together
    ∙ ap (λ files. files ++ record { path = c.args.path; facts = c.args.sound } ∷ []) c.self.view_is)

pub invariant_of-self-2 : goal.invariant_of-self-2
invariant_of-self-2 c =
    let paths = c.self.inside.paths.items in
    let sounds = c.self.inside.sounds.items in
    let sounds_pushed : c.push.new.self.items ≡ sounds ++ c.args.sound ∷ [] =
    c.in_ok-push.ensures.items ∙ rw c.in_ok-reserve.ensures.items refl in
    let paths_pushed : c.push-2.new.self.items ≡ paths ++ c.args.path ∷ [] =
    c.in_ok-push-2.ensures.items ∙ rw c.in_ok-reserve-2.ensures.items refl in
    let place : c.in-Ok.position ≡ length sounds =
    omega (arith, c.in-Ok.ensures, c.len.ensures, c.self.inside.sounds.ok.0) in
    let name : string_bytes c.in_ok-name.name ≡ c.args.sound.name = c.in_ok-name.ensures.ok ∙ c.name.ensures in
    let missing : file_named c.args.sound.name (opened_of paths sounds) ≡ None =
    ap (file_named c.args.sound.name) c.self.view_is ∙ c.requires.missing in
    rw (sounds_pushed, paths_pushed) (placed_push c.self.inside.places c.insert.new.self paths sounds c.args.path
    c.args.sound
    (string_bytes c.in_ok-name.name) c.self.invariant name missing (rw place at c.in_ok-insert.ensures.updates))
