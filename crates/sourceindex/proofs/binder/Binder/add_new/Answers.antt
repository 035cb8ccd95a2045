use Rattle.std.proofs.Common.{◌≡◌, ◌∙◌, ◌∷◌, ◌++◌, [], None, Ok, sym, subst, ap, length, true}
use Rattle.std.proofs.lemmas.Result.{err_from_is_err_and}
use Rattle.list_terms.specs.Binding.{Binding, OpenedFile, file_named, with_index}
use Rattle.list_terms.specs.Bound.{bound_to_new}
use Rattle.list_terms.specs.BoundHomes.{IsBinding}
use Rattle.sourceindex.proofs.BoundLaws.{new_index}
use Rattle.sourceindex.proofs.OneSource.{bound_parts, new_added, new_refused, pushed_new}
use Rattle.sourceindex.proofs.binder.Binder.add_new.Goals as goal

pub returns-in_err-sound-clause-added : goal.returns-in_err-sound-clause-added
returns-in_err-sound-clause-added g c = λ honest.
    let files = g.S.Shelf.stored c.args.shelf.now in
    let place = c.args.location.now in
    let told = rw c.name.ensures at (c.in_err-sound.ensures.exact honest) in
    let p = err_from_is_err_and c.from_residual.result c.from_residual.ensures.1 in
    rw (p.1, p.2) (new_refused files c.args.self.now c.args.source.now place c.in_err-sound.field-0.0 c.requires.location
    told)

pub returns-clause-added : goal.returns-clause-added
returns-clause-added g c = λ honest.
    let files = g.S.Shelf.stored c.args.shelf.now in
    let source = c.args.source.now in
    let place = c.args.location.now in
    let sound = c.in_ok-sound.sound in
    let before = bound_parts c.self.inside.files c.self.inside.indexes c.self.inside.notices.items in
    let path = c.in_ok-path.ensures ∙ c.path.ensures in
    let opened : OpenedFile = record { path = c.in_ok-path.path; facts = sound } in
    let added = pushed_new before c.push_index.new.self c.push.new.self opened c.in_ok-file.file source
    c.in_ok-file.ensures.pushed c.in_ok-file.ensures.position c.in_ok-push_index.ensures in
    let read = rw c.name.ensures at (c.in_ok-sound.ensures.exact honest) in
    let same =
    ap (λ p. with_index before source (length before.files) sound true
    (before.files ++ record { path = p; facts = sound } ∷ [])) path in
    subst (λ (b : Binding). bound_to_new files b source place ≡ Ok c.push_index.new.self) c.self.view_is
    (new_added files before source place sound read ∙ ap Ok (sym (added ∙ same)))

pub returns-clause-sound : goal.returns-clause-sound
returns-clause-sound g c = λ is.
    let sound = c.in_ok-sound.sound in
    let before = bound_parts c.self.inside.files c.self.inside.indexes c.self.inside.notices.items in
    let opened : OpenedFile = record { path = c.in_ok-path.path; facts = sound } in
    let added = pushed_new before c.push_index.new.self c.push.new.self opened c.in_ok-file.file c.args.source.now
    c.in_ok-file.ensures.pushed c.in_ok-file.ensures.position c.in_ok-push_index.ensures in
    let name = c.in_ok-sound.ensures.named ∙ c.name.ensures in
    let none : file_named sound.name before.files ≡ None =
    ap (λ n. file_named n before.files) name
    ∙ ap (λ (b : Binding). file_named c.args.location.now.name b.files) c.self.view_is ∙ c.requires.missing in
    subst IsBinding (sym added) (new_index before c.args.source.now c.in_ok-path.path sound true
    (subst IsBinding (sym c.self.view_is) is) none)
