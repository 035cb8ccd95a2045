use Rattle.std.proofs.Common.{◌∙◌, false, sym, subst, ap}
use Rattle.std.specs.List.{slice_get}
use Rattle.list_terms.specs.Binding.{Binding}
use Rattle.list_terms.specs.BoundHomes.{IsBinding}
use Rattle.sourceindex.proofs.BoundLaws.{known_index}
use Rattle.sourceindex.proofs.OneSource.{found_file, known_added, known_refused}
use Rattle.sourceindex.proofs.binder.Binder.add_known.Goals as goal

pub returns-then-ne-clause-added : goal.returns-then-ne-clause-added
returns-then-ne-clause-added c =
    known_refused c.args.self.now c.args.source.now c.args.location.now c.args.file c.requires.opened c.path.result.now _
    (λ o is. c.path.ensures o (ap (λ (b : Binding). slice_get b.files c.args.file) c.self.view_is ∙ is)) c.path-2.ensures
    (sym c.ne.ensures ∙ c.if-ne.true)

pub returns-clause-added : goal.returns-clause-added
returns-clause-added c =
    known_added c.args.self.now c.args.source.now c.args.location.now c.args.file c.requires.opened c.path.result.now _
    (λ o is. c.path.ensures o (ap (λ (b : Binding). slice_get b.files c.args.file) c.self.view_is ∙ is)) c.path-2.ensures
    (sym c.ne.ensures ∙ c.if-ne.false) c.push_index.new.self c.in_ok-push_index.ensures

pub returns-clause-sound : goal.returns-clause-sound
returns-clause-sound c = λ is.
    let self = c.args.self.now in
    let opened = found_file c.args.location.now.name self.files c.args.file c.requires.opened in
    subst IsBinding (sym (c.in_ok-push_index.ensures opened.0 opened.1))
    (known_index self c.args.source.now c.args.file opened.0 false is opened.1)
