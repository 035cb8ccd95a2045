use Rattle.std.proofs.Common.{◌≡◌, ◌∙◌, ap, sym}
use Rattle.adlcons.specs.Openings.{overwrite_for}
use Rattle.adlcons.proofs.InFolders.{works_by}
use Rattle.adlcons.proofs.folders.answer_between.Goals as goal

pub returns-clause-works : goal.returns-clause-works
returns-clause-works g c =
    let same : c.out-1.given.0 ≡ c.answer_standard-answered.new.terminal.out.now =
    c.out-1.given.1 (sym c.answer_standard-answered.ensures.consoles.0) in
    let given = c.args.work.list.now in
    let before = c.args.shelf.now in
    let after = c.answer_standard-answered.new.shelf in
    let empty = c.args.bench.now in
    let full = c.answer_standard-answered.new.bench in
    record {
      rendered = λ list from into chosen request told.
          works_by _ _ _ _ _ _ given before after empty full _ _ _ _ c.requires.media c.requires.output
          (c.requires.careful ∙ ap overwrite_for request) same
          (c.in-Ok.ensures.rendered list from into chosen request told);
      resumed = λ list from into chosen request told.
          works_by _ _ _ _ _ _ given before after empty full _ _ _ _ c.requires.media c.requires.output
          (c.requires.careful ∙ ap overwrite_for request) same
          (c.in-Ok.ensures.resumed list from into chosen request told);
      consolidated = λ list from into handle report request.
          works_by _ _ _ _ _ _ given before after empty full _ _ _ _ c.requires.media c.requires.output
          (c.requires.careful ∙ ap overwrite_for request) same
          (c.in-Ok.ensures.consolidated list from into handle report request);
    }
