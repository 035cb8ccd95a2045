use Rattle.std.proofs.lemmas.Result.{err_from_is_err_and}
use Rattle.facts.specs.Results.{one_value}
use Rattle.rendering.specs.Clipping.{marked_in}
use Rattle.rendering.specs.Marked.{run_of}
use Rattle.consolidate.specs.Approaches.{found_by}
use Rattle.consolidate.specs.Listed.{listed_of}
use Rattle.consolidate.specs.MadeSound.{values_for}
use Rattle.consolidate.specs.Marks.{list_marking}
use Rattle.consolidate.proofs.Answered.{answered, clips_list, failed, keeps_list, not_opened}
use Rattle.consolidate.proofs.RenderWorks.{if_again, left_holds}
use Rattle.consolidate.proofs.Stores.{idle}
use Rattle.consolidate.proofs.made.make_list.Goals as goal

pub returns-in_err-checked : goal.returns-in_err-checked
returns-in_err-checked g c =
    let p = err_from_is_err_and c.from_residual.result c.from_residual.ensures.1 in
    let only_now = g.met.B.Bench.only_now c.args.bench.now in
    rw (p.1, p.2) (record {
      answer = not_opened g.S.Shelf g.B.Bench c.args.request.now c.in_err-checked.field-0.0 only_now
          c.in_err-checked.ensures;
      report = tt;
      frames = λ project is. tt;
      marked = λ right project is. tt;
      clips = λ rounds honest right. tt;
      keeps_marked = if_again c.args.request.now.approach (λ honest right left marks there started.
          idle (λ x at p b accepted. left_holds (list_marking c.args.request.now.list.now (values_for
          c.args.request.now)
          (g.S.Shelf.stored c.args.shelf.now) p b) (g.B.Bench.stored c.args.bench.now) (left p b accepted)
          (g.met.B.Bench.reads_now c.args.bench.now right) there started x (only_now x at)));
    })

pub returns-in_err-made : goal.returns-in_err-made
returns-in_err-made g c =
    let p = err_from_is_err_and c.from_residual-in_err-made.result c.from_residual-in_err-made.ensures.1 in
    let opened = c.in_ok-checked.ensures in
    let checked = c.in_ok-checked.field-0.checked in
    let listed = listed_of c.args.request.now checked.project checked.bound in
    rw (p.1, p.2) (record {
      answer = failed g.S.Shelf g.B.Bench listed _ _ _ _ _ opened.accepted opened.spelt opened.only_reads _
          c.in_err-made.ensures;
      report = tt;
      frames = λ project is. tt;
      marked = λ right project is. tt;
      clips = λ rounds honest right. tt;
      keeps_marked = keeps_list g.S.Shelf g.B.Bench listed _ _ c.make_listed.new.shelf _ _ opened.accepted opened.spelt
          opened.only_reads c.in_err-made.ensures.keeps;
    })

pub returns : goal.returns
returns g c =
    let opened = c.in_ok-checked.ensures in
    let checked = c.in_ok-checked.field-0.checked in
    let listed = listed_of c.args.request.now checked.project checked.bound in
    let told = c.in_ok-made.ensures in
    record {
      answer = answered g.S.Shelf g.B.Bench listed _ _ _ _ _ opened.accepted opened.spelt opened.only_reads _
          opened.spelled opened.notices told;
      report = record { project = checked.project; spelled = opened.spelled; range = told.report };
      frames = λ p is. rw (← one_value opened.spelt is) told.report.frames;
      marked = λ right p is. rw (← one_value opened.spelt is) (told.marked right);
      clips = λ rounds honest right. clips_list g.S.Shelf g.B.Bench listed c.args.shelf.now _ c.make_listed.new.shelf
          c.args.bench.now c.make_listed.new.bench opened.accepted opened.spelt opened.only_reads
          (λ range. marked_in (found_by c.args.request.now.approach (run_of c.args.request.now.list.now range)
          (g.B.Bench.stored c.args.bench.now))) _ (λ h. told.clips rounds h right) honest;
      keeps_marked = keeps_list g.S.Shelf g.B.Bench listed _ _ c.make_listed.new.shelf _ _ opened.accepted opened.spelt
          opened.only_reads told.keeps;
    }
