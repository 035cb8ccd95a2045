use Rattle.std.proofs.Common.{◌∙◌, Bool, Ok, Err, false, refl}
use Rattle.consolidate.specs.Approaches.{handing_of, is_again}
use Rattle.consolidate.specs.Own.{IsOfWork}
use Rattle.consolidate.proofs.RenderWorks.{by_handing, clips_of, keeps_work, not_begun_keeps, not_begun_work, works}
use Rattle.consolidate.proofs.marks.work_off.Goals as goal

pub returns-in-Err-clause-off : goal.returns-in-Err-clause-off
returns-in-Err-clause-off g c = record {
  does = not_begun_work g.S.Shelf g.B.Bench g.met.B.Bench.only_now _ _ _ (handing_of c.args.planned.approach)
      c.args.planned.found c.in-Err.fault c.in-Err.ensures.only_memory;
  finished = λ rounds. tt;
  clips = λ rounds honest. tt;
  keeps = not_begun_keeps g.S.Shelf g.B.Bench g.met.B.Bench.only_now c.args.planned.work _ _ c.args.planned.found
      g.met.B.Bench.reads_now c.requires.whole;
}

pub returns-in-Ok-run-clause-off : goal.returns-in-Ok-run-clause-off
returns-in-Ok-run-clause-off g c =
    let p = c.in-Ok.ensures.taken_up in
    let r = rw c.handing-handing.ensures at c.in-Ok-run.ensures in
    let handing = handing_of c.args.planned.approach in
    let done = λ (rounds : _). r.finished rounds p.rest (p.idle 1) in
    record {
      does = works g.S.Shelf g.B.Bench g.met.B.Bench.reads_now _ _ _ _ _ (Ok c.in-Ok-run.progress) p c.requires.whole
          handing c.args.planned.found c.requires r.called;
      finished = λ rounds. r.reported rounds ∙ done rounds;
      clips = λ rounds. clips_of g.S.Shelf g.B.Bench g.met.B.Bench.reads_now _ _ _ _ _ (Ok c.in-Ok-run.progress) p
          c.requires.whole handing c.args.planned.found (done rounds) r _ (rw c.work.ensures at c.clips-clips.ensures);
      keeps = keeps_work g.S.Shelf g.B.Bench g.met.B.Bench.reads_now _ _ _ _ _ (Ok c.in-Ok-run.progress) p
          c.requires.whole handing c.args.planned.found r.called;
    }

pub returns-in-Err-run-clause-off : goal.returns-in-Err-run-clause-off
returns-in-Err-run-clause-off g c =
    let p = c.in-Ok.ensures.taken_up in
    let r = rw c.handing-handing.ensures at c.in-Err-run.ensures in
    let handing = handing_of c.args.planned.approach in
    record {
      does = rw c.of_execution.ensures.reported (works g.S.Shelf g.B.Bench g.met.B.Bench.reads_now _ _ _ _ _
          (Err c.in-Err-run.fault) p c.requires.whole handing c.args.planned.found c.requires r.called);
      finished = λ rounds. tt;
      clips = λ rounds honest. tt;
      keeps = keeps_work g.S.Shelf g.B.Bench g.met.B.Bench.reads_now _ _ _ _ _ (Err c.in-Err-run.fault) p
          c.requires.whole handing c.args.planned.found r.called;
    }

pub returns-in-Err-run-clause-own : goal.returns-in-Err-run-clause-own
returns-in-Err-run-clause-own g c text = let r = rw c.handing-handing.ensures at c.in-Err-run.ensures in
    by_handing (handing_of c.args.planned.approach)
    (λ (given : Bool). IsOfWork (is_again c.args.planned.approach) given text c.of_execution.result)
    (λ rounds. c.of_execution.ensures.own _ false text (λ e. r.memory rounds (rw e refl))
    (λ e. r.job_memory rounds (rw e refl))) (c.of_execution.ensures.scheduled _ text)
