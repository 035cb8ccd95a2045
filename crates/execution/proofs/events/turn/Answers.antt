use Rattle.std.proofs.Common.{◌∙◌, inl, sym, rules, None, refl}
use Rattle.devices.specs.ViewLaws.{reads_none}
use Rattle.devices.specs.Views.{source_view}
use Rattle.execution.specs.Noted.{IsNoted}
use Rattle.execution.proofs.Changes.{alike-failed, alike-give, alike-work, hand-given}
use Rattle.execution.proofs.EventRuns.{given-turn, step-quiet}
use Rattle.execution.proofs.Firsts.{mark-is}
use Rattle.execution.proofs.events.turn.Goals as goal

pub returns-in-Give-clause-went : goal.returns-in-Give-clause-went
returns-in-Give-clause-went g c = rw c.in-Give.is (step-quiet refl c.hand_out.ensures.size (reads_none _)
    (g.met.B.Bench.only_now c.args.bench.now) (λ e. cc) (λ honest. c.hand_out.ensures.step _ _ _ _)
    (λ step. (alike-give step).done) (λ none. given-turn _ (c.hand_out.ensures.step (λ _. None) 0 0 0)))

pub returns-in-Give-clause-fits : goal.returns-in-Give-clause-fits
returns-in-Give-clause-fits g c =
    c.hand_out.ensures.fits (g.W.JobMaker.plan c.args.maker.now).jobs c.requires.ready.whole c.requires.ready.fits

pub returns-in-Work-clause-went : goal.returns-in-Work-clause-went
returns-in-Work-clause-went g c = rw c.in-Work.is (step-quiet c.make.ensures.same c.make.ensures.size
    c.make.ensures.source (g.met.B.Bench.only_now c.args.bench.now)
    (λ e. c.make.ensures.no_mark (mark-is c.make.result e)) (λ honest. c.make.ensures.step honest _ _ _)
    (λ step. (alike-work step).done) c.make.ensures.turned)

pub returns-in-Deliver-clause-went : goal.returns-in-Deliver-clause-went
returns-in-Deliver-clause-went g c = rw c.in-Deliver.is (record {
  kept = record {
    plan = c.deliver.ensures.same;
    size = c.deliver.ensures.size;
    source = reads_none (source_view g.S.Shelf c.args.shelf.now);
    output = c.deliver.ensures.output;
    mark = λ e. c.deliver.ensures.mark (mark-is c.deliver.result e);
  };
  turned = c.deliver.ensures.turned;
  taken = λ honest whole. c.deliver.ensures.step whole _ _;
  marks = λ honest whole. c.deliver.ensures.marks whole (g.S.Shelf.stored c.args.shelf.now);
})

pub returns-in-Fault-clause-went : goal.returns-in-Fault-clause-went
returns-in-Fault-clause-went g c = rw c.in-Fault.is (step-quiet refl c.fail.ensures.size (reads_none _)
    (g.met.B.Bench.only_now c.args.bench.now) (λ e. c.fail.ensures.no_mark (mark-is c.fail.result e))
    (λ honest. c.fail.ensures.step _ _ _ _) (λ step. (alike-failed _ _ c.args.worker.now.hand _ step).done)
    (λ none. tt))

pub returns-in-Lose-clause-went : goal.returns-in-Lose-clause-went
returns-in-Lose-clause-went g c = rw c.in-Lose.is (step-quiet refl refl (reads_none _)
    (g.met.B.Bench.only_now c.args.bench.now) (λ e. cc) (λ honest. (refl, c.lose.ensures.nothing)) (λ step k. refl)
    (λ none. tt))

pub returns-in-Give-clause-notes : goal.returns-in-Give-clause-notes
returns-in-Give-clause-notes g c honest =
    let step = c.hand_out.ensures.step (λ _. None) 0 0 0 in
    let alike = alike-give step in record {
      same = λ first was. was;
      kept = λ k was. was;
      hands = λ noted w. hand-given (IsNoted _) (λ k can. tt) step (noted w);
      done = λ noted k on. inl (sym (alike.done k) ∙ on);
    }

pub returns-in-Fault-clause-notes : goal.returns-in-Fault-clause-notes
returns-in-Fault-clause-notes g c honest =
    let alike = alike-failed _ _ c.args.worker.now.hand _ (c.fail.ensures.step (λ _. None) 0 0 0) in search rules
