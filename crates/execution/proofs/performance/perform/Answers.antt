use Rattle.std.proofs.Common.{refl, rules, arith}
use Rattle.execution.specs.EventRun.{listed}
use Rattle.execution.proofs.EventRuns.{performed-ended, run-next, run-none}
use Rattle.execution.proofs.performance.perform.Goals as goal

pub loop-i-init : goal.loop-i-init
loop-i-init g c = record {
  ready = c.requires;
  few = omega arith;
  ran = run-none (g.met.B.Bench.only_now c.args.bench.now) (λ v. refl);
  notes = search rules;
}

pub loop-i-preserved : goal.loop-i-preserved
loop-i-preserved g c =
    let count = (g.W.JobMaker.plan c.args.shop.now.work).jobs.count in
    record {
      ready = rw c.loop-i.invariant.ran.kept.plan at c.in-Ok.ensures.ready;
      few = omega (arith, c.in-Ok.ensures.counted, c.loop-i.invariant.few);
      ran = run-next (listed c.args.in_rounds count c.args.events.now) c.loop-i.i c.event_at-event.result
          (rw (c.how_many-whole.ensures, c.count-count.ensures) at c.loop-i-test.true)
          (rw c.count-count.ensures at c.event_at-event.ensures.event) c.loop-i.invariant.ran c.in-Ok.ensures.ran;
      notes = search rules;
    }

pub returns-in-Err-clause-performed : goal.returns-in-Err-clause-performed
returns-in-Err-clause-performed g c =
    let count = (g.W.JobMaker.plan c.args.shop.now.work).jobs.count in
    performed-ended (listed c.args.in_rounds count c.args.events.now) c.loop-i.i c.event_at-event.result
    (rw (c.how_many-whole.ensures, c.count-count.ensures) at c.loop-i-test.true)
    (rw c.count-count.ensures at c.event_at-event.ensures.event) c.loop-i.invariant.ran c.step.new.stale c.in-Err.fault
    c.in-Err.ensures.ran c.in-Err.ensures.memory c.in-Err.ensures.room c.in-Err.ensures.no_output
