use Rattle.execution.proofs.EventRuns.{run-reclaim}
use Rattle.execution.proofs.events.step.Goals as goal

pub returns-in-Reclaim-clause-ran : goal.returns-in-Reclaim-clause-ran
returns-in-Reclaim-clause-ran g c = rw c.in-Reclaim.is
    (run-reclaim c.in-Reclaim.job (g.met.B.Bench.only_now c.args.bench.now) c.reclaim.ensures.opened)
