use Rattle.std.proofs.Common.{arith}
use Rattle.consolidation.proofs.Jobwise.{before_all}
use Rattle.consolidation.proofs.plan.Consolidation.count.Goals as goal

pub returns-clause-count : goal.returns-clause-count
returns-clause-count c =
    let runs = c.self.inside.runs.runs in
    rw (← c.self.view_is) (grind (arith, c.before-2.ensures runs, c.self.invariant.1, before_all runs))
