use Rattle.execution.proofs.Firsts.{desk-hand, fault-hand}
use Rattle.execution.proofs.steps.fail.Goals as goal

pub returns-in-Err-clause-step : goal.returns-in-Err-clause-step
returns-in-Err-clause-step c files stale shelf bench =
    rw (desk-hand _ _ _ c.worker.view_is c.in-Some.is) (fault-hand c.worker.inside.made _ _ _ _
    (c.in-Err.ensures.step files stale shelf bench))
