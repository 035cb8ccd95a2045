use Rattle.std.proofs.Common.{◌≢◌, codes}
use Rattle.execution.specs.Plan.{Stays}
use Rattle.trials_execution.specs.Listed.{plan_of}
use Rattle.trials_execution.proofs.Outs.{no-out, wider}
use Rattle.trials_execution.proofs.listed.ListedJobMaker.write.Goals as goal

pub returns-in-Ok-clause-only_writes : goal.returns-in-Ok-clause-only_writes
returns-in-Ok-clause-only_writes g c = wider g.B.Bench (λ n. n ≢ codes "out") (Stays plan_of) no-out (λ x. x) (λ x. x)
    tt c.in-Ok.ensures.only_writes

pub returns-in-Err-clause-only_writes : goal.returns-in-Err-clause-only_writes
returns-in-Err-clause-only_writes g c = wider g.B.Bench (λ n. n ≢ codes "out") (Stays plan_of) no-out (λ x. x) (λ x. x)
    (λ e sources m is. cc) c.in-Err.ensures.only_writes
