use Rattle.std.proofs.Common.{arith}
use Rattle.consolidation.proofs.Jobwise.{none_before}
use Rattle.consolidation.proofs.jobs.before.Goals as goal

pub returns-then-position-eq0 : goal.returns-then-position-eq0
returns-then-position-eq0 c = λ runs are. grind (arith, none_before runs)
