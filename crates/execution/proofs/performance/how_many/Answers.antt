use Rattle.std.proofs.Common.{arith}
use Rattle.execution.proofs.RoundEvents.{length-rounds}
use Rattle.execution.proofs.performance.how_many.Goals as goal

pub returns-then-in_rounds : goal.returns-then-in_rounds
returns-then-in_rounds c = rw (c.if-in_rounds.true, length-rounds) (omega arith)
