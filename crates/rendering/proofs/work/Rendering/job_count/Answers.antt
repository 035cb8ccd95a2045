use Rattle.std.proofs.Common.{arith}
use Rattle.rendering.proofs.Jobs.{few_stretches}
use Rattle.rendering.proofs.work.Rendering.job_count.Goals as goal

pub overflow_cast-result : goal.overflow_cast-result
overflow_cast-result c = omega (arith, few_stretches _ c.self.invariant.0, c.len.ensures)
