use Rattle.std.proofs.Common.{arith}
use Rattle.rendering.proofs.Jobs.{few_stretches}
use Rattle.rendering.proofs.work.Rendering.by_source.Goals as goal

pub in_order_of-requires : goal.in_order_of-requires
in_order_of-requires c = omega (arith, few_stretches _ c.self.invariant.0, c.in_ok-keys.ensures)
