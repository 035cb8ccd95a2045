use Rattle.std.proofs.Common.{ap, arith}
use Rattle.std.specs.Prelude.{length}
use Rattle.adlmodel.proofs.Counted.{length-events}
use Rattle.adlmodel.proofs.project.Project.events.Goals as goal

pub returns-clause-few : goal.returns-clause-few
returns-clause-few c = omega (arith, length-events _ c.self.invariant.events, ap length c.as_slice.ensures.value)
