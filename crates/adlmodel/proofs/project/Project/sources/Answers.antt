use Rattle.std.proofs.Common.{arith}
use Rattle.adlmodel.proofs.Counted.{length-sources}
use Rattle.adlmodel.proofs.project.Project.sources.Goals as goal

pub returns-clause-few : goal.returns-clause-few
returns-clause-few c = omega (arith, length-sources _ c.self.invariant.sources.numbered)
