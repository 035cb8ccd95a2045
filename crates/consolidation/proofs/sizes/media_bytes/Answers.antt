use Rattle.std.proofs.Common.{arith}
use Rattle.std.proofs.lemmas.Grind.{common_steps}
use Rattle.consolidation.proofs.sizes.media_bytes.Goals as goal

pub loop-run-preserved : goal.loop-run-preserved
loop-run-preserved c = λ homes.
    grind (arith, common_steps, c.loop-run.invariant homes, c.bytes_of_medium.ensures homes)
