use Rattle.std.proofs.Common.{arith}
use Rattle.std.proofs.lemmas.Grind.{common_steps}
use Rattle.rendering.proofs.Stretches.{written-torn}
use Rattle.rendering.proofs.placement.write_sound.Goals as goal

pub returns-in-Err-sync-clause-writes : goal.returns-in-Err-sync-clause-writes
returns-in-Err-sync-clause-writes g c = grind (arith, common_steps, g.met.B.Bench.only_now, written-torn)
