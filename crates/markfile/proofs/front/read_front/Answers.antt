use Rattle.std.proofs.Common.{arith}
use Rattle.markfile.specs.Format.{marks_name}
use Rattle.markfile.proofs.Ranges.{range_in}
use Rattle.markfile.proofs.front.read_front.Goals as goal

pub returns-in-Ok-clause-front : goal.returns-in-Ok-clause-front
returns-in-Ok-clause-front g c honest marks there =
    range_in (g.B.Bench.stored c.args.bench.now marks_name) marks 0 c.read_at.new.buffer 44 there (omega arith)
    (c.in-Ok.ensures.read honest)
