use Rattle.std.proofs.Common.{arith}
use Rattle.markfile.proofs.NewMarks.{fresh_is}
use Rattle.markfile.proofs.fresh_marks.start.Goals as goal

pub returns-in-Err-clause-fresh : goal.returns-in-Err-clause-fresh
returns-in-Err-clause-fresh g c = fresh_is c.args.run.now (omega arith)
