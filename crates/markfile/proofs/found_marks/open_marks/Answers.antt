use Rattle.std.proofs.Common.{arith, rules}
use Rattle.markfile.specs.Opened.{Answers, opened_of}
use Rattle.markfile.proofs.Found.{found_by}
use Rattle.markfile.proofs.found_marks.open_marks.Goals as goal

pub returns-in-Some-clause-whole : goal.returns-in-Some-clause-whole
returns-in-Some-clause-whole g c honest =
    let files = g.B.Bench.stored c.args.bench.now in
    let due : Answers c.read_marks.result (opened_of c.args.run.now files) = search rules in
    found_by c.args.run.now (omega arith) files c.read_marks.result due
