use Rattle.std.specs.Prelude.{codes}
use Rattle.devices.specs.AppendLaws.{at_once}
use Rattle.adlwrite.proofs.parts.put_start.Goals as goal

pub returns-clause-appends : goal.returns-clause-appends
returns-clause-appends g c =
    let sent = c.append.ensures in
    at_once g.B.Bench c.args.name.now (codes "<ADL>\r\n") c.args.bench.now c.append.new.self c.append.result
    (g.met.B.Bench.only_now c.args.bench.now) sent.appended sent.grown sent.crash sent.time sent.only_writes
