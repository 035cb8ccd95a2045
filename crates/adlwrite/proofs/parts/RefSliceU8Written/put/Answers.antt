use Rattle.devices.specs.AppendLaws.{at_once}
use Rattle.adlwrite.proofs.parts.RefSliceU8Written.put.Goals as goal

pub returns : goal.returns
returns g c =
    let sent = c.append.ensures in
    at_once g.B.Bench c.args.file.now.name.now c.args.self.now.now c.args.bench.now c.append.new.self c.append.result
    (g.met.B.Bench.only_now c.args.bench.now) sent.appended sent.grown sent.crash sent.time sent.only_writes
