use Rattle.renderreport.specs.Report.{report_name}
use Rattle.devices.specs.AppendLaws.{at_once}
use Rattle.renderreport.proofs.texts.put_text.Goals as goal

pub returns : goal.returns
returns g c =
    let sent = c.append.ensures in
    at_once g.B.Bench report_name c.args.text.now c.args.bench.now c.append.new.self c.append.result
    (g.met.B.Bench.only_now c.args.bench.now) sent.appended sent.grown sent.crash sent.time sent.only_writes
