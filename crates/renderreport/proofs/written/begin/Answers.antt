use Rattle.std.proofs.Common.{[], IsTrue}
use Rattle.devices.specs.AppendLaws.{added_to, leaves_others}
use Rattle.renderreport.specs.Parts.{report_parts}
use Rattle.renderreport.specs.Report.{facts_of, report_name}
use Rattle.renderreport.proofs.Beside.{and_then, one_call}
use Rattle.renderreport.proofs.written.begin.Goals as goal

pub returns-in-Err-clause-beside : goal.returns-in-Err-clause-beside
returns-in-Err-clause-beside g c =
    one_call g.B.Bench report_name (g.met.B.Bench.only_now c.args.bench.now) c.in-Err.ensures.time c.in-Err.ensures.crash

pub returns-clause-beside : goal.returns-clause-beside
returns-clause-beside g c = and_then g.B.Bench report_name
    (one_call g.B.Bench report_name (g.met.B.Bench.only_now c.args.bench.now) c.in-Ok.ensures.time c.in-Ok.ensures.crash)
    (leaves_others g.B.Bench report_name _ c.create.new.self c.put_report.new.bench _ c.put_report.ensures)

pub returns-clause-written : goal.returns-clause-written
returns-clause-written g c = λ honest.
    let created_honest : IsTrue (g.B.Bench.honest c.create.new.self) =
    rw c.in-Ok.ensures.only_writes.honest_same honest in
    added_to c.put_report.result _ _ [] (report_parts (facts_of c.args.report.now.facts.now) c.args.report.now.digest)
    (c.in-Ok.ensures.created honest).here (c.put_report.ensures.appended created_honest)
