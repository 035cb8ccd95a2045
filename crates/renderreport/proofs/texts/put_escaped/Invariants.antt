use Rattle.std.proofs.Common.{take, Ok}
use Rattle.json.specs.Print.{escape}
use Rattle.devices.specs.Frame.{Appends}
use Rattle.renderreport.specs.Report.{report_name}
use Rattle.renderreport.proofs.texts.put_escaped.Given as goal

-- the bytes so far are appended
abbrev pub invariant-loop-byte : goal.invariant-loop-byte
invariant-loop-byte g l =
    Appends g.B.Bench report_name (escape (take l.byte-index l.bytes)) l.initial.bench l.bench (Ok tt)
