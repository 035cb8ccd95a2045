use Rattle.std.proofs.Common.{take, Ok}
use Rattle.devices.specs.Frame.{Appends}
use Rattle.renderreport.specs.Parts.{all_of}
use Rattle.renderreport.specs.Report.{report_name}
use Rattle.renderreport.proofs.texts.put.Given as goal

-- the parts so far are appended
abbrev pub invariant-loop-part : goal.invariant-loop-part
invariant-loop-part g l =
    Appends g.B.Bench report_name (all_of (take l.part-index l.parts)) l.initial.bench l.bench (Ok tt)
