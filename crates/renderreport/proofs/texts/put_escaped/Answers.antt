use Rattle.std.proofs.Common.{refl}
use Rattle.json.specs.Print.{escape_byte}
use Rattle.devices.specs.AppendLaws.{and_then, nothing, said, stopped}
use Rattle.renderreport.specs.Report.{report_name}
use Rattle.renderreport.proofs.OnePart.{all_but, one_more}
use Rattle.renderreport.proofs.texts.put_escaped.Goals as goal

pub loop-byte-init : goal.loop-byte-init
loop-byte-init g c = nothing g.B.Bench report_name c.args.bench.now tt (g.met.B.Bench.only_now c.args.bench.now)

pub returns-in_err-put_byte : goal.returns-in_err-put_byte
returns-in_err-put_byte g c =
    said g.B.Bench report_name (all_but escape_byte c.args.bytes.now c.loop-byte.byte-index 0
    c.loop-byte-test.true refl)
    (and_then g.B.Bench report_name c.loop-byte.invariant
    (stopped g.B.Bench report_name _ _ c.from_residual.result c.from_residual.ensures.1 c.in_err-put_byte.ensures))

pub loop-byte-preserved : goal.loop-byte-preserved
loop-byte-preserved g c =
    said g.B.Bench report_name (one_more escape_byte c.args.bytes.now c.loop-byte.byte-index 0
    c.loop-byte-test.true refl)
    (and_then g.B.Bench report_name c.loop-byte.invariant c.in_ok-put_byte.ensures)
