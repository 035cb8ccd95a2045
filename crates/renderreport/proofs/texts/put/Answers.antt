use Rattle.std.proofs.Common.{[], refl}
use Rattle.renderreport.specs.declared.texts.Part.TheVariants.{Plain}
use Rattle.renderreport.specs.Parts.{all_of, part_text}
use Rattle.renderreport.specs.Report.{report_name}
use Rattle.devices.specs.AppendLaws.{and_then, nothing, said, stopped}
use Rattle.renderreport.proofs.OnePart.{all_but, one_more}
use Rattle.renderreport.proofs.texts.put.Goals as goal

pub loop-part-init : goal.loop-part-init
unfolding all_of
loop-part-init g c = nothing g.B.Bench report_name c.args.bench.now tt (g.met.B.Bench.only_now c.args.bench.now)

pub returns-in_err-put_part : goal.returns-in_err-put_part
unfolding all_of
returns-in_err-put_part g c =
    said g.B.Bench report_name (all_but part_text c.args.parts.now c.loop-part.part-index
    (Plain (record { ref_ptr = (0, 0); now = [] })) c.loop-part-test.true refl)
    (and_then g.B.Bench report_name c.loop-part.invariant
    (stopped g.B.Bench report_name _ _ c.from_residual.result c.from_residual.ensures.1 c.in_err-put_part.ensures))

pub loop-part-preserved : goal.loop-part-preserved
unfolding all_of
loop-part-preserved g c =
    said g.B.Bench report_name (one_more part_text c.args.parts.now c.loop-part.part-index
    (Plain (record { ref_ptr = (0, 0); now = [] })) c.loop-part-test.true refl)
    (and_then g.B.Bench report_name c.loop-part.invariant c.in_ok-put_part.ensures)
