use Rattle.renderreport.specs.Parts.{report_parts}
use Rattle.renderreport.specs.Report.{report_name}
use Rattle.devices.specs.AppendLaws.{and_then, stopped}
use Rattle.renderreport.proofs.parts.put_report.Goals as goal

pub returns-in_err-put_opening : goal.returns-in_err-put_opening
unfolding report_parts
returns-in_err-put_opening g c =
    stopped g.B.Bench report_name _ _ c.from_residual.result c.from_residual.ensures.1 c.in_err-put_opening.ensures

pub returns-in_err-put_channels : goal.returns-in_err-put_channels
unfolding report_parts
returns-in_err-put_channels g c =
    and_then g.B.Bench report_name c.in_ok-put_opening.ensures
    (stopped g.B.Bench report_name _ _ c.from_residual-in_err-put_channels.result c.from_residual-in_err-put_channels.ensures.1 c.in_err-put_channels.ensures)

pub returns-in_err-put_clipped_end : goal.returns-in_err-put_clipped_end
unfolding report_parts
returns-in_err-put_clipped_end g c =
    and_then g.B.Bench report_name c.in_ok-put_opening.ensures
    (and_then g.B.Bench report_name c.in_ok-put_channels.ensures
    (stopped g.B.Bench report_name _ _ c.from_residual-in_err-put_clipped_end.result c.from_residual-in_err-put_clipped_end.ensures.1 c.in_err-put_clipped_end.ensures))

pub returns-in_err-put_range : goal.returns-in_err-put_range
unfolding report_parts
returns-in_err-put_range g c =
    and_then g.B.Bench report_name c.in_ok-put_opening.ensures
    (and_then g.B.Bench report_name c.in_ok-put_channels.ensures
    (and_then g.B.Bench report_name c.in_ok-put_clipped_end.ensures
    (stopped g.B.Bench report_name _ _ c.from_residual-in_err-put_range.result c.from_residual-in_err-put_range.ensures.1 c.in_err-put_range.ensures)))

pub returns : goal.returns
unfolding report_parts
returns g c =
    and_then g.B.Bench report_name c.in_ok-put_opening.ensures
    (and_then g.B.Bench report_name c.in_ok-put_channels.ensures
    (and_then g.B.Bench report_name c.in_ok-put_clipped_end.ensures
    (and_then g.B.Bench report_name c.in_ok-put_range.ensures
    c.put_end.ensures)))
