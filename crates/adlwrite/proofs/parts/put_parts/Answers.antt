use Rattle.adlwrite.specs.Parts.{list_text}
use Rattle.devices.specs.AppendLaws.{and_then, stopped}
use Rattle.adlwrite.proofs.parts.put_parts.Goals as goal

pub returns-in_err-put_start-clause-appends : goal.returns-in_err-put_start-clause-appends
unfolding list_text
returns-in_err-put_start-clause-appends g c =
    stopped g.B.Bench c.args.file.now.name.now _ _ c.from_residual.result c.from_residual.ensures.1 c.in_err-put_start.ensures.appends

pub returns-in_err-put_head-clause-appends : goal.returns-in_err-put_head-clause-appends
unfolding list_text
returns-in_err-put_head-clause-appends g c =
    and_then g.B.Bench c.args.file.now.name.now c.in_ok-put_start.ensures.appends
    (stopped g.B.Bench c.args.file.now.name.now _ _ c.from_residual-in_err-put_head.result
    c.from_residual-in_err-put_head.ensures.1 c.in_err-put_head.ensures)

pub returns-in_err-put_section-clause-appends : goal.returns-in_err-put_section-clause-appends
unfolding list_text
returns-in_err-put_section-clause-appends g c =
    and_then g.B.Bench c.args.file.now.name.now c.in_ok-put_start.ensures.appends
    (and_then g.B.Bench c.args.file.now.name.now c.in_ok-put_head.ensures
    (stopped g.B.Bench c.args.file.now.name.now _ _ c.from_residual-in_err-put_section.result
    c.from_residual-in_err-put_section.ensures.1 c.in_err-put_section.ensures))

pub returns-in_err-put_section-2-clause-appends : goal.returns-in_err-put_section-2-clause-appends
unfolding list_text
returns-in_err-put_section-2-clause-appends g c =
    and_then g.B.Bench c.args.file.now.name.now c.in_ok-put_start.ensures.appends
    (and_then g.B.Bench c.args.file.now.name.now c.in_ok-put_head.ensures
    (and_then g.B.Bench c.args.file.now.name.now c.in_ok-put_section.ensures
    (stopped g.B.Bench c.args.file.now.name.now _ _ c.from_residual-in_err-put_section-2.result
    c.from_residual-in_err-put_section-2.ensures.1 c.in_err-put_section-2.ensures)))

pub returns-clause-appends : goal.returns-clause-appends
unfolding list_text
returns-clause-appends g c =
    and_then g.B.Bench c.args.file.now.name.now c.in_ok-put_start.ensures.appends
    (and_then g.B.Bench c.args.file.now.name.now c.in_ok-put_head.ensures
    (and_then g.B.Bench c.args.file.now.name.now c.in_ok-put_section.ensures
    (and_then g.B.Bench c.args.file.now.name.now c.in_ok-put_section-2.ensures
    c.put.ensures)))
