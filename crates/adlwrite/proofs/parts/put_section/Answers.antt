use Rattle.adlwrite.specs.Parts.{ending_text, opening_text, section_text}
use Rattle.devices.specs.AppendLaws.{and_then, stopped}
use Rattle.adlwrite.proofs.parts.put_section.Goals as goal

pub returns-in_err-put_all : goal.returns-in_err-put_all
unfolding section_text opening_text ending_text
returns-in_err-put_all g c =
    stopped g.B.Bench c.args.file.now.name.now _ _ c.from_residual.result c.from_residual.ensures.1 c.in_err-put_all.ensures

pub returns-in_err-put_all-2 : goal.returns-in_err-put_all-2
unfolding section_text opening_text ending_text
returns-in_err-put_all-2 g c =
    and_then g.B.Bench c.args.file.now.name.now c.in_ok-put_all.ensures
    (stopped g.B.Bench c.args.file.now.name.now _ _ c.from_residual-in_err-put_all-2.result
    c.from_residual-in_err-put_all-2.ensures.1 c.in_err-put_all-2.ensures)

pub returns : goal.returns
unfolding section_text opening_text ending_text
returns g c =
    and_then g.B.Bench c.args.file.now.name.now c.in_ok-put_all.ensures
    (and_then g.B.Bench c.args.file.now.name.now c.in_ok-put_all-2.ensures
    c.put_all-3.ensures)
