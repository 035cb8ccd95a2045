use Rattle.std.proofs.Common.{arith}
use Rattle.adltoken.proofs.FirstLine.{lines_in-cut, lines_in-last}
use Rattle.adltoken.proofs.lines.first_line.Goals as goal

pub returns-in-empty-clause-line : goal.returns-in-empty-clause-line
returns-in-empty-clause-line c =
    lines_in-last c.args.text.now c.split_at.result.0.now c.split_at.result.1.now c.without_cr.result.now
    c.line_length.result
    c.requires c.line_length.ensures.position c.split_at.ensures.front c.split_at.ensures.back c.without_cr.ensures
    (omega arith)

pub returns-in-len1-up-clause-line : goal.returns-in-len1-up-clause-line
returns-in-len1-up-clause-line c =
    lines_in-cut c.args.text.now c.split_at.result.0.now c.split_at.result.1.now c.without_cr-in-len1-up.result.now
    c.line_length.result
    c.line_length.ensures.position c.split_at.ensures.front c.split_at.ensures.back c.without_cr-in-len1-up.ensures
    (omega arith)
