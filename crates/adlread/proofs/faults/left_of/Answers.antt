use Rattle.adlread.proofs.FurtherLaws.{left-emptied, left-first, left-kept}
use Rattle.adlread.proofs.faults.left_of.Goals as goal

pub returns-then-number-first : goal.returns-then-number-first
returns-then-number-first c before lines at =
    rw c.opens_entry.ensures
    (left-first c.args.first before c.args.number c.args.is_in_faulty_entry.now c.args.line.now lines at
    c.if-number-first.true)

pub returns-then-is_in_faulty_entry : goal.returns-then-is_in_faulty_entry
returns-then-is_in_faulty_entry c before lines at =
    left-emptied c.args.first before c.args.number c.args.is_in_faulty_entry.now c.ends_entry.result c.args.line.now
    lines at c.if-number-first.false c.ends_entry.ensures c.if-is_in_faulty_entry.true

pub returns-else-is_in_faulty_entry : goal.returns-else-is_in_faulty_entry
returns-else-is_in_faulty_entry c before lines at =
    left-kept c.args.first before c.args.number c.args.is_in_faulty_entry.now c.ends_entry.result c.args.line.now
    lines at c.if-number-first.false c.ends_entry.ensures c.if-is_in_faulty_entry.false
