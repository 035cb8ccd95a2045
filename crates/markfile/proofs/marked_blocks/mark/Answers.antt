use Rattle.std.proofs.Common.{◌+◌, arith}
use Rattle.markfile.specs.Started.{LeavesMark, LeavesMarks}
use Rattle.markfile.proofs.Moments.{weaker}
use Rattle.markfile.proofs.Single.{answers_one, leaves_one}
use Rattle.markfile.proofs.marked_blocks.mark.Goals as goal

pub returns-clause-marked : goal.returns-clause-marked
returns-clause-marked g c honest run marks lasts fits =
    answers_one g.B.Bench run c.args.block marks c.set_marks.new.bench c.set_marks.result
    (c.set_marks.ensures.marked honest run marks lasts (omega arith))

pub returns-clause-any_moment : goal.returns-clause-any_moment
returns-clause-any_moment g c honest run marks lasts =
    let o = g.B.Bench.may_leave c.args.bench.now in
    let block = c.args.block in
    weaker g.B.Bench.moment g.B.Bench.left_since c.args.bench.now c.set_marks.new.bench
    (LeavesMarks run block (block + 1) marks o) (LeavesMark run block marks o) (leaves_one run block marks o)
    (c.set_marks.ensures.any_moment honest run marks lasts)

pub returns-clause-crash : goal.returns-clause-crash
returns-clause-crash g c honest run marks lasts x left =
    leaves_one run c.args.block marks (g.B.Bench.may_leave c.args.bench.now) x
    (c.set_marks.ensures.crash honest run marks lasts x left)
