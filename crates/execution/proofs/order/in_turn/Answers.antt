use Rattle.std.proofs.Common.{◌≡◌, sym, rules}
use Rattle.std.specs.List.{range_with_len}
use Rattle.execution.proofs.Orders.{order-fresh, range-more}
use Rattle.execution.proofs.order.in_turn.Goals as goal

pub loop-job-preserved : goal.loop-job-preserved
loop-job-preserved c = rw (c.in-Ok.ensures.items, c.loop-job.invariant) (sym (range-more c.loop-job.job))

pub returns-clause-order : goal.returns-clause-order
returns-clause-order c =
    let numbers : c.loop-job.order.items ≡ range_with_len 0 c.args.count = search rules in
    rw numbers (order-fresh c.args.count (search rules))
