use Rattle.std.proofs.Common.{rules, length, get_or}
use Rattle.std.proofs.lemmas.List.Sorted.{IsNonDecreasingBy-from_sort_by_key}
use Rattle.execution.proofs.Orders.{order-permuted}
use Rattle.execution.proofs.order.in_order_of.Goals as goal

pub returns-in-Ok-clause-order : goal.returns-in-Ok-clause-order
returns-in-Ok-clause-order c = order-permuted (length c.args.keys.now) c.in_ok-order.order.items
    c.sort_by_key.new.self.items
    c.sort_by_key.ensures.permutation c.in_ok-order.ensures.order

pub returns-in-Ok-clause-sorted : goal.returns-in-Ok-clause-sorted
returns-in-Ok-clause-sorted c = IsNonDecreasingBy-from_sort_by_key (λ job. get_or c.args.keys.now job 0) _
    c.in-Ok.ensures.sorted (λ a r f k. search rules)
