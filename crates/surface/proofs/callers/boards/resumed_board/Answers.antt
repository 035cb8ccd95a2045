use Rattle.surface.proofs.Pair.{second_first}
use Rattle.surface.proofs.callers.boards.resumed_board.Goals as goal

pub with_done-requires-clause-order : goal.with_done-requires-clause-order
with_done-requires-clause-order c = rw c.in_ok-vec.ensures.items second_first
