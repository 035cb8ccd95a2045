use Rattle.surface.proofs.Pair.{second_first}
use Rattle.surface.proofs.callers.boards.new_board.Goals as goal

pub new-requires : goal.new-requires
new-requires c = rw c.in_ok-vec.ensures.items second_first
