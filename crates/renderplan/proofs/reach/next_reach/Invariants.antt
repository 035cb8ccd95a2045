use Rattle.std.proofs.Common.{length, ◌+◌, ◌-◌}
use Rattle.renderplan.specs.Reaches.{IsReach, last}
use Rattle.renderplan.proofs.reach.next_reach.Given as goal

abbrev pub invariant-loop-reach : goal.invariant-loop-reach
invariant-loop-reach l = IsReach (last (length l.reaches + 1) l.pieces) l.reach

abbrev pub decreases-loop-reach : goal.decreases-loop-reach
decreases-loop-reach l = length l.reaches + 1 - l.reach.count
