use Rattle.std.proofs.Common.{◌-◌, ◌≤◌, length}
use Rattle.sound_terms.specs.Depth.{bits_of}
use Rattle.blockmachine.specs.Sums.{HasAddedTo}
use Rattle.blockmachine.proofs.addition.add_lanes.Given as goal

abbrev pub invariant-loop-sums : goal.invariant-loop-sums
invariant-loop-sums l = record {
  within : l.done ≤ length l.sums;
  added : HasAddedTo l.done (1, 1) (bits_of l.row.scale.depth) l.row.samples.now l.fn.sums l.sums;
}

abbrev pub decreases-loop-sums : goal.decreases-loop-sums
decreases-loop-sums l = length l.sums - l.done
