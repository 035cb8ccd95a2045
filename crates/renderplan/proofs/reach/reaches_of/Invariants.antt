use Rattle.std.proofs.Common.{length, ◌-◌, ◌≤◌}
use Rattle.renderplan.specs.Reaches.{AreReaches}
use Rattle.renderplan.proofs.reach.reaches_of.Given as goal

abbrev pub invariant-loop-reaches : goal.invariant-loop-reaches
invariant-loop-reaches l = record {
  few : length l.reaches.items ≤ length l.pieces;
  far : AreReaches l.pieces l.reaches.items;
}

abbrev pub decreases-loop-reaches : goal.decreases-loop-reaches
decreases-loop-reaches l = length l.pieces - length l.reaches.items
