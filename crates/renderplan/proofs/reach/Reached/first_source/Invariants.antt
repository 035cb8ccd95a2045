use Rattle.std.proofs.Common.{◌≡◌, ◌≤◌, ◌-◌, length, drop}
use Rattle.renderplan.specs.Sources as spec
use Rattle.renderplan.proofs.reach.Reached.first_source.Given as goal

abbrev pub invariant-loop-next : goal.invariant-loop-next
invariant-loop-next l = record {
  within : l.next ≤ length l.pieces;
  left : spec.first_source l.window.from l.window.frames l.window.channels (drop l.next l.pieces)
      ≡ spec.first_source l.window.from l.window.frames l.window.channels l.pieces;
}

abbrev pub decreases-loop-next : goal.decreases-loop-next
decreases-loop-next l = length l.pieces - l.next
