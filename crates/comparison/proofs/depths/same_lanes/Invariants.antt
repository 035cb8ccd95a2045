use Rattle.std.proofs.Common.{◌≡◌, ◌-◌, ◌≤◌}
use Rattle.sound_terms.specs.Depth.{bits_of}
use Rattle.comparison.specs.Stored.{full_samples}
use Rattle.comparison.proofs.depths.same_lanes.Given as goal

-- the samples before the index are equal
abbrev pub invariant-loop-done : goal.invariant-loop-done
invariant-loop-done l = record {
  within : l.done ≤ l.pair.count;
  same : full_samples (bits_of l.pair.depth) l.done l.bytes ≡ full_samples (bits_of l.pair.other) l.done l.others;
}

abbrev pub decreases-loop-done : goal.decreases-loop-done
decreases-loop-done l = l.pair.count - l.done
