use Rattle.std.proofs.Common.{◌≡◌, ◌-◌, ◌≤◌, length}
use Rattle.sound_terms.specs.Depth.{bits_of}
use Rattle.pcm.specs.Samples.{samples_in, summed}
use Rattle.pcm.proofs.lanes.add_lanes.Given as goal

abbrev pub invariant-loop-done : goal.invariant-loop-done
invariant-loop-done l = record {
  within : l.done ≤ length l.fn.sums;
  added : l.sums ≡ summed l.fn.sums (samples_in (bits_of l.depth) l.done l.bytes);
}

abbrev pub decreases-loop-done : goal.decreases-loop-done
decreases-loop-done l = length l.sums - l.done
