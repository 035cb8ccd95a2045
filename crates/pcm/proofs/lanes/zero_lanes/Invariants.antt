use Rattle.std.proofs.Common.{◌≡◌, ◌-◌, ◌≤◌, All, length, take}
use Rattle.std.specs.Prelude.{pos}
use Rattle.pcm.proofs.lanes.zero_lanes.Given as goal

abbrev pub invariant-loop-done : goal.invariant-loop-done
invariant-loop-done l = record {
  within : l.done ≤ length l.samples;
  zero : All (λ sample. sample ≡ pos 0) (take l.done l.samples);
}

abbrev pub decreases-loop-done : goal.decreases-loop-done
decreases-loop-done l = length l.samples - l.done
