use Rattle.std.proofs.Common.{◌≡◌, ◌*◌, ◌-◌, ◌≤◌, length, take}
use Rattle.std.specs.List.{flat_map}
use Rattle.sound_terms.specs.Waves.{sample_bytes}
use Rattle.pcm.proofs.lanes.pack_lanes.Given as goal

abbrev pub invariant-loop-bytes : goal.invariant-loop-bytes
invariant-loop-bytes l = record {
  within : l.done ≤ length l.samples;
  written : take (l.done * 3) l.bytes ≡ flat_map (sample_bytes 24) (take l.done l.samples);
}

abbrev pub decreases-loop-bytes : goal.decreases-loop-bytes
decreases-loop-bytes l = length l.samples - l.done
