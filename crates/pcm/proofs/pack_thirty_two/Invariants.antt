use Rattle.std.proofs.Common.{◌≡◌, ◌*◌, take}
use Rattle.std.specs.List.{flat_map}
use Rattle.sound_terms.specs.Waves.{sample_bytes}
use Rattle.pcm.proofs.pack_thirty_two.Given as goal

abbrev pub invariant-loop-i : goal.invariant-loop-i
invariant-loop-i l = take (l.i * 4) l.bytes ≡ flat_map (sample_bytes 32) (take l.i l.samples)
