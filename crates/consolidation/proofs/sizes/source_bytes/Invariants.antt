use Rattle.std.proofs.Common.{◌≡◌, take}
use Rattle.std.specs.List.{sum_by}
use Rattle.consolidation.specs.Sizes.{in_64_bits, sound_bytes}
use Rattle.consolidation.proofs.sizes.source_bytes.Given as goal

-- the sum of those so far
abbrev pub invariant-loop-sound : goal.invariant-loop-sound
invariant-loop-sound l = l.sum ≡ in_64_bits (sum_by sound_bytes (take l.sound-index l.sounds))
