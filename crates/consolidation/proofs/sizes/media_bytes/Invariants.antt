use Rattle.std.proofs.Common.{◌≡◌, List, take}
use Rattle.std.specs.List.{sum_by}
use Rattle.sound_terms.specs.declared.piece.Home.{Home}
use Rattle.consolidation.specs.Sizes.{in_64_bits, medium_bytes}
use Rattle.consolidation.proofs.sizes.media_bytes.Given as goal

-- the sum of those so far
abbrev pub invariant-loop-run : goal.invariant-loop-run
invariant-loop-run l =
    (homes : List Home) → l.sum ≡ in_64_bits (sum_by (medium_bytes l.sounds homes) (take l.run-index l.runs))
