use Rattle.std.proofs.Common.{◌≡◌, take}
use Rattle.std.specs.List.{sum_by}
use Rattle.consolidation.specs.Sizes.{in_64_bits, run_bytes}
use Rattle.consolidation.proofs.sizes.kept_bytes.Given as goal

-- the sum of those so far
abbrev pub invariant-loop-run : goal.invariant-loop-run
invariant-loop-run l = l.sum ≡ in_64_bits (sum_by (run_bytes l.sounds) (take l.run-index l.runs))
