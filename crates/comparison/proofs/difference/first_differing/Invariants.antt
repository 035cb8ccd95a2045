use Rattle.std.proofs.Common.{◌≡◌, ◌<◌, ℕ, get_or}
use Rattle.std.specs.Prelude.{pos}
use Rattle.comparison.proofs.difference.first_differing.Given as goal

-- the sums before the index are equal
abbrev pub invariant-loop-k : goal.invariant-loop-k
invariant-loop-k l = (k : ℕ) → k < l.k → get_or l.sums k (pos 0) ≡ get_or l.others k (pos 0)
