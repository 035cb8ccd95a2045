use Rattle.std.proofs.Common.{◌≡◌, ◌<◌, ℕ, true, get_or}
use Rattle.std.specs.Prelude.{pos}
use Rattle.comparison.proofs.difference.are_same.Given as goal

-- the sums before the index are equal
abbrev pub invariant-loop-k : goal.invariant-loop-k
invariant-loop-k l = l.same ≡ true → (k : ℕ) → k < l.k → get_or l.sums k (pos 0) ≡ get_or l.others k (pos 0)
