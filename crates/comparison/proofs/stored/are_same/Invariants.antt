use Rattle.std.proofs.Common.{◌≡◌, ◌<◌, ℕ, true, get_or}
use Rattle.comparison.proofs.stored.are_same.Given as goal

-- the bytes before the index are equal
abbrev pub invariant-loop-k : goal.invariant-loop-k
invariant-loop-k l = l.same ≡ true → (k : ℕ) → k < l.k → get_or l.bytes k 0 ≡ get_or l.others k 0
