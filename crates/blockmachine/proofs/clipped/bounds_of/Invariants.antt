use Rattle.std.proofs.Common.{ℕ, ◌<◌, get_or}
use Rattle.std.specs.Prelude.{ℤ, ◌≤ℤ◌}
use Rattle.blockmachine.proofs.clipped.bounds_of.Given as goal

abbrev pub invariant-loop-k : goal.invariant-loop-k
invariant-loop-k l = (k : ℕ) (d : ℤ) → k < l.k → (l.least ≤ℤ get_or l.samples k d) × (get_or l.samples k d ≤ℤ l.greatest)
