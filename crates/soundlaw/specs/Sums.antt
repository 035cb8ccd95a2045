-- Bounds of sums of samples at full scale.
use Rattle.std.specs.Prelude.{ℕ, ◌*◌, ◌^◌, Bool, ℤ, pos, neg_ℤ, ◌≤ℤ◌, IsTrue}

-- the absolute value is at most m times full scale
abbrev pub IsWithin : ℕ → ℤ → Type 0
IsWithin m z = (neg_ℤ (pos (m * 2 ^ 47)) ≤ℤ z) × (z ≤ℤ pos (m * 2 ^ 47))

-- the addition of a sample or a share of one; a small sum is one of at most 32766 samples
pub record TakeShare (is_small : Bool) (sum added : ℤ) : Type 0 where
  pub small : IsTrue is_small → IsWithin 32766 sum
  pub share : IsWithin 1 added
