-- Equality of two mixes in a range, and their first difference.
use Rattle.std.specs.Prelude.{◌≡◌, ◌≢◌, ℕ, ◌<◌, ◌≤◌, ℤ, pos, List, slice_index_or, Option, None, Some}
use Rattle.comparison.specs.declared.difference.Difference.{Difference}

-- the exact sums are equal on channels 1 to `channels` at each time of the range
abbrev pub AreAlike : (from to channels : ℕ) → (mix other : ℕ → ℕ → ℤ) → Type 0
AreAlike from to channels mix other = (channel time : ℕ) → 1 ≤ channel → channel ≤ channels → from ≤ time → time < to
    → mix channel time ≡ other channel time

-- the first difference: sums that differ, at the earliest time and there on the lowest channel
pub record DifferFirst (from to channels : ℕ) (mix other : ℕ → ℕ → ℤ) (found : Difference) : Type 0 where
  pub begun : from ≤ found.at
  pub before_end : found.at < to
  pub from_one : 1 ≤ found.channel
  pub to_last : found.channel ≤ channels
  pub sum : found.first ≡ mix found.channel found.at
  pub other_sum : found.second ≡ other found.channel found.at
  pub differ : mix found.channel found.at ≢ other found.channel found.at
  pub before : AreAlike from found.at channels mix other
  pub below : (lower : ℕ) → 1 ≤ lower → lower < found.channel → mix lower found.at ≡ other lower found.at

-- the result of a comparison: equal mixes, or their first difference
abbrev pub IsCompared : (from to channels : ℕ) → (mix other : ℕ → ℕ → ℤ) → Option Difference → Type 0
IsCompared from to channels mix other None = AreAlike from to channels mix other
IsCompared from to channels mix other (Some difference) = DifferFirst from to channels mix other difference

-- the index of the first difference among the first n numbers of two lists, if any
abbrev pub IsFirstDiffering : (numbers others : List ℤ) → ℕ → Option ℕ → Type 0
IsFirstDiffering numbers others n None =
    (k : ℕ) → k < n → slice_index_or numbers k (pos 0) ≡ slice_index_or others k (pos 0)
IsFirstDiffering numbers others n (Some at) =
    (at < n) × (slice_index_or numbers at (pos 0) ≢ slice_index_or others at (pos 0))
    × ((k : ℕ) → k < at → slice_index_or numbers k (pos 0) ≡ slice_index_or others k (pos 0))
