-- Equality of two projects, and their first difference.
use Rattle.std.specs.Prelude.{◌≡◌, ◌≢◌, ℕ, ◌-◌, ◌<◌, ℤ}
use Rattle.comparison.specs.declared.range.Selection.{Selection}
use Rattle.comparison.specs.declared.projects.Comparison.{Comparison}
use Rattle.comparison.specs.declared.projects.Comparison.TheVariants.{Same, Differs}
use Rattle.comparison.specs.Range.{Extent, IsChosen}

-- the exact sums are equal at every selected time of every selected channel
abbrev pub SoundAlike : Selection → (mix other : ℕ → ℕ → ℤ) → Type 0
SoundAlike selection mix other =
    (channel time : ℕ) → IsChosen selection channel time → mix channel time ≡ other channel time

-- the first difference among the selected samples: the earliest time, and there the lowest channel
pub record DifferAt (selection : Selection) (mix other : ℕ → ℕ → ℤ) (time channel : ℕ) (first second : ℤ)
    : Type 0 where
  pub is_chosen : IsChosen selection channel time
  pub sum : first ≡ mix channel time
  pub other_sum : second ≡ other channel time
  pub differ : mix channel time ≢ other channel time
  pub before : (any earlier : ℕ) → earlier < time → IsChosen selection any earlier → mix any earlier ≡ other any earlier
  pub below : (lower : ℕ) → lower < channel → mix lower time ≡ other lower time

-- the reported result is true of the two mixes
abbrev pub IsComparison : Selection → (mix other : ℕ → ℕ → ℤ) → Comparison → Type 0
IsComparison selection mix other (Same frames channels) = SoundAlike selection mix other
IsComparison selection mix other (Differs at channel first second) =
    DifferAt selection mix other at channel first second

-- the result reports the extent's numbers of samples and channels
abbrev pub HasCompared : Extent → Comparison → Type 0
HasCompared extent (Same frames channels) = (frames ≡ extent.to - extent.from) × (channels ≡ extent.channels)
HasCompared extent (Differs at channel first second) = Unit {0}
