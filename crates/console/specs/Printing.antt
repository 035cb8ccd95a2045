-- Effects of a print.
use Rattle.std.specs.Prelude.{◌≡◌, ℕ, ◌+◌, ◌^◌, ◌<◌, ◌≤◌, List, Option}
use Rattle.std.specs.Io.KnownBytes.{Appends}

-- no print has failed, and the count of failures is below its maximum
abbrev pub NoneFailed : ℕ → ℕ → Type 0
NoneFailed before now = (before + 1 < 2 ^ 64) × (now ≡ before)

-- the text was printed, unless a print failed, which is counted
pub record Prints {O : Type 0} (contents : O → Option (List ℕ)) (failures : O → ℕ) (old new : O) (text : List ℕ)
    : Type 0 where
  pub later : failures old ≤ failures new
  pub printed : NoneFailed (failures old) (failures new) → Appends (contents old) (contents new) text
