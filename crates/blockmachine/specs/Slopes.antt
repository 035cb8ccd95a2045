-- Gains of a shape by the fraction that rises at each sample.
use Rattle.std.specs.Prelude.{◌≡◌, ℕ, ◌+◌, ◌-◌, ◌<◌, ◌≤◌, Bool, true, false, IsTrue}
use Rattle.sound_terms.specs.declared.piece.Shape.{Shape}
use Rattle.sound_terms.specs.declared.piece.Shape.TheVariants.{Flat, Rise, Fall}

-- the gain: the rising fraction, or one minus it for a fade-out
abbrev pub fraction_at : (falls : Bool) → (num den : ℕ) → ℕ × ℕ
fraction_at true num den = (den - num, den)
fraction_at false num den = (num, den)

-- at sample i of the shape the fraction is num/den, and num grows by `by` per sample
abbrev pub IsAt : Shape → ℕ → (falls : Bool) → (num den by : ℕ) → Type 0
IsAt Flat i falls num den by = (falls ≡ false) × (num ≡ 1) × (den ≡ 1) × (by ≡ 0)
IsAt (Rise offset whole) i falls num den by = (falls ≡ false) × (num ≡ offset + i) × (den ≡ whole) × (by ≡ 1)
IsAt (Fall offset whole) i falls num den by = (falls ≡ true) × (num ≡ offset + i) × (den ≡ whole) × (by ≡ 1)

-- the shape has one more sample
pub record HasFrame (falls : Bool) (num den by : ℕ) : Type 0 where
  pub less : IsTrue falls → num < den
  pub room : num + by ≤ den
