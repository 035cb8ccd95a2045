-- The gain of a shape, sample by sample.
use Rattle.std.proofs.Common.{◌≡◌, ℕ, ◌+◌, Bool, refl, true, false, ◌∙◌, arith}
use Rattle.sound_terms.specs.declared.piece.Shape.{Shape}
use Rattle.sound_terms.specs.declared.piece.Shape.TheVariants.{Flat, Rise, Fall}
use Rattle.sound_terms.specs.Groups.{IsRamp, fraction_of}
use Rattle.blockmachine.specs.Slopes.{HasFrame, IsAt, fraction_at}

pub slope_fraction : (shape : Shape) (i : ℕ) (falls : Bool) (num den by : ℕ) → IsAt shape i falls num den by
    → fraction_at falls num den ≡ fraction_of shape i
slope_fraction Flat i falls num den by at = rw (at.0, at.1, at.2) refl
slope_fraction (Rise offset whole) i falls num den by at = rw (at.0, at.1, at.2) refl
slope_fraction (Fall offset whole) i falls num den by at = rw (at.0, at.1, at.2) refl

-- one sample later
pub slope_next : (shape : Shape) (i : ℕ) (falls later_falls : Bool) (num den by later later_den later_by : ℕ)
    → IsAt shape i falls num den by → later_falls ≡ falls → later ≡ num + by → later_den ≡ den → later_by ≡ by
    → IsAt shape (i + 1) later_falls later later_den later_by
slope_next Flat i falls later_falls num den by later later_den later_by at f n d b =
    (f ∙ at.0, omega (arith, n, at.1, at.3), d ∙ at.2, b ∙ at.3)
slope_next (Rise offset whole) i falls later_falls num den by later later_den later_by at f n d b =
    (f ∙ at.0, omega (arith, n, at.1, at.3), d ∙ at.2, b ∙ at.3)
slope_next (Fall offset whole) i falls later_falls num den by later later_den later_by at f n d b =
    (f ∙ at.0, omega (arith, n, at.1, at.3), d ∙ at.2, b ∙ at.3)

-- there is one more sample before the end of the shape
pub slope_more : (shape : Shape) (i : ℕ) (falls : Bool) (num den by : ℕ) → IsAt shape i falls num den by
    → IsRamp shape (i + 1) → HasFrame falls num den by
slope_more Flat i falls num den by at ramp = record {
  less = λ yes. let none : falls ≡ false = at.0 in let some : falls ≡ true = yes in cc;
  room = omega (arith, at.1, at.2, at.3);
}
slope_more (Rise offset whole) i falls num den by at ramp = record {
  less = λ yes. omega (arith, at.1, at.2, ramp.0);
  room = omega (arith, at.1, at.2, at.3, ramp.0);
}
slope_more (Fall offset whole) i falls num den by at ramp = record {
  less = λ yes. omega (arith, at.1, at.2, ramp.0);
  room = omega (arith, at.1, at.2, at.3, ramp.0);
}
