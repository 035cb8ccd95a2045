-- An order of two jobs.
use Rattle.std.proofs.Common.{◌≡◌, ◌∙◌, ℕ, zero, suc, ◌-◌, ◌<◌, [], ◌∷◌, slice_index_or, refl, subst, sym, arith}
use Rattle.workboard.specs.Indexed.{IsOrder}

-- the second job before the first
pub second_first : IsOrder 2 (1 ∷ 0 ∷ [])
second_first = record {
  few = omega arith;
  whole = refl;
  below = λ p lt. subst (λ x. x < 2) (sym (at p lt)) (omega arith);
  once = λ p q lp lq e. omega (arith, lp, lq, sym (at p lp) ∙ e ∙ at q lq);
  each = λ k lt. (1 - k, omega arith, at (1 - k) (omega arith) ∙ omega (arith, lt));
} where
  at : (p : ℕ) → p < 2 → slice_index_or (1 ∷ 0 ∷ []) p 0 ≡ 1 - p
  at zero lt = refl
  at (suc zero) lt = refl
  at (suc (suc p)) lt = absurd (omega (arith, lt))
