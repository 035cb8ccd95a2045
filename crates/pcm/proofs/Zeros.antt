-- Lanes that are all zero.
use Rattle.std.proofs.Common.{◌≡◌, ℕ, zero, suc, ◌+◌, ◌-◌, ◌%◌, ◌^◌, ◌<◌, ◌≤◌, ◌↔◌, All, Bool, true, false, not, cond, eqb, List, [], ◌∷◌, map, length, get_or, replicate, take, drop, refl, sym, ap, ◌∙◌, subst, arith, eqb-true, eq-eqb, length-drop}
use Rattle.std.specs.Prelude.{ℤ, pos, negsuc}
use Rattle.std.proofs.lemmas.Bool.{eqb-false}
use Rattle.std.proofs.lemmas.Int.{ints}
use Rattle.std.proofs.lemmas.List.{get_or-drop, take-append-drop, take_rest}
use Rattle.std.proofs.lemmas.List.Elements.{All-append, All-more}
use Rattle.std.proofs.lemmas.Simd.{mask_l-mod}
use lib.Lanes.{zip2, mask_l, top}
use mir.Syntax.{w32}
use mir.Val.{SFits, of_z}

abbrev pub differs : ℕ → ℕ → ℕ
differs a b = cond (not (eqb a b)) 4294967295 0

of_zero : (z : ℤ) → SFits w32 z → (of_z w32 z ≡ 0) ↔ (z ≡ pos 0)
of_zero (pos n) fits = (λ e. ap pos e, λ e. omega (arith, ints))
of_zero (negsuc n) fits = (λ e. omega (arith, ints, fits), λ e. omega (arith, ints))

flag : (x : ℕ) → (◌≡◌ {A = ℕ} (cond (top 31 (differs x 0)) 1 0) 0) ↔ (x ≡ 0)
flag x = go (eqb x 0) refl
  where
    go : (t : Bool) → eqb x 0 ≡ t → (◌≡◌ {A = ℕ} (cond (top 31 (cond (not t) 4294967295 0)) 1 0) 0) ↔ (x ≡ 0)
    go true e = (λ _. eqb-true _ _ e, λ _. refl)
    go false e = (λ q. absurd (omega arith), λ z. absurd (eqb-false _ _ e z))

pub none_differ : (zs : List ℤ) → ((k : ℕ) → k < length zs → SFits w32 (get_or zs k (pos 0)))
    → (mask_l (map (top 31) (zip2 differs (map (of_z w32) zs) (replicate (length zs) 0))) ≡ 0)
    ↔ All (λ z. z ≡ pos 0) zs
none_differ [] fits = (λ _ i d below. absurd (omega arith), λ _. refl)
none_differ (z ∷ zs) fits =
    let r = none_differ zs (λ k below. fits (suc k) (omega arith)) in
    let first = of_zero z (fits 0 (omega arith)) in (
      λ e. elim [
        | zero ↦ λ d below. first.0 ((flag (of_z w32 z)).0 (omega arith))
        | suc i ↦ λ d below. r.0 (omega arith) i d (omega arith)
      ],
      λ h. omega (
        arith,
        (flag (of_z w32 z)).1 (first.1 (h 0 (pos 0) (omega arith))),
        r.1 (λ i d below. h (suc i) d (omega arith)),
      ),
    )

abbrev AreZero : List ℤ → Type 0
AreZero zs = All (λ z. z ≡ pos 0) zs

module _ (a b c d : ℤ) (first : SFits w32 a) (second : SFits w32 b) (third : SFits w32 c) (fourth : SFits w32 d) where
  fits : (k : ℕ) → k < 4 → SFits w32 (get_or (a ∷ b ∷ c ∷ d ∷ []) k (pos 0))
  fits zero below = first
  fits (suc zero) below = second
  fits (suc (suc zero)) below = third
  fits (suc (suc (suc zero))) below = fourth
  fits (suc (suc (suc (suc k)))) below = absurd (omega arith)

  -- four lanes are zero exactly if no comparison bit is set
  pub four_zero : (eqb (mask_l (map (top 31) (zip2 differs (map (of_z w32) (a ∷ b ∷ c ∷ d ∷ [])) (replicate 4 0)))
      % 2 ^ 64) 0 ≡ true) ↔ AreZero (a ∷ b ∷ c ∷ d ∷ [])
  four_zero =
      let small = mask_l-mod (map (top 31) (zip2 differs (map (of_z w32) (a ∷ b ∷ c ∷ d ∷ [])) (replicate 4 0))) 64
      (omega arith) in
      let none = none_differ (a ∷ b ∷ c ∷ d ∷ []) fits in
      (λ t. none.0 (sym small ∙ eqb-true _ _ t), λ all. eq-eqb _ _ (small ∙ none.1 all))

-- four more samples are zero
pub four_more : (samples : List ℤ) (n : ℕ) → n + 4 ≤ length samples → AreZero (take n samples)
    → get_or samples n (pos 0) ≡ pos 0 → get_or samples (n + 1) (pos 0) ≡ pos 0 → get_or samples (n + 2) (pos 0) ≡ pos 0
    → get_or samples (n + 3) (pos 0) ≡ pos 0 → AreZero (take (n + 4) samples)
four_more samples n inside before a b c d =
    let Z : ℤ → Type 0 = λ z. z ≡ pos 0 in
    let one = All-more Z samples n (pos 0) (omega arith) before a in
    let two = All-more Z samples (n + 1) (pos 0) (omega arith) one b in
    let e2 : n + 1 + 1 ≡ n + 2 = omega arith in
    let three = All-more Z samples (n + 2) (pos 0) (omega arith) (rw e2 at two) c in
    let e3 : n + 2 + 1 ≡ n + 3 = omega arith in
    let four = All-more Z samples (n + 3) (pos 0) (omega arith) (rw e3 at three) d in
    let e4 : n + 3 + 1 ≡ n + 4 = omega arith in
    rw e4 at four

-- if the first n samples are zero, the rest decides
pub all_by_rest : (samples : List ℤ) (n : ℕ) → AreZero (take n samples)
    → AreZero (take (length samples - n) (drop n samples)) ↔ AreZero samples
all_by_rest samples n front = rw (take_rest samples n) (
  λ rest. subst AreZero (take-append-drop n samples) (All-append (λ z. z ≡ pos 0) (take n samples) (drop n samples)
      front rest),
  λ all k d below. get_or-drop n samples k d ∙ all (n + k) d (omega (arith, length-drop n samples)),
)
