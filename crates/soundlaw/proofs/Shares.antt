-- Share of a sample by quotient and remainder.
use Rattle.std.proofs.Common.{◌≡◌, ◌≢◌, ℕ, zero, suc, ◌+◌, ◌*◌, ◌/◌, ◌%◌, ◌<◌, ◌≤◌, Bool, true, false, refl, sym, ap, ◌∙◌, arith}
use lib.IntN.{nat_abs}
use lib.Signed.{le_z}
use Rattle.std.specs.Prelude.{ℤ, pos, negsuc, neg_ℤ, ◌==◌, nat_le, if◌then◌else◌}
use Rattle.std.specs.Int.{int_div_euclid}
use Rattle.std.proofs.lemmas.Bool.Decides.{nat_tests}
use Rattle.std.proofs.lemmas.Bool.{eq-eqb, eqb-true}
use Rattle.std.proofs.Math.Nat.{div-add-mod, div-eq_of_lt-le, lt_of_mul-lt-mul_left, mul-add-div_right, mul-add-mod_self_right, mul-le-mul_left, mul-zero, zero-div, zero-mod}
use Rattle.std.proofs.Math.IntN.{negsuc-*ℤ-pos}
use Rattle.sound_terms.specs.Mix.{share_of}

-- a product by the quotient and the remainder of its first factor
product_by : (size num den : ℕ) → size * num ≡ size / den * num * den + size % den * num
product_by size num den =
    let whole = ap (λ x. x * num) (div-add-mod size den) in
    omega (arith, whole)

pub quotient_by : (size num den : ℕ) → 0 < den → size / den * num + size % den * num / den ≡ size * num / den
quotient_by size num den some =
    sym (ap (λ x. x / den) (product_by size num den) ∙ mul-add-div_right some (size / den * num) (size % den * num))

pub rest_by : (size num den : ℕ) → size % den * num % den ≡ size * num % den
rest_by size num den =
    sym (ap (λ x. x % den) (product_by size num den) ∙ mul-add-mod_self_right (size / den * num) den (size % den * num))

-- a quotient that was rounded down is smaller than its size
pub rounded_is_smaller : (size num den : ℕ) → num ≤ den → 0 < den → size * num % den ≢ 0 → size * num / den < size
rounded_is_smaller size num den le some rest =
    let parts = div-add-mod (size * num) den in
    let most : size * num ≤ size * den = mul-le-mul_left size le in
    let less : den * (size * num / den) < den * size = omega (arith, parts, most) in
    lt_of_mul-lt-mul_left den less

next_down : (n den : ℕ) (exact : Bool) → 0 < den → (suc n % den == 0) ≡ exact
    → negsuc (n / den) ≡ (if exact then neg_ℤ (pos (suc n / den)) else negsuc (suc n / den))
next_down n den true some e = by_quotient (suc n / den) refl where
  by_quotient : (q : ℕ) → suc n / den ≡ q → negsuc (n / den) ≡ neg_ℤ (pos (suc n / den))
  by_quotient zero none =
      let rest : suc n % den ≡ 0 = eqb-true (suc n % den) 0 e in
      let parts = div-add-mod (suc n) den in
      let nothing : den * (suc n / den) ≡ 0 = ap (λ x. den * x) none ∙ mul-zero den in
      absurd (omega (arith, parts, rest, nothing))
  by_quotient (suc k) is =
      let rest : suc n % den ≡ 0 = eqb-true (suc n % den) 0 e in
      let parts = div-add-mod (suc n) den in
      let whole : den * (suc n / den) ≡ den * suc k = ap (λ x. den * x) is in
      let low : k * den ≤ n = omega (arith, parts, rest, whole) in
      let high : n < (k + 1) * den = omega (arith, parts, rest, whole) in
      rw (is, div-eq_of_lt-le {k = k} den {m = n} low high) refl
next_down n den false some e =
    let rest : suc n % den ≢ 0 = λ none. let yes = eq-eqb (suc n % den) 0 none in cc in
    let parts = div-add-mod (suc n) den in
    let less : suc n % den < den = omega arith in
    let low : suc n / den * den ≤ n = omega (arith, parts) in
    let high : n < (suc n / den + 1) * den = omega (arith, parts, less) in
    ap negsuc (div-eq_of_lt-le {k = suc n / den} den {m = n} low high)

-- quotient of a negative number: the next lower number if it is inexact
below : (product den : ℕ) → 0 < den → int_div_euclid (neg_ℤ (pos product)) (pos den)
    ≡ (if product % den == 0 then neg_ℤ (pos (product / den)) else negsuc (product / den))
below zero den some =
    let none : 0 / den ≡ 0 = zero-div den in
    let rest : 0 % den ≡ 0 = zero-mod den in
    rw (none, rest) refl
below (suc n) den some = next_down n den (suc n % den == 0) some refl

pub share_down : (n num den : ℕ) → 0 < den → share_of (negsuc n) (num, den)
    ≡ (if suc n * num % den == 0 then neg_ℤ (pos (suc n * num / den)) else negsuc (suc n * num / den))
share_down n num den some = ap (λ z. int_div_euclid z (pos den)) (negsuc-*ℤ-pos n num) ∙ below (suc n * num) den some

-- share of a negative sample by the quotient of its absolute value
pub share_below : (v r : ℤ) (size num den q : ℕ) (exact : Bool) → le_z (pos 0) v ≡ false → size ≡ nat_abs v
    → q ≡ size * num / den
    → exact ≡ (size * num % den == 0) → r ≡ (if exact then neg_ℤ (pos q) else negsuc q) → 0 < den
    → r ≡ share_of v (num, den)
share_below (pos n) r size num den q exact negative abs quotient is_exact result some =
    let least : nat_le 0 n ≡ true = grind (arith, nat_tests) in
    let contrary : nat_le 0 n ≡ false = negative in cc
share_below (negsuc n) r size num den q exact negative abs quotient is_exact result some =
    result ∙ rw (is_exact, quotient, abs) refl ∙ sym (share_down n num den some)
