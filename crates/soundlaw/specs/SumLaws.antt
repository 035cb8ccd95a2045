-- Sums of few samples fit 64 bits, since no addition exceeds full scale.
use Rattle.std.proofs.Common.{◌≡◌, ℕ, zero, suc, ◌+◌, ◌-◌, ◌*◌, ◌/◌, ◌^◌, ◌<◌, ◌≤◌, min, sym, ap, subst, arith}
use Rattle.std.specs.Prelude.{ℤ, pos, negsuc, neg_ℤ, ◌+ℤ◌}
use Rattle.std.specs.Int.{int_div_euclid}
use Rattle.std.proofs.lemmas.Int.{ints}
use Rattle.std.proofs.Math.Nat.{div-le_of_le-mul, div-lt_iff_lt-mul, mul-le-mul_left, zero-div}
use Rattle.std.proofs.Math.IntN.{negsuc-*ℤ-pos, pos-*ℤ-pos}
use Rattle.sound_terms.specs.Mix.{share_of}
use Rattle.sound_terms.specs.Blocks.{held}
use Rattle.soundlaw.specs.Sums.{IsWithin}

pub within_add : (m n : ℕ) (x y : ℤ) → IsWithin m x → IsWithin n y → IsWithin (m + n) (x +ℤ y)
within_add m n x y first second = (omega (arith, ints, first, second), omega (arith, ints, first, second))

-- a sum of at most 32767 samples is not changed by saturation
pub held_few : (m : ℕ) (z : ℤ) → m ≤ 32767 → IsWithin m z → held z ≡ z
held_few m (pos n) few within =
    let below : min n (2 ^ 63 - 1) ≡ n = omega (arith, ints, within) in ap pos below
held_few m (negsuc n) few within =
    let below : min n (2 ^ 63 - 1) ≡ n = omega (arith, ints, within) in ap negsuc below

negative_share : (n den bound : ℕ) → 0 < den → n ≤ bound * den → bound ≤ 2 ^ 47
    → IsWithin 1 (int_div_euclid (neg_ℤ (pos n)) (pos den))
negative_share zero den bound some few small = let none : 0 / den ≡ 0 = zero-div den in
    rw none (omega (arith, ints), omega (arith, ints))
negative_share (suc n) den zero some few small = absurd (omega arith)
negative_share (suc n) den (suc bound) some few small =
    let less : n / den < suc bound = (div-lt_iff_lt-mul some).1 few in
    (omega (arith, ints, less), omega (arith, ints, less))

pub share_within : (v : ℤ) (num den : ℕ) → IsWithin 1 v → num ≤ den → 0 < den → IsWithin 1 (share_of v (num, den))
share_within (pos n) num den within le some =
    let less : n * num / den ≤ n = div-le_of_le-mul den (omega (arith, mul-le-mul_left n le)) in
    let is : share_of (pos n) (num, den) ≡ pos (n * num / den) =
    ap (λ z. int_div_euclid z (pos den)) (pos-*ℤ-pos n num) in
    subst (λ (z : ℤ). IsWithin 1 z) (sym is) (omega (arith, ints, less, within), omega (arith, ints, less, within))
share_within (negsuc n) num den within le some =
    let is : share_of (negsuc n) (num, den) ≡ int_div_euclid (neg_ℤ (pos (suc n * num))) (pos den) =
    ap (λ z. int_div_euclid z (pos den)) (negsuc-*ℤ-pos n num) in
    subst (λ (z : ℤ). IsWithin 1 z) (sym is)
    (negative_share (suc n * num) den (suc n) some (mul-le-mul_left (suc n) le) (omega (arith, ints, within)))

-- saturation does not increase the absolute value of a sum
pub held_grow : (m : ℕ) (z : ℤ) → IsWithin m z → IsWithin m (held z)
held_grow m (pos n) within = (omega (arith, ints, within), omega (arith, ints, within))
held_grow m (negsuc n) within = (omega (arith, ints, within), omega (arith, ints, within))

pub within_more : (m n : ℕ) (z : ℤ) → m ≤ n → IsWithin m z → IsWithin n z
within_more m n z more within = (omega (arith, ints, more, within), omega (arith, ints, more, within))
