-- Sums in 64-bit lanes.
use Rattle.std.proofs.Common.{◌≡◌, ◌⊎◌, inl, inr, ℕ, suc, ◌+◌, ◌-◌, ◌%◌, ◌^◌, ◌<◌, ◌≤◌, sym, ap, ◌∙◌, arith}
use Rattle.std.specs.Prelude.{ℤ, pos, negsuc, ◌+ℤ◌}
use Rattle.std.proofs.lemmas.Bool.{cases_lt}
use Rattle.std.proofs.lemmas.Int.{ints, to_z-of_z}
use mir.Syntax.{w64}
use mir.Val.{SFits, of_z, to_z}
use Rattle.sound_terms.specs.Blocks.{held}
use Rattle.soundlaw.specs.Sums.{IsWithin}
use Rattle.soundlaw.specs.SumLaws.{held_few, within_add}

-- difference of two numbers, by their order
less : (n m : ℕ) → m ≤ n → negsuc n +ℤ pos m ≡ negsuc (n - m)
less n m le = omega (arith, ints, le)

more : (n m : ℕ) → n < m → negsuc n +ℤ pos m ≡ pos (m - suc n)
more n m lt = omega (arith, ints, lt)

mixed : (n m : ℕ) → n < 2 ^ 63 → m < 2 ^ 63 → (m ≤ n) ⊎ (n < m)
    → (18446744073709551616 - suc n + m) % 18446744073709551616 ≡ of_z w64 (negsuc n +ℤ pos m)
mixed n m small few (inl le) =
    let low : (18446744073709551616 - suc n + m) % 18446744073709551616 ≡ 18446744073709551616 - suc (n - m) =
    omega (arith, le, small) in
    low ∙ ap (of_z w64) (sym (less n m le))
mixed n m small few (inr lt) =
    let low : (18446744073709551616 - suc n + m) % 18446744073709551616 ≡ m - suc n = omega (arith, lt, small, few) in
    low ∙ ap (of_z w64) (sym (more n m lt))

either : (n m : ℕ) → (m ≤ n) ⊎ (n < m)
either n m = by_case (cases_lt n m) where
  by_case : (n < m) ⊎ (m ≤ n) → (m ≤ n) ⊎ (n < m)
  by_case (inl lt) = inr lt
  by_case (inr le) = inl le

wrapped : (a x : ℤ) → IsWithin 32766 a → IsWithin 1 x
    → (of_z w64 a + of_z w64 x) % 18446744073709551616 ≡ of_z w64 (a +ℤ x)
wrapped (pos n) (pos m) first second = omega (arith, ints, first, second)
wrapped (negsuc n) (pos m) first second =
    mixed n m (omega (arith, ints, first)) (omega (arith, ints, second)) (either n m)
wrapped (pos n) (negsuc m) first second =
    let turned : pos n +ℤ negsuc m ≡ negsuc m +ℤ pos n = omega (arith, ints) in
    let order : n + (18446744073709551616 - suc m) ≡ 18446744073709551616 - suc m + n = omega arith in
    ap (λ k. k % 18446744073709551616) order
    ∙ mixed m n (omega (arith, ints, second)) (omega (arith, ints, first)) (either m n) ∙ ap (of_z w64) (sym turned)
wrapped (negsuc n) (negsuc m) first second = omega (arith, ints, first, second)

-- a lane with the sum of a small sum and a sample
pub lane_added : (a x : ℤ) → IsWithin 32766 a → IsWithin 1 x
    → to_z w64 ((of_z w64 a + of_z w64 x) % 18446744073709551616) ≡ held (a +ℤ x)
lane_added a x first second =
    let within = within_add 32766 1 a x first second in
    let fits : SFits w64 (a +ℤ x) = omega (arith, ints, within) in
    ap (to_z w64) (wrapped a x first second) ∙ to_z-of_z w64 (a +ℤ x) fits
    ∙ sym (held_few 32767 (a +ℤ x) (omega arith) within)
