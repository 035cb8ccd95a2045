-- Two adjacent ranges together contain exactly the elements of both.
use Rattle.std.specs.Prelude.{◌≡◌, ℕ, ◌+◌, ◌<◌, ◌≤◌, Bool, true, false, ◌&&◌, ◌||◌, nat_le, nat_lt, ℤ, pos, ◌+ℤ◌, if◌then◌else◌, refl}
use Rattle.std.proofs.Common.{◌⊎◌, inl, inr, arith}
use Rattle.std.proofs.Math.Bool.{or-false}
use Rattle.std.proofs.lemmas.Bool.{cases_lt}
use Rattle.std.proofs.lemmas.Bool.Decides.{nat_tests}
use Rattle.std.proofs.lemmas.Int.{ints}

-- the sum over two adjacent ranges at t is the sum over the joined range
module _ (s n m t : ℕ) (x y w : ℤ) (first : s ≤ t → t < s + n → x ≡ w) (second : s + n ≤ t → t < s + n + m → y ≡ w)
  where
    pub sums_joined : (a b : Bool)
        → (if a && (b && (nat_le s t && nat_lt t (s + n))) then x else pos 0)
        +ℤ (if a && (b && (nat_le (s + n) t && nat_lt t (s + n + m))) then y else pos 0)
        ≡ (if a && (b && (nat_le s t && nat_lt t (s + (n + m)))) then w else pos 0)
    sums_joined false b = refl
    sums_joined true false = refl
    sums_joined true true = by_time (cases_lt t s) (cases_lt t (s + n)) (cases_lt t (s + n + m)) where
      by_time : (t < s) ⊎ (s ≤ t) → (t < s + n) ⊎ (s + n ≤ t) → (t < s + n + m) ⊎ (s + n + m ≤ t)
          → (if nat_le s t && nat_lt t (s + n) then x else pos 0)
          +ℤ (if nat_le (s + n) t && nat_lt t (s + n + m) then y else pos 0)
          ≡ (if nat_le s t && nat_lt t (s + (n + m)) then w else pos 0)
      by_time (inl before) other last =
          let a : nat_le s t ≡ false = grind (arith, nat_tests) in
          let b : nat_le (s + n) t ≡ false = grind (arith, nat_tests) in
          rw (a, b) refl
      by_time (inr begun) (inl inside) last =
          let a : nat_le s t ≡ true = grind (arith, nat_tests) in
          let b : nat_lt t (s + n) ≡ true = grind (arith, nat_tests) in
          let c : nat_le (s + n) t ≡ false = grind (arith, nat_tests) in
          let d : nat_lt t (s + (n + m)) ≡ true = grind (arith, nat_tests) in
          rw (a, b, c, d, first begun inside) (omega (arith, ints))
      by_time (inr begun) (inr past) (inl inside) =
          let a : nat_le s t ≡ true = grind (arith, nat_tests) in
          let b : nat_lt t (s + n) ≡ false = grind (arith, nat_tests) in
          let c : nat_le (s + n) t ≡ true = grind (arith, nat_tests) in
          let d : nat_lt t (s + (n + m)) ≡ true = grind (arith, nat_tests) in
          let e : nat_lt t (s + n + m) ≡ true = grind (arith, nat_tests) in
          rw (a, b, c, d, e, second past inside) (omega (arith, ints))
      by_time (inr begun) (inr past) (inr behind) =
          let a : nat_le s t ≡ true = grind (arith, nat_tests) in
          let b : nat_lt t (s + n) ≡ false = grind (arith, nat_tests) in
          let c : nat_le (s + n) t ≡ true = grind (arith, nat_tests) in
          let d : nat_lt t (s + (n + m)) ≡ false = grind (arith, nat_tests) in
          let e : nat_lt t (s + n + m) ≡ false = grind (arith, nat_tests) in
          rw (a, b, c, d, e) refl

-- an index is in the joined range if it is in the first or in the second range
pub either_joined : (a b c : Bool) (s n m k : ℕ)
    → ((a && (b && (c && (nat_le s k && nat_lt k (s + n)))))
    || (a && (b && (c && (nat_le (s + n) k && nat_lt k (s + n + m))))))
    ≡ (a && (b && (c && (nat_le s k && nat_lt k (s + (n + m))))))
either_joined false b c s n m k = refl
either_joined true false c s n m k = refl
either_joined true true false s n m k = refl
either_joined true true true s n m k = by_place (cases_lt k (s + n)) where
  by_place : (k < s + n) ⊎ (s + n ≤ k)
      → ((nat_le s k && nat_lt k (s + n)) || (nat_le (s + n) k && nat_lt k (s + n + m)))
      ≡ (nat_le s k && nat_lt k (s + (n + m)))
  by_place (inl before) =
      let here : nat_lt k (s + n) ≡ true = grind (arith, nat_tests) in
      let whole : nat_lt k (s + (n + m)) ≡ true = grind (arith, nat_tests) in
      let later : nat_le (s + n) k ≡ false = grind (arith, nat_tests) in
      rw (here, whole, later) (or-false (nat_le s k && true))
  by_place (inr behind) =
      let here : nat_lt k (s + n) ≡ false = grind (arith, nat_tests) in
      let begun : nat_le s k ≡ true = grind (arith, nat_tests) in
      let later : nat_le (s + n) k ≡ true = grind (arith, nat_tests) in
      let ends : s + (n + m) ≡ s + n + m = omega arith in
      rw (here, begun, later, ends) refl
