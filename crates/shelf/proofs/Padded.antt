-- Reads of a list that is padded with zeros.
use Rattle.std.proofs.Common.{◌≡◌, ℕ, zero, suc, ◌+◌, ◌-◌, ◌≤◌, min, List, [], ◌∷◌, ◌++◌, length, take, drop, replicate, refl, ap, ◌∙◌, arith}
use native.Mathlib.Numerals.{unary_clauses}
use Rattle.std.proofs.lemmas.List.{take_min, drop_min, take-replicate, drop-replicate, length-drop}

drop_both : (xs ys : List ℕ) (n : ℕ) → drop n (xs ++ ys) ≡ drop n xs ++ drop (n - length xs) ys
drop_both [] ys zero = refl
drop_both [] ys (suc n) = simp unary_clauses refl
drop_both (x ∷ xs) ys zero = let none : 0 - suc (length xs) ≡ 0 = omega arith in rw none refl
drop_both (x ∷ xs) ys (suc n) = simp unary_clauses (drop_both xs ys n)

take_both : (xs ys : List ℕ) (n : ℕ) → take n (xs ++ ys) ≡ take n xs ++ take (n - length xs) ys
take_both [] ys zero = refl
take_both [] ys (suc n) = simp unary_clauses refl
take_both (x ∷ xs) ys zero = let none : 0 - suc (length xs) ≡ 0 = omega arith in rw none refl
take_both (x ∷ xs) ys (suc n) = simp unary_clauses (ap (λ l. x ∷ l) (take_both xs ys n))

-- a read returns the bytes of the head, then zeros
pub read_padded : (head : List ℕ) (at n zeros from count : ℕ) → at + n ≤ length head + zeros
    → from ≡ min at (length head) → count ≡ min n (length head - from)
    → take n (drop at (head ++ replicate zeros 0)) ≡ take count (drop from head) ++ drop count (replicate n 0)
read_padded head at n zeros from count inside begins fits =
    let rest = drop at head in
    let long : length rest ≡ length head - at = length-drop at head in
    let behind : take {A = ℕ} (n - length rest) (replicate (zeros - (at - length head)) 0) ≡ replicate (n - length rest) 0 =
    take-replicate (n - length rest) (zeros - (at - length head)) 0 (omega (arith, long, inside)) in
    let shifted : drop at (head ++ replicate zeros 0) ≡ rest ++ replicate (zeros - (at - length head)) 0 =
    drop_both head (replicate zeros 0) at ∙ ap (λ (l : List ℕ). rest ++ l) (drop-replicate (at - length head) zeros 0) in
    let same : drop from head ≡ rest = ap (λ (k : ℕ). drop k head) begins ∙ drop_min at head in
    let few : count ≡ min n (length rest) = omega (arith, long, begins, fits) in
    let front : take count (drop from head) ≡ take n rest =
    ap (take count) same ∙ ap (λ (k : ℕ). take k rest) few ∙ take_min n rest in
    let left : n - count ≡ n - length rest = omega (arith, few) in
    let back : drop {A = ℕ} count (replicate n 0) ≡ replicate (n - length rest) 0 =
    drop-replicate count n 0 ∙ ap (λ (k : ℕ). replicate k 0) left in
    rw (shifted, take_both rest (replicate (zeros - (at - length head)) 0) n, behind, front, back) refl
