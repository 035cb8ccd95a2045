-- Prefixes of a list whose items all pass a test.
use Rattle.std.specs.Prelude.{◌≡◌, ℕ, ◌+◌, Bool, true, false, List, [], ◌∷◌, ◌++◌, drop, take, refl}
use Rattle.std.specs.List.{list_all, prefix_len, take_while}
use Rattle.std.proofs.Common.{suc, ap, arith}

one_more : (n : ℕ) → 1 + n ≡ suc n
one_more n = omega arith

pub drop_more : {X : Type 0} (n : ℕ) (x : X) (xs : List X) → drop (1 + n) (x ∷ xs) ≡ drop n xs
drop_more n x xs = ap (λ k. drop k (x ∷ xs)) (one_more n)

pub take_more : {X : Type 0} (n : ℕ) (x : X) (xs : List X) → take (1 + n) (x ∷ xs) ≡ x ∷ take n xs
take_more n x xs = ap (λ k. take k (x ∷ xs)) (one_more n)

pub list_all-take_while : {X : Type 0} (test : X → Bool) (xs : List X) → list_all test (take_while test xs) ≡ true
list_all-take_while test [] = refl
list_all-take_while test (x ∷ xs) = by_test (test x) refl (list_all-take_while test xs) where
  by_test :
      (passes : Bool) → test x ≡ passes → list_all test (take_while test xs) ≡ true
      → list_all test (take_while test (x ∷ xs)) ≡ true
  by_test true e ih = rw (e, take_more (prefix_len test xs) x xs, e) ih
  by_test false e ih = rw e refl

pub take_while-drop :
    {X : Type 0} (test : X → Bool) (xs : List X) → xs ≡ take_while test xs ++ drop (prefix_len test xs) xs
take_while-drop test [] = refl
take_while-drop test (x ∷ xs) = by_test (test x) refl (take_while-drop test xs) where
  by_test :
      (passes : Bool) → test x ≡ passes → xs ≡ take_while test xs ++ drop (prefix_len test xs) xs
      → x ∷ xs ≡ take_while test (x ∷ xs) ++ drop (prefix_len test (x ∷ xs)) (x ∷ xs)
  by_test true e ih = rw (e, take_more (prefix_len test xs) x xs, drop_more (prefix_len test xs) x xs)
      (ap (λ rest. x ∷ rest) ih)
  by_test false e ih = rw e refl
