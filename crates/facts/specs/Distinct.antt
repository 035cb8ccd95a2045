-- Lists of items with distinct numbers.
use Rattle.std.specs.Prelude.{◌≡◌, ◌==◌, ℕ, false, List, [], ◌∷◌, ◌++◌, map, refl}
use Rattle.std.specs.List.{AllByRecursion, IsDistinct, list_any}
use Rattle.std.proofs.Common.{sym, subst, append_assoc}
use Rattle.std.proofs.lemmas.Map.Keys.{IsDistinct-head, IsDistinct-tail}

-- no two items have the same number
abbrev pub HaveNumbers : {X : Type 0} → (X → ℕ) → List X → Type 0
HaveNumbers number_of items = IsDistinct (λ a b. a == b) (map number_of items)

module _ {X : Type 0} (number_of : X → ℕ) where
  at_place :
      (n : ℕ) (front : List X) (x : X) (xs : List X)
      → AllByRecursion (λ y. (n == y) ≡ false) (map number_of (front ++ x ∷ xs))
      → (n == number_of x) ≡ false
  at_place n [] x xs all = all.0
  at_place n (f ∷ front) x xs all = at_place n front x xs all.1

  -- no earlier item has the number of this item
  pub not_taken :
      (front : List X) (x : X) (xs : List X) → HaveNumbers number_of (front ++ x ∷ xs)
      → list_any (λ other. number_of other == number_of x) front ≡ false
  not_taken [] x xs distinct = refl
  not_taken (f ∷ front) x xs distinct =
      let numbers = map number_of (front ++ x ∷ xs) in
      let other = at_place (number_of f) front x xs (IsDistinct-head _ (number_of f) numbers distinct) in
      rw other (not_taken front x xs (IsDistinct-tail _ (number_of f) numbers distinct))

  -- moving an item from the rest to the front keeps the numbers distinct
  pub moved :
      (front : List X) (x : X) (xs : List X) → HaveNumbers number_of (front ++ x ∷ xs)
      → HaveNumbers number_of ((front ++ x ∷ []) ++ xs)
  moved front x xs distinct = subst (HaveNumbers number_of) (sym (append_assoc front (x ∷ []) xs)) distinct
