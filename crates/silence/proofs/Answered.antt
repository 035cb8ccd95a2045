-- Results computed in any order.
use Rattle.std.proofs.Common.{◌≡◌, ◌≢◌, ◌⊎◌, inl, inr, ◌∙◌, ℕ, ◌+◌, ◌<◌, ◌≤◌, List, [], ◌∷◌, length, map, set, get_or, sym, subst, arith}
use Rattle.std.specs.List.{Contains}
use Rattle.std.proofs.lemmas.Bool.{cases_lt}
use Rattle.std.proofs.lemmas.List.{get_or-map, get_or-set_other, get_or-set_same, length-map, same_lists}

module _ {X Y : Type 0} (answer : X → Y) where
  -- the result at this index is correct
  abbrev pub IsRightAt : List X → List Y → ℕ → Type 0
  IsRightAt asked answers place = (x : X) (y : Y) → get_or answers place y ≡ answer (get_or asked place x)

  -- the results at the first `count` indexes of an order are correct
  abbrev pub AreRight : List X → List Y → List ℕ → ℕ → Type 0
  AreRight asked answers order count = (k n : ℕ) → k < count → IsRightAt asked answers (get_or order k n)

  right_still : (asked : List X) (answers : List Y) (place one : ℕ) (told : Y) → one < length answers
      → ((x : X) → told ≡ answer (get_or asked one x)) → IsRightAt asked answers place
      → IsRightAt asked (set answers one told) place
  right_still asked answers place one told inside is right x y =
      by_side (cases_lt place one) (cases_lt one place) where
        by_side : (place < one) ⊎ (one ≤ place) → (one < place) ⊎ (place ≤ one)
            → get_or (set answers one told) place y ≡ answer (get_or asked place x)
        by_side (inl before) any =
            let apart : place ≢ one = omega arith in get_or-set_other answers one place told y apart ∙ right x y
        by_side (inr up) (inl behind) =
            let apart : place ≢ one = omega arith in get_or-set_other answers one place told y apart ∙ right x y
        by_side (inr up) (inr down) =
            let same : place ≡ one = omega arith in
            rw same (get_or-set_same answers one told y inside ∙ is x)

  -- one more index of the order
  pub more_right : (asked : List X) (answers : List Y) (order : List ℕ) (count one : ℕ) (told : Y)
      → one < length answers → ((n : ℕ) → get_or order count n ≡ one)
      → ((x : X) → told ≡ answer (get_or asked one x)) → AreRight asked answers order count
      → AreRight asked (set answers one told) order (count + 1)
  more_right asked answers order count one told inside there is right k n below = by_place (cases_lt k count) where
    by_place : (k < count) ⊎ (count ≤ k) → IsRightAt asked (set answers one told) (get_or order k n)
    by_place (inl before) =
        right_still asked answers (get_or order k n) one told inside is (right k n before)
    by_place (inr up) = λ x y.
        let here : k ≡ count = omega arith in
        rw (here, there n) (get_or-set_same answers one told y inside ∙ is x)

  -- if the order has each index, all results are correct
  pub all_right : (asked : List X) (answers : List Y) (order : List ℕ) → length answers ≡ length asked
      → ((place : ℕ) → place < length asked → Contains order place)
      → AreRight asked answers order (length order) → answers ≡ map answer asked
  all_right [] answers order same each right =
      same_lists answers [] same (λ k d below. absurd (omega (arith, same)))
  all_right (x ∷ xs) answers order same each right =
      same_lists answers (map answer (x ∷ xs)) (same ∙ sym (length-map (x ∷ xs) answer)) one where
        one : (k : ℕ) (d : Y) → k < length answers → get_or answers k d ≡ get_or (map answer (x ∷ xs)) k d
        one k d below =
            let within : k < length (x ∷ xs) = omega (arith, same) in
            let found = each k within in
            subst (λ place. get_or answers place d ≡ answer (get_or (x ∷ xs) place x)) found.2
            (right found.0 k found.1 x d)
            ∙ sym (get_or-map answer (x ∷ xs) k x d within)
