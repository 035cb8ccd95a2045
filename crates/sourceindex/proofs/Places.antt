-- Laws of the table of positions, and of lookups in it.
use Rattle.std.proofs.Common.{◌≡◌, ◌≢◌, ◌∙◌, ℕ, ◌+◌, ◌<◌, ◌≤◌, Bool, true, false, cond, not, List, [], ◌∷◌, ◌++◌, length, Option, None, Some, refl, sym, ap, arith, eqb, ltb, nat_eq, get_or-set_other, length-append}
use Rattle.std.proofs.Math.ListN.{length-set}
use Rattle.std.specs.List.{find, position, position_or_len, slice_get, slice_index_or, slice_set}
use Rattle.std.specs.Option.{option_or}
use Rattle.std.proofs.lemmas.Bool.{eq-eqb, eqb-true}
use Rattle.std.proofs.lemmas.Bool.Decides.{nat_tests}
use Rattle.std.proofs.lemmas.Grind.{get_or-set_at}
use Rattle.std.proofs.lemmas.List.Folds.{find_at, position_or_len_push}
use Rattle.std.proofs.lemmas.List.Quantifiers.{position-Some}
use Rattle.std.proofs.lemmas.List.Sums.{prefix_len-le-length}
use Rattle.std.proofs.lemmas.Option.{get_or_from_slice_get, slice_get_past, slice_get_read}
use Rattle.sound_terms.specs.declared.BoundIndex.{BoundIndex}
use Rattle.sound_terms.specs.Mix.{index_of}
use Rattle.sourceindex.specs.Places.{ArePlaces, place_of}

-- The first matching position in a list with one more element, if the first match in the list is k of n.
later_place : (k n m : ℕ) (passes : Bool) → k ≤ n → m ≡ cond (eqb k n) (n + cond passes 0 1) k
    → cond (ltb m (n + 1)) (Some m) None ≡ option_or (cond (ltb k n) (Some k) None) (cond passes (Some n) None)
later_place k n m true most at = grind (arith, nat_tests)
later_place k n m false most at = grind (arith, nat_tests)

-- The position of a match in a list with one more element.
pub position-push : {X : Type 0} (p : X → Bool) (y : X) (xs : List X)
    → position p (xs ++ y ∷ []) ≡ option_or (position p xs) (cond (p y) (Some (length xs)) None)
position-push p y xs =
    rw (length-append xs (y ∷ []))
    (later_place (position_or_len p xs) (length xs) (position_or_len p (xs ++ y ∷ [])) (p y)
    (prefix_len-le-length (λ x. not (p x)) xs) (position_or_len_push p xs y))

-- The element at the position found.
find-position : {X : Type 0} (p : X → Bool) (xs : List X) (place : ℕ) → position p xs ≡ Some place
    → slice_get xs place ≡ find p xs
find-position p xs place found =
    let at = find_at p xs in
    grind (arith, nat_tests)

find-no_position : {X : Type 0} (p : X → Bool) (xs : List X) → position p xs ≡ None → find p xs ≡ None
find-no_position p xs missing =
    let at = find_at p xs in
    let past : length xs ≤ position_or_len p xs = grind (arith, nat_tests) in
    at ∙ slice_get_past xs (position_or_len p xs) past

-- Reading from a list within its length doesn't depend on the default.
pub read_as : {X : Type 0} (xs : List X) (i : ℕ) (read default x : X) → i < length xs → read ≡ slice_index_or xs i read
    → read ≡ x → slice_index_or xs i default ≡ x
read_as xs i read default x below here same =
    get_or_from_slice_get xs i read default (slice_get_read xs (length xs) i read refl below here) ∙ same

-- An index found by its position in the table.
pub found_by_place : (indexes : List BoundIndex) (places : List (Option ℕ)) (number place : ℕ)
    → ArePlaces indexes places → number < length places
    → slice_index_or places number None ≡ Some place → slice_get indexes place ≡ index_of indexes number
found_by_place indexes places number place table below held =
    find-position (λ (index : BoundIndex). nat_eq index.number number) indexes place (sym (table number below) ∙ held)

-- Positions in the table are within the list.
pub place_inside : (indexes : List BoundIndex) (places : List (Option ℕ)) (number place : ℕ) → ArePlaces indexes places
    → number < length places
    → slice_index_or places number None ≡ Some place → place < length indexes
place_inside indexes places number place table below held =
    (position-Some (λ (index : BoundIndex). nat_eq index.number number) indexes place
    (record { number = 0; file = 0; base = 0; addressable = 0 }) (sym (table number below) ∙ held)).0

-- A number without a position in the table has no index.
pub found_by_no_place : (indexes : List BoundIndex) (places : List (Option ℕ)) (number : ℕ) → ArePlaces indexes places
    → number < length places
    → slice_index_or places number None ≡ None → index_of indexes number ≡ None
found_by_no_place indexes places number table below held =
    find-no_position (λ (index : BoundIndex). nat_eq index.number number) indexes (sym (table number below) ∙ held)

-- Positions after one more index.
place_of-push : (indexes : List BoundIndex) (index : BoundIndex) (number : ℕ)
    → place_of (indexes ++ index ∷ []) number
    ≡ option_or (place_of indexes number) (cond (nat_eq index.number number) (Some (length indexes)) None)
place_of-push indexes index number = position-push (λ (i : BoundIndex). nat_eq i.number number) index indexes

-- An existing position stays, and a number without an index gets none.
pub earlier_place : (place : Option ℕ) (same : Bool) (last : ℕ) → (same ≡ true → place ≢ None)
    → place ≡ option_or place (cond same (Some last) None)
earlier_place (Some place) same last known = refl
earlier_place None true last known = absurd (known refl refl)
earlier_place None false last known = refl

-- One more index, the first with its number.
pub place_added : (indexes : List BoundIndex) (places : List (Option ℕ)) (index : BoundIndex) → ArePlaces indexes places
    → index.number < length places → slice_index_or places index.number None ≡ None
    → ArePlaces (indexes ++ index ∷ []) (slice_set places index.number (Some (length indexes)))
place_added indexes places index table below free = λ n within. by_number n within (nat_eq index.number n) refl where
  by_number : (n : ℕ) → n < length (slice_set places index.number (Some (length indexes))) → (same : Bool)
      → nat_eq index.number n ≡ same
      → slice_index_or (slice_set places index.number (Some (length indexes))) n None
      ≡ place_of (indexes ++ index ∷ []) n
  by_number n within true e =
      let same : index.number ≡ n = eqb-true index.number n e in
      let none : place_of indexes n ≡ None =
      sym (table n (omega (arith, length-set {A = Option ℕ}))) ∙ ap (λ m. slice_index_or places m None) (sym same)
      ∙ free in
      get_or-set_at places index.number n (Some (length indexes)) None (sym same) below
      ∙ sym (place_of-push indexes index n ∙ rw (none, e) refl)
  by_number n within false e =
      let other : n ≢ index.number = λ same. let yes = eq-eqb index.number n (sym same) in cc in
      let here = table n (omega (arith, length-set {A = Option ℕ})) in
      get_or-set_other places index.number n (Some (length indexes)) None other ∙ here
      ∙ earlier_place (place_of indexes n) (nat_eq index.number n) (length indexes) (λ same. cc)
      ∙ sym (place_of-push indexes index n)
