-- A stable sort by start time yields `in_start_order`.
use Rattle.std.proofs.Common.{◌≡◌, inl, inr, ℕ, ◌<◌, ◌≤◌, Bool, true, false, List, [], ◌∷◌, length, get_or, refl, sym, ap, ◌∙◌, arith}
use Rattle.std.specs.Prelude.{◌==◌, nat_le, suc, if◌then◌else◌}
use Rattle.std.specs.List.{filter}
use Rattle.std.specs.List.Sorted.{ties, IsStableByKey, IsNonDecreasingBy}
use Rattle.std.specs.Ordering.{is_lt, nat_cmp}
use Rattle.std.proofs.lemmas.Bool.Decides.{nat_tests}
use Rattle.std.proofs.lemmas.Bool.{cases_lt}
use Rattle.sound_terms.specs.declared.piece.Piece.{Piece}
use Rattle.sound_terms.specs.declared.piece.Shape.TheVariants.{Flat}
use Rattle.sound_terms.specs.Groups.{start_of, RiseFrom, put_by_start, in_start_order}

abbrev begins_at : ℕ → List Piece → Bool
begins_at time group = start_of group == time

-- no group starts before the first
none_earlier : (low time : ℕ) (groups : List (List Piece)) → RiseFrom low groups → time < low
    → filter (begins_at time) groups ≡ []
none_earlier low time [] rise before = refl
none_earlier low time (group ∷ groups) rise before =
    let other : begins_at time group ≡ false = grind (arith, nat_tests) in
    let later : time < start_of group = omega arith in
    rw other (none_earlier (start_of group) time groups rise.1 later)

-- if two sorted lists agree on the groups that start with the first group of one, the other list starts no later
same_first : (a b : ℕ) (x y : List Piece) (xs ys : List (List Piece)) → RiseFrom a (x ∷ xs) → RiseFrom b (y ∷ ys)
    → filter (begins_at (start_of x)) (x ∷ xs) ≡ filter (begins_at (start_of x)) (y ∷ ys) → start_of y ≤ start_of x
same_first a b x y xs ys front back same = elim (cases_lt (start_of x) (start_of y)) as (λ _. start_of y ≤ start_of x) [
  | inl later ↦
      let here : begins_at (start_of x) x ≡ true = grind (arith, nat_tests) in
      let none : filter (begins_at (start_of x)) (y ∷ ys) ≡ [] =
      none_earlier (start_of y) (start_of x) (y ∷ ys) (omega arith, back.1) later in
      let some : filter (begins_at (start_of x)) (x ∷ xs) ≡ x ∷ filter (begins_at (start_of x)) xs = rw here refl in
      cc
  | inr le ↦ le
]

-- two lists that agree at a time still agree after one group of that time is removed from each
same_behind : (time : ℕ) (x y : List Piece) (xs ys : List (List Piece)) (b : Bool) → begins_at time x ≡ b
    → begins_at time y ≡ b
    → filter (begins_at time) (x ∷ xs) ≡ filter (begins_at time) (y ∷ ys)
    → filter (begins_at time) xs ≡ filter (begins_at time) ys
same_behind time x y xs ys true front back same =
    let there : x ∷ filter (begins_at time) xs ≡ y ∷ filter (begins_at time) ys = rw (front, back) at same in cc
same_behind time x y xs ys false front back same = rw (front, back) at same

-- two sorted lists that have the same groups at each time are equal
pub only_order : (a b : ℕ) (xs ys : List (List Piece)) → RiseFrom a xs → RiseFrom b ys
    → ((time : ℕ) → filter (begins_at time) xs ≡ filter (begins_at time) ys) → xs ≡ ys
only_order a b [] [] front back same = refl
only_order a b [] (y ∷ ys) front back same =
    let here : begins_at (start_of y) y ≡ true = grind (arith, nat_tests) in
    let there : [] ≡ y ∷ filter (begins_at (start_of y)) ys = rw here at (same (start_of y)) in cc
only_order a b (x ∷ xs) [] front back same =
    let here : begins_at (start_of x) x ≡ true = grind (arith, nat_tests) in
    let there : x ∷ filter (begins_at (start_of x)) xs ≡ [] = rw here at (same (start_of x)) in cc
only_order a b (x ∷ xs) (y ∷ ys) front back same =
    let no_later : start_of y ≤ start_of x = same_first a b x y xs ys front back (same (start_of x)) in
    let no_earlier : start_of x ≤ start_of y = same_first b a y x ys xs back front (sym (same (start_of y))) in
    let starts : start_of x ≡ start_of y = omega arith in
    let here : begins_at (start_of x) x ≡ true = grind (arith, nat_tests) in
    let there : begins_at (start_of x) y ≡ true = grind (arith, nat_tests) in
    let firsts : x ∷ filter (begins_at (start_of x)) xs ≡ y ∷ filter (begins_at (start_of x)) ys =
    rw (here, there) at (same (start_of x)) in
    let alike =
    λ (time : ℕ). same_behind time x y xs ys (begins_at time x) refl (ap (λ n. n == time) (sym starts)) (same time)
    in
    let rest : xs ≡ ys = only_order (start_of x) (start_of y) xs ys front.1 back.1 alike in
    cc

-- swapping two groups of different start times doesn't change the groups at any time
apart : (time : ℕ) (own group : List Piece) (groups rest : List (List Piece)) (b : Bool) → begins_at time own ≡ b
    → start_of group < start_of own
    → filter (begins_at time) rest ≡ filter (begins_at time) (own ∷ groups)
    → filter (begins_at time) (group ∷ rest) ≡ filter (begins_at time) (own ∷ group ∷ groups)
apart time own group groups rest true here before same =
    let other : begins_at time group ≡ false = grind (arith, nat_tests) in
    let there : filter (begins_at time) rest ≡ own ∷ filter (begins_at time) groups = rw here at same in
    rw (other, here) there
apart time own group groups rest false here before same =
    let there : filter (begins_at time) rest ≡ filter (begins_at time) groups = rw here at same in
    rw (here, there) refl

-- inserting a group in order keeps the groups that start at each time
put_keeps : (time : ℕ) (own : List Piece) (groups : List (List Piece))
    → filter (begins_at time) (put_by_start own groups) ≡ filter (begins_at time) (own ∷ groups)
put_keeps time own [] = refl
put_keeps time own (group ∷ groups) =
    put_before (nat_le (start_of own) (start_of group)) refl (put_keeps time own groups) where
      put_before : (b : Bool) → nat_le (start_of own) (start_of group) ≡ b
          → filter (begins_at time) (put_by_start own groups) ≡ filter (begins_at time) (own ∷ groups)
          → filter (begins_at time) (put_by_start own (group ∷ groups)) ≡ filter (begins_at time) (own ∷ group ∷ groups)
      put_before true before same = rw before refl
      put_before false before same =
          let less : start_of group < start_of own = grind (arith, nat_tests) in
          rw before (apart time own group groups (put_by_start own groups) (begins_at time own) refl less same)

pub order_keeps : (time : ℕ) (groups : List (List Piece))
    → filter (begins_at time) (in_start_order groups) ≡ filter (begins_at time) groups
order_keeps time [] = refl
order_keeps time (group ∷ groups) =
    put_keeps time group (in_start_order groups)
    ∙ ap (λ (rest : List (List Piece)). if begins_at time group then group ∷ rest else rest) (order_keeps time groups)

put_rises : (low : ℕ) (own : List Piece) (groups : List (List Piece)) → low ≤ start_of own → RiseFrom low groups
    → RiseFrom low (put_by_start own groups)
put_rises low own [] le rise = (le, tt)
put_rises low own (group ∷ groups) le rise =
    put_before (nat_le (start_of own) (start_of group)) refl (λ more. put_rises (start_of group) own groups more rise.1)
  where
    put_before : (b : Bool) → nat_le (start_of own) (start_of group) ≡ b
        → (start_of group ≤ start_of own → RiseFrom (start_of group) (put_by_start own groups))
        → RiseFrom low (put_by_start own (group ∷ groups))
    put_before true before behind = rw before (le, (grind (arith, nat_tests), rise.1))
    put_before false before behind = rw before (rise.0, behind (grind (arith, nat_tests)))

pub order_rises : (groups : List (List Piece)) → RiseFrom 0 (in_start_order groups)
order_rises [] = tt
order_rises (group ∷ groups) = put_rises 0 group (in_start_order groups) (omega arith) (order_rises groups)

-- a list whose starts don't decrease by index is sorted
pub rises_by_index : (low : ℕ) (groups : List (List Piece))
    → ((i : ℕ) (d : List Piece) → i < length groups → low ≤ start_of (get_or groups i d))
    → IsNonDecreasingBy start_of groups → RiseFrom low groups
rises_by_index low [] all rising = tt
rises_by_index low (group ∷ groups) all rising = (
  all 0 group (omega arith),
  rises_by_index (start_of group) groups (λ i d below. rising 0 (suc i) d (omega arith) (omega arith))
      (λ i j d le below. rising (suc i) (suc j) d (omega arith) (omega arith)),
)

-- an example of a group with the given start time
abbrev timed : ℕ → List Piece
timed time = record { start = time; length = 1; frame = 0; file = 0; first = 1; dest = 1; width = 1; shape = Flat } ∷ []

ties_at : (time : ℕ) (group : List Piece)
    → ties (λ (x y : List Piece). is_lt (nat_cmp (start_of x) (start_of y))) (timed time) group ≡ begins_at time group
ties_at time group = grind (arith, nat_tests)

filter_alike : {X : Type 0} (p q : X → Bool) → ((x : X) → p x ≡ q x) → (xs : List X) → filter p xs ≡ filter q xs
filter_alike p q alike [] = refl
filter_alike p q alike (x ∷ xs) = rw (alike x, filter_alike p q alike xs) refl

-- a stable sort by start time keeps the groups of each time in order
pub stable_keeps : (groups sorted : List (List Piece)) → IsStableByKey {K = ℕ} start_of nat_cmp groups sorted
    → (time : ℕ) → filter (begins_at time) sorted ≡ filter (begins_at time) groups
stable_keeps groups sorted stable time =
    let alike =
    filter_alike (ties (λ (x y : List Piece). is_lt (nat_cmp (start_of x) (start_of y))) (timed time))
    (begins_at time) (ties_at time) in
    sym (alike sorted) ∙ stable (timed time) ∙ alike groups

-- a stable sort by start time yields the groups in start order
pub sorted_is_order : (groups sorted : List (List Piece)) → IsStableByKey {K = ℕ} start_of nat_cmp groups sorted
    → IsNonDecreasingBy start_of sorted
    → sorted ≡ in_start_order groups
sorted_is_order groups sorted stable rising =
    only_order 0 0 sorted (in_start_order groups) (rises_by_index 0 sorted (λ i d below. omega arith) rising)
    (order_rises groups)
    (λ time. stable_keeps groups sorted stable time ∙ sym (order_keeps time groups))
