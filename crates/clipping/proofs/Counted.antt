-- Tallies of two joined lists of sums: the number that pass a test, the first that passes, and the peak.
use Rattle.std.specs.Prelude.{◌≡◌, ℕ, ◌+◌, ◌-◌, ◌^◌, ◌<◌, ◌≤◌, max, min, Bool, true, false, ℤ, unsigned_abs, List, [], ◌∷◌, ◌++◌, length, Option, None, Some, IfSome, if◌then◌else◌, refl}
use Rattle.std.specs.List.{All, filter, position, position_from}
use Rattle.std.specs.Option.{option_map, option_or}
use Rattle.std.proofs.Common.{sym, ap, ◌∙◌, arith, length-append}
use Rattle.std.proofs.lemmas.Iterator.Adapters.{position_from-zero}
use Rattle.std.proofs.lemmas.List.Quantifiers.{position-Some}
use Rattle.std.proofs.lemmas.List.Elements.{All-head, All-tail, filter-append}
use Rattle.clipping.specs.Clips.{is_clipped, loudest}

module _ {X : Type 0} (p : X → Bool) where
  pub count-append : (xs ys : List X)
      → length (filter p (xs ++ ys)) ≡ length (filter p xs) + length (filter p ys)
  count-append xs ys = ap length (filter-append p xs ys) ∙ length-append (filter p xs) (filter p ys)

  kept_or_not : (b : Bool) (x : X) (xs ys : List X) → length xs ≤ length ys
      → length (if b then x ∷ xs else xs) ≤ length (x ∷ ys)
  kept_or_not true x xs ys fewer = omega arith
  kept_or_not false x xs ys fewer = omega arith

  pub count-le : (xs : List X) → length (filter p xs) ≤ length xs
  count-le [] = omega arith
  count-le (x ∷ xs) = kept_or_not (p x) x (filter p xs) xs (count-le xs)

  mapped : (b : Bool) (f : ℕ → ℕ) (i : ℕ) (o q : Option ℕ) → o ≡ option_map f q
      → (if b then Some (f i) else o) ≡ option_map f (if b then Some i else q)
  mapped true f i o q same = refl
  mapped false f i o q same = same

  from_shift : (k n : ℕ) (xs : List X) → position_from p (k + n) xs ≡ option_map (λ i. k + i) (position_from p n xs)
  from_shift k n [] = refl
  from_shift k n (x ∷ xs) =
      mapped (p x) (λ i. k + i) n _ _ (ap (λ m. position_from p m xs) (omega arith) ∙ from_shift k (n + 1) xs)

  passed : (b : Bool) (i : ℕ) (o q r : Option ℕ) → o ≡ option_or q r
      → (if b then Some i else o) ≡ option_or (if b then Some i else q) r
  passed true i o q r same = refl
  passed false i o q r same = same

  from_append : (n : ℕ) (xs ys : List X)
      → position_from p n (xs ++ ys) ≡ option_or (position_from p n xs) (position_from p (n + length xs) ys)
  from_append n [] ys = ap (λ m. position_from p m ys) (omega arith)
  from_append n (x ∷ xs) ys =
      passed (p x) n _ _ _ (from_append (n + 1) xs ys
      ∙ ap (λ m. option_or (position_from p (n + 1) xs) (position_from p m ys)) (omega arith))

  -- the first match is in the first list, or else in the second
  pub position-append : (xs ys : List X)
      → position p (xs ++ ys) ≡ option_or (position p xs) (option_map (λ i. length xs + i) (position p ys))
  position-append xs ys =
      position_from-zero p (xs ++ ys) ∙ from_append 0 xs ys
      ∙ ap (λ m. option_or (position_from p 0 xs) (position_from p m ys)) (omega arith)
      ∙ ap (option_or (position_from p 0 xs)) (from_shift (length xs) 0 ys)
      ∙ ap (λ o. option_or o (option_map (λ i. length xs + i) (position_from p 0 ys))) (sym (position_from-zero p xs))
      ∙ ap (λ o. option_or (position p xs) (option_map (λ i. length xs + i) o)) (sym (position_from-zero p ys))

  -- no item passes the test
  pub none_kept : (xs : List X) → All (λ x. p x ≡ false) xs → filter p xs ≡ []
  none_kept [] none = refl
  none_kept (x ∷ xs) none =
      rw (All-head (λ x. p x ≡ false) x xs none) (none_kept xs (All-tail (λ x. p x ≡ false) x xs none))

  none_from : (n : ℕ) (xs : List X) → All (λ x. p x ≡ false) xs → position_from p n xs ≡ None
  none_from n [] none = refl
  none_from n (x ∷ xs) none =
      rw (All-head (λ x. p x ≡ false) x xs none) (none_from (n + 1) xs (All-tail (λ x. p x ≡ false) x xs none))

  pub none_first : (xs : List X) → All (λ x. p x ≡ false) xs → position p xs ≡ None
  none_first xs none = position_from-zero p xs ∙ none_from 0 xs none

  -- first match of joined lists from the first match of each
  pub first_found : (xs ys : List X) (before : ℕ) (first next result : Option ℕ) → X
      → IfSome first (λ index. result ≡ Some index)
      → (first ≡ None → result ≡ option_map (λ index. min (before + index) (2 ^ 64 - 1)) next)
      → length xs ≡ before → length xs + length ys < 2 ^ 64 → first ≡ position p xs → next ≡ position p ys
      → result ≡ position p (xs ++ ys)
  first_found xs ys before (Some i) next result d kept shifted long small mine theirs =
      kept ∙ sym (position-append xs ys
      ∙ ap (λ o. option_or o (option_map (λ i. length xs + i) (position p ys))) (sym mine))
  first_found xs ys before None None result d kept shifted long small mine theirs =
      shifted refl ∙ sym (position-append xs ys
      ∙ ap (λ o. option_or o (option_map (λ i. length xs + i) (position p ys))) (sym mine)
      ∙ ap (option_map (λ i. length xs + i)) (sym theirs))
  first_found xs ys before None (Some j) result d kept shifted long small mine theirs =
      let near = (position-Some p ys j d (sym theirs)).0 in
      shifted refl ∙ ap Some (omega (arith, near, long, small)) ∙ sym (position-append xs ys
      ∙ ap (λ o. option_or o (option_map (λ i. length xs + i) (position p ys))) (sym mine)
      ∙ ap (option_map (λ i. length xs + i)) (sym theirs))

  -- first match after adding an item that passes
  pub first_noted : (xs : List X) (x : X) (index : ℕ) (first : Option ℕ) → length xs ≡ index → p x ≡ true
      → first ≡ position p xs → option_or first (Some index) ≡ position p (xs ++ x ∷ [])
  first_noted xs x index first long passes mine =
      let here : position p (x ∷ []) ≡ Some 0 = position_from-zero p (x ∷ []) ∙ rw passes refl in
      ap (λ o. option_or o (Some index)) mine
      ∙ ap (λ n. option_or (position p xs) (Some n)) (omega (arith, long))
      ∙ sym (position-append xs (x ∷ []) ∙ ap (λ o. option_or (position p xs) (option_map (λ i. length xs + i) o)) here)

  -- adding an item that fails does not change the count
  pub count_same : (xs : List X) (x : X) → p x ≡ false → length (filter p (xs ++ x ∷ [])) ≡ length (filter p xs)
  count_same xs x fails =
      let none : length (filter p (x ∷ [])) ≡ 0 = rw fails refl in
      omega (arith, count-append xs (x ∷ []), none)

  pub first_same : (xs : List X) (x : X) → p x ≡ false → position p (xs ++ x ∷ []) ≡ position p xs
  first_same xs x fails =
      let none : position p (x ∷ []) ≡ None = position_from-zero p (x ∷ []) ∙ rw fails refl in
      position-append xs (x ∷ []) ∙ ap (λ o. option_or (position p xs) (option_map (λ i. length xs + i) o)) none
      ∙ or_none (position p xs) where
        or_none : (o : Option ℕ) → option_or o None ≡ o
        or_none None = refl
        or_none (Some i) = refl

  pub count_more : (xs : List X) (x : X) → p x ≡ true → length (filter p (xs ++ x ∷ [])) ≡ length (filter p xs) + 1
  count_more xs x passes =
      let one : length (filter p (x ∷ [])) ≡ 1 = rw passes refl in
      omega (arith, count-append xs (x ∷ []), one)

pub loudest-append : (depth : ℕ) (xs ys : List ℤ) → loudest depth (xs ++ ys) ≡ max (loudest depth xs) (loudest depth ys)
loudest-append depth [] ys = omega arith
loudest-append depth (x ∷ xs) ys = rw (loudest-append depth xs ys) (omega arith)

pub loud_same : (depth : ℕ) (xs : List ℤ) (x : ℤ) → is_clipped depth x ≡ false
    → loudest depth (xs ++ x ∷ []) ≡ loudest depth xs
loud_same depth xs x fails =
    let none : loudest depth (x ∷ []) ≡ 0 = rw fails refl in
    omega (arith, loudest-append depth xs (x ∷ []), none)

pub loud_more : (depth : ℕ) (xs : List ℤ) (x : ℤ) → is_clipped depth x ≡ true
    → loudest depth (xs ++ x ∷ []) ≡ max (loudest depth xs) (unsigned_abs x)
loud_more depth xs x passes =
    let one : loudest depth (x ∷ []) ≡ unsigned_abs x = rw passes (omega arith) in
    omega (arith, loudest-append depth xs (x ∷ []), one)

pub none_loud : (depth : ℕ) (sums : List ℤ) → All (λ sum. is_clipped depth sum ≡ false) sums → loudest depth sums ≡ 0
none_loud depth [] none = refl
none_loud depth (x ∷ xs) none =
    rw (
      All-head (λ sum. is_clipped depth sum ≡ false) x xs none,
      none_loud depth xs (All-tail (λ sum. is_clipped depth sum ≡ false) x xs none),
    ) refl
