-- Entries that play together are on the same line.
use Rattle.std.proofs.Common.{◌≡◌, ◌∙◌, ◌+◌, ◌<◌, ◌≢◌, ◌≤◌, ◌∷◌, [], Bool, true, false, List, ℕ, zero, suc, ap, arith, cond, drop, filter, get_or, length, length-drop, map, refl, sym, take}
use Rattle.std.specs.Ordering.{is_lt, nat_cmp}
use Rattle.std.specs.List.Sorted.{IsNonDecreasingBy, IsStableByKey, ties}
use Rattle.std.proofs.lemmas.Bool.Decides.{nat_tests}
use Rattle.std.proofs.lemmas.List.{get_or-drop}
use Rattle.lineage.specs.declared.played.Played.{Played}
use Rattle.lineage.specs.Lines.{PlayAlike, line_of}
use Rattle.lineage.specs.Played.{play_together}

pub same_line : (a b : Played) → play_together a b ≡ true → line_of a ≡ line_of b
same_line a b plays = grind (arith, nat_tests)

-- Filtering by a weaker test first doesn't change the result.
module _ {X : Type 0} (p q : X → Bool) (weaker : (x : X) → p x ≡ true → q x ≡ true) where
  one_test : (x : X) (xs rest : List X) (r s : Bool) → (r ≡ true → s ≡ true) → p x ≡ r
      → filter p xs ≡ filter p rest → cond r (x ∷ filter p xs) (filter p xs) ≡ filter p (cond s (x ∷ rest) rest)
  one_test x xs rest true true both is same = rw (is, same) refl
  one_test x xs rest true false both is same = absurd (cc (both refl))
  one_test x xs rest false true both is same = rw (is, same) refl
  one_test x xs rest false false both is same = same

  pub filter_twice : (xs : List X) → filter p xs ≡ filter p (filter q xs)
  filter_twice [] = refl
  filter_twice (x ∷ xs) = one_test x xs (filter q xs) (p x) (q x) (weaker x) refl (filter_twice xs)

-- Elements that don't pass a test can be left out.
module _ {X : Type 0} (p : X → Bool) where
  pub none_passes : (xs : List X) → ((k : ℕ) (d : X) → k < length xs → p (get_or xs k d) ≡ false) → filter p xs ≡ []
  none_passes [] none = refl
  none_passes (x ∷ xs) none =
      rw (none 0 x (omega arith)) (none_passes xs (λ k d below. none (suc k) d (omega (arith, below))))

  pub filter_dropped : (xs : List X) (from : ℕ)
      → ((k : ℕ) (d : X) → k < from → k < length xs → p (get_or xs k d) ≡ false) → filter p (drop from xs) ≡ filter p xs
  filter_dropped xs zero none = refl
  filter_dropped [] (suc from) none = refl
  filter_dropped (x ∷ xs) (suc from) none =
      rw (none 0 x (omega arith) (omega arith))
      (filter_dropped xs from (λ k d before below. none (suc k) d (omega (arith, before)) (omega (arith, below))))

  pub filter_taken : (xs : List X) (count : ℕ)
      → ((k : ℕ) (d : X) → count ≤ k → k < length xs → p (get_or xs k d) ≡ false)
      → filter p (take count xs) ≡ filter p xs
  filter_taken [] zero none = refl
  filter_taken [] (suc count) none = refl
  filter_taken (x ∷ xs) zero none = sym (none_passes (x ∷ xs) (λ k d below. none k d (omega arith) below))
  filter_taken (x ∷ xs) (suc count) none =
      ap (λ (rest : List X). cond (p x) (x ∷ rest) rest)
      (filter_taken xs count (λ k d late below. none (suc k) d (omega (arith, late)) (omega (arith, below))))

tied : (entry other : Played) → play_together entry other ≡ true
    → ties (λ (x y : Played). is_lt (nat_cmp (line_of x) (line_of y))) entry other ≡ true
tied entry other plays =
    let same = same_line entry other plays in
    grind (arith, nat_tests)

-- A stable sort by line doesn't change the entries that play together.
pub sorted_alike : (entries sorted : List Played) → IsStableByKey {K = ℕ} line_of nat_cmp entries sorted
    → PlayAlike sorted entries
sorted_alike entries sorted stable = λ entry.
    let beside = ties (λ (x y : Played). is_lt (nat_cmp (line_of x) (line_of y))) entry in
    ap (map (λ (e : Played). e.number))
    (filter_twice (play_together entry) beside (tied entry) sorted
    ∙ ap (filter (play_together entry)) (stable entry)
    ∙ sym (filter_twice (play_together entry) beside (tied entry) entries))

-- Entries on different lines don't play together.
pub other_line : (entry other : Played) → line_of entry ≢ line_of other → play_together entry other ≡ false
other_line entry other apart = by_test (play_together entry other) refl where
  by_test : (b : Bool) → play_together entry other ≡ b → play_together entry other ≡ false
  by_test true is = absurd (apart (same_line entry other is))
  by_test false is = is

pub dropped_rises : (from : ℕ) (entries : List Played) → IsNonDecreasingBy line_of entries
    → IsNonDecreasingBy line_of (drop from entries)
dropped_rises from entries rising = λ i j d ordered below.
    rw (get_or-drop from entries i d, get_or-drop from entries j d)
    (rising (from + i) (from + j) d (omega (arith, ordered)) (omega (arith, below, length-drop from entries)))
