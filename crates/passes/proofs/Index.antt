-- An ordered index from marks to positions finds first positions.
use Rattle.std.proofs.Common.{◌≡◌, ◌≢◌, ◌∙◌, ◌⊎◌, inl, inr, ℕ, zero, suc, ◌<◌, ◌≤◌, Bool, true, false, List, [], ◌∷◌}
use Rattle.std.proofs.Common.{◌++◌, length, set, refl, sym, ap, arith, cond}
use Rattle.std.proofs.lemmas.Bool.{cases_eq}
use Rattle.std.specs.Prelude.{◌&&◌, ◌==◌, Option, None, Some, slice_get}
use Rattle.std.specs.declared.cmp.Ordering.{Ordering}
use Rattle.std.specs.declared.cmp.Ordering.TheVariants.{Less, Equal, Greater}
use Rattle.std.specs.declared.ops.Bound.TheVariants.{Included, Unbounded}
use Rattle.std.specs.Cmp.{IsTotalOrder}
use Rattle.std.specs.Ordering.{is_eq, is_gt, nat_cmp, ordering_reverse, ordering_then}
use Rattle.std.specs.BTreeSet.{BTreeSet, IsKeyRangeOf, contains}
use Rattle.std.proofs.lemmas.Bool.Decides.{nat_tests}
use Rattle.std.proofs.lemmas.Cmp.{nat_cmp_total, nat_eq_equiv, on_total, then_total, tied_itself}
use Rattle.passes.specs.declared.ends.End.{End}
use Rattle.passes.specs.Ends.{IsFirst, IsIndexOf, end_cmp, holds_at, is_end, is_same, place_cmp}

end_total : IsTotalOrder end_cmp
end_total =
    then_total (on_total (λ (e : End). e.start) nat_cmp_total)
    (then_total (on_total (λ (e : End). e.frame) nat_cmp_total)
    (then_total (on_total (λ (e : End). e.file) nat_cmp_total)
    (then_total (on_total (λ (e : End). e.rank) nat_cmp_total)
    (then_total (on_total (λ (e : End). e.first) nat_cmp_total)
    (then_total (on_total (λ (e : End). e.dest) nat_cmp_total)
    (on_total (λ (e : End). e.width) nat_cmp_total))))))

then_equal : (o p : Ordering) → is_eq (ordering_then o p) ≡ (is_eq o && is_eq p)
then_equal Less p = refl
then_equal Equal p = refl
then_equal Greater p = refl

equal_numbers : (x y : ℕ) → is_eq (nat_cmp x y) ≡ (x == y)
equal_numbers x y = grind (arith, nat_tests)

-- equality of ends with the fields in comparison order
abbrev is_alike : End → End → Bool
is_alike a b =
    a.start == b.start && (a.frame == b.frame && (a.file == b.file && (a.rank == b.rank
    && (a.first == b.first && (a.dest == b.dest && a.width == b.width)))))

rank_in_front : (rank start frame file rest : Bool)
    → (start && (frame && (file && (rank && rest)))) ≡ (rank && (start && (frame && (file && rest))))
rank_in_front true start frame file rest = refl
rank_in_front false false frame file rest = refl
rank_in_front false true false file rest = refl
rank_in_front false true true false rest = refl
rank_in_front false true true true rest = refl

alike_is_same : (a b : End) → is_alike a b ≡ is_same a b
alike_is_same a b = rank_in_front (a.rank == b.rank) (a.start == b.start) (a.frame == b.frame) (a.file == b.file) _

-- ends that compare as equal are equal
tie_is_same : (a b : End) → is_eq (end_cmp a b) ≡ is_same a b
tie_is_same a b =
    let alike : is_eq (end_cmp a b) ≡ is_alike a b = simp (then_equal, equal_numbers) in
    alike ∙ alike_is_same a b

same_back : (a b : End) → is_same a b ≡ is_same b a
same_back a b =
    let turned = nat_eq_equiv.symm in
    rw (
      turned a.rank b.rank,
      turned a.start b.start,
      turned a.frame b.frame,
      turned a.file b.file,
      turned a.first
          b.first,
      turned a.dest b.dest,
      turned a.width b.width,
    ) refl

at_pair : (a b : End) (i k : ℕ) → is_eq (place_cmp (a, i) (b, k)) ≡ (is_same a b && i == k)
at_pair a b i k = rw (then_equal, tie_is_same, equal_numbers) refl

module _ {X : Type 0} (test : X → Bool) where
  pub holds_set : (xs : List X) (i k : ℕ) (x : X) → k ≢ i → holds_at test (set xs i x) k ≡ holds_at test xs k
  holds_set [] i k x apart = refl
  holds_set (y ∷ ys) zero zero x apart = absurd (apart refl)
  holds_set (y ∷ ys) zero (suc k) x apart = refl
  holds_set (y ∷ ys) (suc i) zero x apart = refl
  holds_set (y ∷ ys) (suc i) (suc k) x apart = holds_set ys i k x (λ same. apart (ap suc same))

  pub holds_here : (xs : List X) (i : ℕ) (x : X) → i < length xs → holds_at test (set xs i x) i ≡ test x
  holds_here [] i x below = absurd (omega arith)
  holds_here (y ∷ ys) zero x below = refl
  holds_here (y ∷ ys) (suc i) x below = holds_here ys i x (omega arith)

  pub holds_as : (xs : List X) (i : ℕ) (x : X) → slice_get xs i ≡ Some x → holds_at test xs i ≡ test x
  holds_as [] i x is = cc
  holds_as (y ∷ ys) zero x is = ap test (same y x is) where
    same : (y x : X) → Some y ≡ Some x → y ≡ x
    same y x e = cc
  holds_as (y ∷ ys) (suc i) x is = holds_as ys i x is

  pub holds_push : (xs : List X) (x : X) (k : ℕ) → test x ≡ false → holds_at test (xs ++ x ∷ []) k ≡ holds_at test xs k
  holds_push [] x zero fails = fails
  holds_push [] x (suc k) fails = refl
  holds_push (y ∷ ys) x zero fails = refl
  holds_push (y ∷ ys) x (suc k) fails = holds_push ys x k fails

-- the index after the mark of one position changes
changed_is_index : (marks : List (Option End)) (s t : BTreeSet (End × ℕ)) (end : End) (i : ℕ) (was mark : Option End)
    (now : Bool) → IsIndexOf marks s → slice_get marks i ≡ Some was
    → ((q : End × ℕ) → contains place_cmp t q ≡ cond (is_eq (place_cmp (end, i) q)) now (contains place_cmp s q))
    → i < length marks → ((other : End) → cond (is_same other end && true) now (is_end other was) ≡ is_end other mark)
    → IsIndexOf (set marks i mark) t
changed_is_index marks s t end i was mark now index there change below turned other k = by_place (cases_eq k i) where
  by_place : (k ≡ i) ⊎ (k ≢ i) → contains place_cmp t (other, k) ≡ holds_at (is_end other) (set marks i mark) k
  by_place (inl here) =
      let before : contains place_cmp s (other, i) ≡ is_end other was =
      index other i ∙ holds_as (is_end other) marks i was there in
      let tie : (i == i) ≡ true = grind (arith, nat_tests) in
      rw (
        here,
        change (other, i),
        at_pair end other i i,
        tie,
        before,
        holds_here (is_end other) marks i mark below,
        same_back end other,
      ) (turned other)
  by_place (inr apart) =
      let untied : (i == k) ≡ false = grind (arith, nat_tests) in
      rw (change (other, k), at_pair end other i k, untied, index other k, holds_set (is_end other) marks i k mark apart)
      (neither (is_same end other) _) where
        neither : (a b : Bool) → cond (a && false) now b ≡ b
        neither true b = refl
        neither false b = refl

-- the index after a mark is set at a position without one
pub put_is_index : (marks : List (Option End)) (s t : BTreeSet (End × ℕ)) (end : End) (i : ℕ) → IsIndexOf marks s
    → slice_get marks i ≡ Some None
    → ((q : End × ℕ) → contains place_cmp t q ≡ cond (is_eq (place_cmp (end, i) q)) true (contains place_cmp s q))
    → i < length marks → IsIndexOf (set marks i (Some end)) t
put_is_index marks s t end i index free put below =
    changed_is_index marks s t end i None (Some end) true index free put below (λ other. either (is_same other end)) where
      either : (b : Bool) → cond (b && true) true false ≡ b
      either true = refl
      either false = refl

-- the index after a mark is removed
pub clear_is_index : (marks : List (Option End)) (s t : BTreeSet (End × ℕ)) (end : End) (i : ℕ) → IsIndexOf marks s
    → slice_get marks i ≡ Some (Some end)
    → ((q : End × ℕ) → contains place_cmp t q ≡ cond (is_eq (place_cmp (end, i) q)) false (contains place_cmp s q))
    → i < length marks → IsIndexOf (set marks i None) t
clear_is_index marks s t end i index had taken below =
    changed_is_index marks s t end i (Some end) None false index had taken below (λ other. either (is_same other end)) where
      either : (b : Bool) → cond (b && true) false b ≡ false
      either true = refl
      either false = refl

pub push_is_index : (marks : List (Option End)) (s : BTreeSet (End × ℕ)) → IsIndexOf marks s
    → IsIndexOf (marks ++ None ∷ []) s
push_is_index marks s index end k = index end k ∙ sym (holds_push (is_end end) marks None k refl)

-- an end from its fields
abbrev made : (rank start frame file first dest width : ℕ) → End
made rank start frame file first dest width =
    record { rank = rank; start = start; frame = frame; file = file; first = first; dest = dest; width = width }

built : (a b : End) → a.rank ≡ b.rank → a.start ≡ b.start → a.frame ≡ b.frame → a.file ≡ b.file → a.first ≡ b.first
    → a.dest ≡ b.dest → a.width ≡ b.width → a ≡ b
built a b rank start frame file first dest width =
    ap (λ x. made x a.start a.frame a.file a.first a.dest a.width) rank
    ∙ ap (λ x. made b.rank x a.frame a.file a.first a.dest a.width) start
    ∙ ap (λ x. made b.rank b.start x a.file a.first a.dest a.width) frame
    ∙ ap (λ x. made b.rank b.start b.frame x a.first a.dest a.width) file
    ∙ ap (λ x. made b.rank b.start b.frame b.file x a.dest a.width) first
    ∙ ap (λ x. made b.rank b.start b.frame b.file b.first x a.width) dest
    ∙ ap (λ x. made b.rank b.start b.frame b.file b.first b.dest x) width

same_is : (a b : End) → is_same a b ≡ true → a ≡ b
same_is a b same =
    built a b (grind (arith, nat_tests)) (grind (arith, nat_tests)) (grind (arith, nat_tests))
    (grind (arith, nat_tests))
    (grind (arith, nat_tests)) (grind (arith, nat_tests)) (grind (arith, nat_tests))

-- all index entries of an end come at or after its entry for position 0
at_or_behind : (end : End) (k : ℕ) → is_gt (place_cmp (end, 0) (end, k)) ≡ false
at_or_behind end k = rw (tied_itself end_total end) (grind (arith, nat_tests))

-- entries of one end are ordered by position
no_later : (end : End) (i k : ℕ) → is_gt (place_cmp (end, i) (end, k)) ≡ false → i ≤ k
no_later end i k le = by_tie (rw (tied_itself end_total end) at le) where
  by_tie : is_gt (nat_cmp i k) ≡ false → i ≤ k
  by_tie le = grind (arith, nat_tests)

-- no entry of another end is between two entries of one end
between : (o p : Ordering) (i j k : ℕ) → o ≡ ordering_reverse p → is_gt (ordering_then p (nat_cmp i j)) ≡ false
    → is_gt (ordering_then o (nat_cmp j k)) ≡ false → is_eq o ≡ true
between o Less i j k turned low high = absurd_by turned high where
  absurd_by : o ≡ Greater → is_gt (ordering_then o (nat_cmp j k)) ≡ false → is_eq o ≡ true
  absurd_by is high = let wrong : true ≡ false = rw is at high in cc
between o Equal i j k turned low high = rw turned refl
between o Greater i j k turned low high = cc

module _ (marks : List (Option End)) (s : BTreeSet (End × ℕ)) (end : End) (found : List (End × ℕ))
    (index : IsIndexOf marks s)
    (behind : IsKeyRangeOf place_cmp (Included (end, 0)) Unbounded s found) where
  -- if there is no entry at or after position 0, the end has no position
  pub found_nowhere : found ≡ [] → IsFirst (is_end end) marks None
  found_nowhere none k = sym (index end k) ∙ behind.5 none (end, k) (at_or_behind end k, tt)

  module _ (other : End) (i : ℕ) (rest : List (End × ℕ)) (first : found ≡ (other, i) ∷ rest) where
    lies : (is_gt (place_cmp (end, 0) (other, i)) ≡ false) × (contains place_cmp s (other, i) ≡ true)
    lies = let here = rw first at behind.1 in (here.0.0, here.1)

    least : (k : ℕ) → contains place_cmp s (end, k) ≡ true → is_gt (place_cmp (other, i) (end, k)) ≡ false
    least k there = rw first at (behind.2 (end, k) (at_or_behind end k, tt) there)

    -- if the next entry is one of another end, the end has no position
    pub found_other : is_alike other end ≡ false → IsFirst (is_end end) marks None
    found_other unlike k = by_test (holds_at (is_end end) marks k) (index end k) where
      by_test : (b : Bool) → contains place_cmp s (end, k) ≡ b → b ≡ false
      by_test false there = refl
      by_test true there =
          let tie = between (end_cmp other end) (end_cmp end other) 0 i k (end_total.antisymm other end) lies.0
          (least k there) in
          let same = tie_is_same other end in
          let differs = sym (alike_is_same other end) ∙ unlike in cc

    -- otherwise the next entry has the end's first position
    pub found_first : is_alike other end ≡ true → IsFirst (is_end end) marks (Some i)
    found_first alike =
        let is = same_is other end (sym (alike_is_same other end) ∙ alike) in
        let here : holds_at (is_end end) marks i ≡ true = sym (index end i) ∙ rw is at lies.1 in
        (here, λ k below. by_test k below (holds_at (is_end end) marks k) (index end k)) where
          by_test : (k : ℕ) → k < i → (b : Bool) → contains place_cmp s (end, k) ≡ b → b ≡ false
          by_test k below false there = refl
          by_test k below true there =
              let is = same_is other end (sym (alike_is_same other end) ∙ alike) in
              let low = no_later end i k (rw is at (least k there)) in absurd (omega arith)

pub last_of_push : {X : Type 0} (xs : List X) (x : X) (n : ℕ) → length xs ≡ n → slice_get (xs ++ x ∷ []) n ≡ Some x
last_of_push [] x n ends = rw (← ends) refl
last_of_push (y ∷ ys) x n ends = rw (← ends) (last_of_push ys x (length ys) refl)
