-- Regrouping through marks yields `regroup` and keeps its invariants.
use Rattle.std.proofs.Common.{◌≡◌, ◌∙◌, ℕ, zero, suc, ◌-◌, ◌<◌, length, get_or, set, map, Bool, true, false, refl}
use Rattle.std.proofs.Common.{sym}
use Rattle.std.proofs.Common.{arith, List, [], ◌∷◌, ◌++◌, All}
use Rattle.std.specs.Prelude.{ℤ, pos, ◌+ℤ◌, ◌&&◌, ◌||◌, ◌==◌, nat_lt, Option, None, Some, is_some, slice_get}
use Rattle.std.specs.Prelude.{if◌then◌else◌}
use Rattle.std.specs.List.{list_all}
use Rattle.std.proofs.Math.Bool.{and_assoc, and_comm, or-false, or-true}
use Rattle.std.proofs.lemmas.Bool.Decides.{nat_tests}
use Rattle.std.proofs.lemmas.Int.{ints}
use Rattle.std.proofs.lemmas.List.Elements.{All-append, All-nil}
use Rattle.std.proofs.lemmas.List.Folds.{list_all-append}
use Rattle.facts.specs.Tests.{and_exchange}
use Rattle.sound_terms.specs.declared.piece.Piece.{Piece}
use Rattle.sound_terms.specs.declared.piece.Shape.TheVariants.{Flat, Rise, Fall}
use Rattle.sound_terms.specs.Mix.{Reading}
use Rattle.sound_terms.specs.Groups.{AreGroups, IsGroup, IsPiece, are_whole, continues, is_whole, mix_of}
use Rattle.sound_terms.specs.Groups.{rank_of}
use Rattle.sound_terms.specs.Groups.{RiseFrom, start_of}
use Rattle.sound_terms.specs.GroupLaws.{IsGroup-append, sum_of-append}
use Rattle.sound_terms.specs.OrderLaws.{mix_total, sum_at, sums_exchange, whole_total}
use Rattle.sound_terms.specs.Passes.{extended, is_followed_by, put_grouped, regroup}
use Rattle.passes.specs.declared.ends.End.{End}
use Rattle.passes.specs.Ends.{IsFirst, earlier, end_before, follows, group_end, group_follows, holds_at, is_end}
use Rattle.passes.specs.Ends.{last_piece}
use Rattle.passes.specs.TotalLaws.{Joins, by_extended, total_regrouped}
use Rattle.passes.proofs.Kept.{all_fold, all_put, rise_fold, rise_put}
use Rattle.passes.proofs.Putting.{put_last, put_there, taken_there}

module _ {X : Type 0} where
  holds_same : (test other : X → Bool) → ((x : X) → test x ≡ other x) → (xs : List X) (k : ℕ)
      → holds_at test xs k ≡ holds_at other xs k
  holds_same test other same [] k = refl
  holds_same test other same (x ∷ xs) zero = same x
  holds_same test other same (x ∷ xs) (suc k) = holds_same test other same xs k

  -- equivalent tests have the same first position
  pub first_same : (test other : X → Bool) → ((x : X) → test x ≡ other x) → (xs : List X) (found : Option ℕ)
      → IsFirst test xs found → IsFirst other xs found
  first_same test other same xs None first = λ k. sym (holds_same test other same xs k) ∙ first k
  first_same test other same xs (Some i) first = (
    sym (holds_same test other same xs i) ∙ first.0,
    λ k below. sym (holds_same test other same xs k)
        ∙ first.1 k below,
  )

  holds_either : (a b : X → Bool) (xs : List X) (k : ℕ)
      → holds_at (λ x. a x || b x) xs k ≡ (holds_at a xs k || holds_at b xs k)
  holds_either a b [] k = refl
  holds_either a b (x ∷ xs) zero = refl
  holds_either a b (x ∷ xs) (suc k) = holds_either a b xs k

  -- the first position of either of two tests is the smaller of their first positions
  pub first_either : (a b : X → Bool) (xs : List X) (one other : Option ℕ) → IsFirst a xs one → IsFirst b xs other
      → IsFirst (λ x. a x || b x) xs (earlier one other)
  first_either a b xs None None first second = λ k. rw (holds_either a b xs k, first k, second k) refl
  first_either a b xs None (Some j) first second = (
    rw (holds_either a b xs j, second.0) (or-true (holds_at a xs j)),
    λ k below. rw (holds_either a b xs k, first k, second.1 k below) refl,
  )
  first_either a b xs (Some i) None first second = (
    rw (holds_either a b xs i, first.0) refl,
    λ k below. rw (holds_either a b xs k, first.1 k below, second k) refl,
  )
  first_either a b xs (Some i) (Some j) first second = by_order (nat_lt j i) refl where
    by_order : (before : Bool) → nat_lt j i ≡ before → IsFirst (λ x. a x || b x) xs (if before then Some j else Some i)
    by_order true e =
        let order : j < i = grind (arith, nat_tests) in (
          rw (holds_either a b xs j, second.0) (or-true (holds_at a xs j)),
          λ k below. rw (holds_either a b xs k, first.1 k (omega arith), second.1 k below) refl,
        )
    by_order false e =
        let order : i < suc j = grind (arith, nat_tests) in (
          rw (holds_either a b xs i, first.0) refl,
          λ k below. rw (holds_either a b xs k, first.1 k below, second.1 k (omega arith)) refl,
        )

under_one : (n : ℕ) (rest : Bool) → (0 == n && rest) ≡ (nat_lt n 1 && (n == n && rest))
under_one zero rest = refl
under_one (suc n) rest =
    let apart : (0 == suc n) ≡ false = grind (arith, nat_tests) in
    let over : nat_lt (suc n) 1 ≡ false = grind (arith, nat_tests) in
    rw (apart, over) refl

under_two : (n : ℕ) (rest : Bool) → ((0 == n && rest) || (1 == n && rest)) ≡ (nat_lt n 2 && (n == n && rest))
under_two zero rest = or-false rest
under_two (suc zero) rest = refl
under_two (suc (suc n)) rest =
    let none : (0 == suc (suc n)) ≡ false = grind (arith, nat_tests) in
    let one : (1 == suc (suc n)) ≡ false = grind (arith, nat_tests) in
    let over : nat_lt (suc (suc n)) 2 ≡ false = grind (arith, nat_tests) in
    rw (none, one, over) refl

under_none : (n : ℕ) (rest : Bool) → (nat_lt n 0 && rest) ≡ false
under_none n rest = let none : nat_lt n 0 ≡ false = grind (arith, nat_tests) in rw none refl

pub rise_follows : (p : Piece) (offset den : ℕ) → p.shape ≡ Rise offset den → (marks : List (Option End))
    → IsFirst (follows p) marks None
rise_follows p offset den is [] k = refl
rise_follows p offset den is (None ∷ marks) zero = refl
rise_follows p offset den is (Some end ∷ marks) zero = rw is (under_none end.rank _)
rise_follows p offset den is (mark ∷ marks) (suc k) = rise_follows p offset den is marks k

pub flat_follows : (p : Piece) → p.shape ≡ Flat → (mark : Option End) → is_end (end_before 0 p) mark ≡ follows p mark
flat_follows p is None = refl
flat_follows p is (Some end) = rw is (under_one end.rank _)

pub fall_follows : (p : Piece) (offset den : ℕ) → p.shape ≡ Fall offset den → (mark : Option End)
    → (is_end (end_before 0 p) mark || is_end (end_before 1 p) mark) ≡ follows p mark
fall_follows p offset den is None = refl
fall_follows p offset den is (Some end) = rw is (under_two end.rank _)

-- a group continues an end if its first piece does
pub group_first : (group : List Piece) (p : Piece) (marks : List (Option End)) (found : Option ℕ)
    → slice_get group 0 ≡ Some p
    → IsFirst (follows p) marks found → IsFirst (group_follows group) marks found
group_first [] p marks found is first = cc
group_first (q ∷ ps) p marks found is first =
    let same : q ≡ p = cc in
    first_same (follows q) (group_follows (q ∷ ps)) (λ mark. refl) marks found (rw same first)

pub last_is : (group : List Piece) → slice_get group (length group - 1) ≡ last_piece group
last_is [] = refl
last_is (p ∷ []) = refl
last_is (p ∷ q ∷ ps) =
    let behind : length (p ∷ q ∷ ps) - 1 ≡ suc (length (q ∷ ps) - 1) = omega arith in rw behind (last_is (q ∷ ps))

turned : (a b : Bool) (n : ℕ) → (a && b) ≡ (b && (n == n && a))
turned a b n = let same : (n == n) ≡ true = grind (arith, nat_tests) in rw same (and_comm a b)

followed_is : (group later : List Piece) → is_followed_by group later ≡ group_follows later (group_end group)
followed_is [] [] = refl
followed_is [] (p ∷ ps) = refl
followed_is (q ∷ []) [] = refl
followed_is (q ∷ []) (p ∷ ps) = turned (continues q p) (nat_lt (rank_of q.shape) (rank_of p.shape)) (rank_of q.shape)
followed_is (q ∷ next ∷ qs) later = followed_is (next ∷ qs) later

-- a group can be appended exactly to the groups with a mark that it continues
group_agrees : (later group : List Piece) → is_some (extended later group) ≡ group_follows later (group_end group)
group_agrees later group = by_test (is_followed_by group later) ∙ followed_is group later where
  by_test : (b : Bool) → is_some (if b then Some (group ++ later) else None) ≡ b
  by_test true = refl
  by_test false = refl

last-append : (group : List Piece) (p : Piece) (ps : List Piece) → last_piece (group ++ p ∷ ps) ≡ last_piece (p ∷ ps)
last-append [] p ps = refl
last-append (q ∷ []) p ps = refl
last-append (q ∷ next ∷ qs) p ps = last-append (next ∷ qs) p ps

not_followed : (group : List Piece) → is_followed_by group [] ≡ false
not_followed [] = refl
not_followed (q ∷ []) = refl
not_followed (q ∷ next ∷ qs) = not_followed (next ∷ qs)

-- a group has the end of the group that was appended to it
pub end-append : (later group : List Piece) → is_followed_by group later ≡ true
    → group_end (group ++ later) ≡ group_end later
end-append [] group follows = let none = not_followed group in cc
end-append (p ∷ ps) group follows = rw (last-append group p ps) refl

module _ (later : List Piece) (groups : List (List Piece)) (ends : List (Option End)) (marked : ends
    ≡ map group_end groups) where
  -- the group continues no other
  pub grouped_last : IsFirst (group_follows later) ends None → put_grouped groups later ≡ groups ++ later ∷ []
  grouped_last none =
      put_last (extended later) later group_end (group_follows later) (group_agrees later) groups (rw marked at none)

  module _ (place : ℕ) (d : List Piece) (first : IsFirst (group_follows later) ends (Some place)) where
    -- the group may follow the group at this position
    pub follows_there : (place < length groups) × (is_followed_by (get_or groups place d) later ≡ true)
    follows_there =
        let holds = rw marked at first in
        let there = taken_there (extended later) later group_end (group_follows later) (group_agrees later) groups place
        d holds.0 in
        (there.0, by_test (is_followed_by (get_or groups place d) later) there.1) where
          by_test : (b : Bool) → is_some (if b then Some (get_or groups place d ++ later) else None) ≡ true → b ≡ true
          by_test true is = refl
          by_test false is = is

    -- the group is appended at this position, as it continues no earlier group
    pub grouped_there : put_grouped groups later ≡ set groups place (get_or groups place d ++ later)
    grouped_there =
        let joined = get_or groups place d ++ later in
        let taken : extended later (get_or groups place d) ≡ Some joined = rw follows_there.1 refl in
        put_there (extended later) later group_end (group_follows later) (group_agrees later) groups place joined d
        (rw marked at first) taken

same_start : (later group : List Piece) → is_followed_by group later ≡ true → start_of (group ++ later) ≡ start_of group
same_start later [] follows = cc
same_start later (p ∷ ps) follows = refl

pub regrouped_are : (groups : List (List Piece)) → AreGroups groups → AreGroups (regroup groups)
regrouped_are groups are = record {
  groups_ok = all_fold IsGroup put_grouped put_groups groups [] (All-nil IsGroup) are.groups_ok;
  pieces_ok = all_fold (All IsPiece) put_grouped put_pieces groups [] (All-nil (All IsPiece)) are.pieces_ok;
  in_order = rise_fold put_grouped put_order groups [] are.in_order;
} where
  put_groups : (out : List (List Piece)) (own : List Piece) → All IsGroup out → IsGroup own
      → All IsGroup (put_grouped out own)
  put_groups out own all is =
      let keeps = by_extended (λ group joined. IsGroup group → IsGroup joined) own
      (λ group on whole. IsGroup-append group own whole is on) in
      all_put IsGroup (extended own) own keeps is out all

  put_pieces : (out : List (List Piece)) (own : List Piece) → All (All IsPiece) out → All IsPiece own
      → All (All IsPiece) (put_grouped out own)
  put_pieces out own all is =
      let keeps = by_extended (λ group joined. All IsPiece group → All IsPiece joined) own
      (λ group on whole. All-append IsPiece group own whole is) in
      all_put (All IsPiece) (extended own) own keeps is out all

  put_order : (low : ℕ) (out behind : List (List Piece)) (own : List Piece) → RiseFrom low (out ++ own ∷ behind)
      → RiseFrom low (put_grouped out own ++ behind)
  put_order low out behind own =
      rise_put (extended own) (by_extended (λ group joined. start_of joined ≡ start_of group) own (same_start own)) low
      out behind own

mix_joins : (r : Reading) (channel time : ℕ) (own : List Piece)
    → Joins ◌+ℤ◌ (pos 0) (sum_at r channel time) (extended own) own
mix_joins r channel time own =
    let sum = sum_at r channel time in
    by_extended (λ group joined. (rest : ℤ) → sum joined +ℤ rest ≡ sum own +ℤ (sum group +ℤ rest)) own
    (λ group on rest. omega (arith, ints, sum_of-append r group own channel time))

pub mix_regrouped : (r : Reading) (channel time : ℕ) (groups : List (List Piece))
    → mix_of r (regroup groups) channel time ≡ mix_of r groups channel time
mix_regrouped r channel time groups =
    mix_total r channel time (regroup groups)
    ∙ total_regrouped ◌+ℤ◌ (pos 0) (sum_at r channel time) (sums_exchange r channel time) (mix_joins r channel time)
    groups
    ∙ sym (mix_total r channel time groups)

whole_joins : (own : List Piece) → Joins ◌&&◌ true (λ group. list_all is_whole group) (extended own) own
whole_joins own =
    by_extended (λ group joined. (rest : Bool) → (list_all is_whole joined && rest)
    ≡ (list_all is_whole own && (list_all is_whole group && rest))) own
    (λ group on rest. rw (list_all-append is_whole group own)
    (and_assoc (list_all is_whole group) (list_all is_whole own) rest
    ∙ and_exchange (list_all is_whole group) (list_all is_whole own) rest))

pub whole_regrouped : (groups : List (List Piece)) → are_whole (regroup groups) ≡ are_whole groups
whole_regrouped groups =
    whole_total (regroup groups)
    ∙ total_regrouped ◌&&◌ true (λ group. list_all is_whole group) and_exchange whole_joins groups
    ∙ sym (whole_total groups)
