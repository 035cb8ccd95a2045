-- Laws of sorting groups by start time: totals do not change, and properties of each group are preserved.
use Rattle.std.specs.Prelude.{◌≡◌, ℕ, Bool, true, false, ◌&&◌, ◌||◌, nat_le, ℤ, pos, ◌+ℤ◌, List, [], ◌∷◌, All, refl}
use Rattle.std.specs.List.{list_all, list_any}
use Rattle.std.proofs.Common.{ap, ◌∙◌, sym, arith}
use Rattle.std.proofs.lemmas.Int.{ints}
use Rattle.std.proofs.lemmas.List.Elements.{All-cons, All-head, All-tail}
use Rattle.facts.specs.Tests.{and_exchange, or_exchange}
use Rattle.sound_terms.specs.declared.piece.Piece.{Piece}
use Rattle.sound_terms.specs.Mix.{Reading}
use Rattle.sound_terms.specs.Groups.{are_whole, in_start_order, is_read, is_whole, mix_of, pieces_of, put_by_start, reads, start_of, sum_of}
use Rattle.sound_terms.specs.GroupLaws.{sum_of-append}

-- total over all groups
module _ {A : Type 0} (add : A → A → A) (none : A) (value : List Piece → A) where
  abbrev pub total : List (List Piece) → A
  total [] = none
  total (group ∷ groups) = add (value group) (total groups)

  module _ (exchange : (a b c : A) → add a (add b c) ≡ add b (add a c)) where
    total_put : (own : List Piece) (groups : List (List Piece))
        → total (put_by_start own groups) ≡ add (value own) (total groups)
    total_put own [] = refl
    total_put own (group ∷ groups) = by_start (nat_le (start_of own) (start_of group)) refl (total_put own groups) where
      by_start : (before : Bool) → nat_le (start_of own) (start_of group) ≡ before
          → total (put_by_start own groups) ≡ add (value own) (total groups)
          → total (put_by_start own (group ∷ groups)) ≡ add (value own) (add (value group) (total groups))
      by_start true e put = rw e refl
      by_start false e put = rw e (ap (add (value group)) put ∙ exchange (value group) (value own) (total groups))

    pub total_in_order : (groups : List (List Piece)) → total (in_start_order groups) ≡ total groups
    total_in_order [] = refl
    total_in_order (group ∷ groups) =
        total_put group (in_start_order groups) ∙ ap (add (value group)) (total_in_order groups)

-- the exact sum of groups is a total
module _ (r : Reading) (channel time : ℕ) where
  abbrev pub sum_at : List Piece → ℤ
  sum_at group = sum_of r group channel time

  pub sums_exchange : (a b c : ℤ) → a +ℤ (b +ℤ c) ≡ b +ℤ (a +ℤ c)
  sums_exchange a b c = omega (arith, ints)

  pub mix_total : (groups : List (List Piece)) → mix_of r groups channel time ≡ total ◌+ℤ◌ (pos 0) sum_at groups
  mix_total [] = refl
  mix_total (group ∷ groups) =
      omega (arith, ints, sum_of-append r group (pieces_of groups) channel time, mix_total groups)

  pub mix_in_order : (groups : List (List Piece))
      → mix_of r (in_start_order groups) channel time ≡ mix_of r groups channel time
  mix_in_order groups =
      mix_total (in_start_order groups) ∙ total_in_order ◌+ℤ◌ (pos 0) sum_at sums_exchange groups
      ∙ sym (mix_total groups)

-- having whole ramps is a total
pub whole_total : (groups : List (List Piece))
    → are_whole groups ≡ total ◌&&◌ true (λ group. list_all is_whole group) groups
whole_total [] = refl
whole_total (group ∷ groups) = ap (λ rest. list_all is_whole group && rest) (whole_total groups)

pub whole_in_order : (groups : List (List Piece)) → are_whole (in_start_order groups) ≡ are_whole groups
whole_in_order groups =
    whole_total (in_start_order groups)
    ∙ total_in_order ◌&&◌ true (λ group. list_all is_whole group) and_exchange groups
    ∙ sym (whole_total groups)

-- reading a sample frame is a total
module _ (file channel frame : ℕ) where
  abbrev pub read_by : List Piece → Bool
  read_by group = list_any (λ p. is_read p file channel frame) group

  pub reads_total : (groups : List (List Piece)) → reads groups file channel frame ≡ total ◌||◌ false read_by groups
  reads_total [] = refl
  reads_total (group ∷ groups) = ap (λ rest. read_by group || rest) (reads_total groups)

  pub reads_in_order : (groups : List (List Piece))
      → reads (in_start_order groups) file channel frame ≡ reads groups file channel frame
  reads_in_order groups =
      reads_total (in_start_order groups) ∙ total_in_order ◌||◌ false read_by or_exchange groups
      ∙ sym (reads_total groups)

-- properties of each group
module _ (P : List Piece → Type 0) where
  all_put : (own : List Piece) (groups : List (List Piece)) → P own → All P groups → All P (put_by_start own groups)
  all_put own [] is all = All-cons P own [] is all
  all_put own (group ∷ groups) is all =
      by_start (nat_le (start_of own) (start_of group)) refl (all_put own groups is (All-tail P group groups all)) where
        by_start : (before : Bool) → nat_le (start_of own) (start_of group) ≡ before → All P (put_by_start own groups)
            → All P (put_by_start own (group ∷ groups))
        by_start true e rest = rw e (All-cons P own (group ∷ groups) is all)
        by_start false e rest = rw e (All-cons P group (put_by_start own groups) (All-head P group groups all) rest)

  pub all_in_order : (groups : List (List Piece)) → All P groups → All P (in_start_order groups)
  all_in_order [] all = all
  all_in_order (group ∷ groups) all =
      all_put group (in_start_order groups) (All-head P group groups all)
      (all_in_order groups (All-tail P group groups all))
