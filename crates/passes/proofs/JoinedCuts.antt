-- Joining cuts through marks yields `join_cuts` and keeps its invariants.
use Rattle.std.proofs.Common.{◌≡◌, ◌∙◌, ℕ, ◌+◌, ◌<◌, length, get_or, set, map, Bool, true, false, List, [], ◌∷◌, ◌++◌}
use Rattle.std.proofs.Common.{refl, sym, arith}
use Rattle.std.specs.Prelude.{pos, ◌+ℤ◌, ◌&&◌, Option, Result, Ok, Err, OnOk, None, Some, is_some}
use Rattle.std.specs.Prelude.{if◌then◌else◌}
use Rattle.std.specs.List.{list_all}
use Rattle.facts.specs.Tests.{and_exchange}
use Rattle.sound_terms.specs.declared.piece.Piece.{Piece}
use Rattle.sound_terms.specs.declared.piece.Shape.TheVariants.{Flat, Rise, Fall}
use Rattle.sound_terms.specs.declared.piece.Shape.{Shape}
use Rattle.sound_terms.specs.Mix.{Reading}
use Rattle.sound_terms.specs.Groups.{are_whole, continues, is_whole, mix_of}
use Rattle.sound_terms.specs.OrderLaws.{mix_total, sum_at, sums_exchange, whole_total}
use Rattle.sound_terms.specs.Passes.{join_cuts, lengthened, put_to_first}
use Rattle.passes.specs.declared.ends.End.{End}
use Rattle.passes.specs.Ends.{IsFirst, end_before, end_of, flat_end, is_end}
use Rattle.sound_terms.specs.LongerLaws.{BothFlat, by_longer}
use Rattle.passes.specs.TotalLaws.{total_joined}
use Rattle.passes.proofs.Longer.{longer_mix, longer_whole}
use Rattle.passes.proofs.Putting.{put_last, put_there, taken_there}

-- a flat piece extends exactly the groups with the mark that it searches for
pub flat_agrees : (later : Piece) → later.shape ≡ Flat → (group : List Piece)
    → is_some (lengthened later group) ≡ is_end (end_before 1 later) (flat_end group)
flat_agrees later flat [] = refl
flat_agrees later flat (p ∷ q ∷ ps) = refl
flat_agrees later flat (p ∷ []) = by_shape p.shape refl where
  by_shape : (shape : Shape) → p.shape ≡ shape
      → is_some (lengthened later (p ∷ [])) ≡ is_end (end_before 1 later) (flat_end (p ∷ []))
  by_shape Flat e = rw (e, flat) (by_test (continues p later) _) where
    by_test : (b : Bool) (joined : List Piece) → is_some (if b then Some joined else None) ≡ b
    by_test true joined = refl
    by_test false joined = refl
  by_shape (Rise offset den) e = rw e refl
  by_shape (Fall offset den) e = rw e refl

module _ (later : Piece) (flat : later.shape ≡ Flat) (groups : List (List Piece)) (ends : List (Option End))
    (marked : ends ≡ map flat_end groups) where
  -- the piece extends no group
  pub flat_last : IsFirst (is_end (end_before 1 later)) ends None
      → put_to_first (lengthened later) (later ∷ []) groups ≡ groups ++ (later ∷ []) ∷ []
  flat_last none = put_last (lengthened later) (later ∷ []) flat_end (is_end (end_before 1 later))
      (flat_agrees later flat) groups (rw marked at none)

  module _ (place : ℕ) (d : List Piece) (first : IsFirst (is_end (end_before 1 later)) ends (Some place)) where
    -- the piece extends the group at this position
    pub flat_taken : (place < length groups) × (is_some (lengthened later (get_or groups place d)) ≡ true)
    flat_taken =
        taken_there (lengthened later) (later ∷ []) flat_end (is_end (end_before 1 later)) (flat_agrees later flat)
        groups place d (rw marked at first).0

    pub flat_put : (joined : List Piece) → lengthened later (get_or groups place d) ≡ Some joined
        → put_to_first (lengthened later) (later ∷ []) groups ≡ set groups place joined
    flat_put joined taken =
        put_there (lengthened later) (later ∷ []) flat_end (is_end (end_before 1 later)) (flat_agrees later flat) groups
        place joined d (rw marked at first) taken

-- an extended piece has the end of the piece that was added
pub longer_end : (later : Piece) (group joined : List Piece) → lengthened later group ≡ Some joined
    → flat_end joined ≡ Some (end_of later)
longer_end later = by_longer (λ group joined. flat_end joined ≡ Some (end_of later)) later same where
  same : (p : Piece) → BothFlat p later
      → flat_end (record p { length = p.length + later.length } ∷ []) ≡ Some (end_of later)
  same p both =
      let on = both.on in
      let starts : p.start + (p.length + later.length) ≡ p.start + p.length + later.length = omega arith in
      let frames : p.frame + (p.length + later.length) ≡ p.frame + p.length + later.length = omega arith in
      rw (both.flat, both.flat_later, on.start, on.frame, on.file, on.first, on.dest, on.width, starts, frames) refl

pub on_ok : {X E : Type 0} (result : Result X E) (P : Type 0) → P → OnOk result P
on_ok (Ok x) P is = is
on_ok (Err e) P is = tt

module _ (r : Reading) (channel time : ℕ) where
  pub mix_joined : (groups : List (List Piece))
      → mix_of r (join_cuts groups) channel time ≡ mix_of r groups channel time
  mix_joined groups =
      mix_total r channel time (join_cuts groups)
      ∙ total_joined ◌+ℤ◌ (pos 0) (sum_at r channel time) (sums_exchange r channel time) (longer_mix r channel time)
      groups
      ∙ sym (mix_total r channel time groups)

pub whole_joined : (groups : List (List Piece)) → are_whole (join_cuts groups) ≡ are_whole groups
whole_joined groups =
    whole_total (join_cuts groups) ∙ total_joined ◌&&◌ true (λ group. list_all is_whole group) and_exchange
    longer_whole groups ∙ sym (whole_total groups)
