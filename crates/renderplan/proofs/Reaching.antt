-- Reaches of adjacent runs join, and hold for the pieces that follow.
use Rattle.std.proofs.Common.{◌≡◌, ◌⊎◌, inl, inr, ℕ, ◌+◌, ◌-◌, ◌<◌, ◌≤◌, List, [], ◌∷◌, ◌++◌, length, drop, get_or, ap, ◌∙◌, arith, length-drop, length-append}
use Rattle.std.proofs.Math.Seq.{take-add}
use Rattle.std.proofs.lemmas.Bool.{cases_lt}
use Rattle.std.proofs.lemmas.List.{drop-drop, get_or_append_left, get_or_push}
use Rattle.std.proofs.lemmas.List.Elements.{All-append, All-cons, All-nil, All-weaker}
use Rattle.sound_terms.specs.declared.piece.Piece.{Piece}
use Rattle.renderplan.specs.declared.reach.Reach.{Reach}
use Rattle.renderplan.specs.Reaches.{AreReaches, IsReach, LiesWithin, joined_reach, last}

pub length-last : (n : ℕ) (pieces : List Piece) → n ≤ length pieces → length (last n pieces) ≡ n
length-last n pieces few = length-drop (length pieces - n) pieces ∙ omega arith

-- the last n pieces without the first c of them
pub drop-last : (c n : ℕ) (pieces : List Piece) → c ≤ n → n ≤ length pieces
    → drop c (last n pieces) ≡ last (n - c) pieces
drop-last c n pieces some few =
    let place : length pieces - n + c ≡ length pieces - (n - c) = omega arith in
    drop-drop c (length pieces - n) pieces ∙ ap (λ k. drop k pieces) place

pub one_reach : (p : Piece) (rest : List Piece)
    → IsReach (p ∷ rest) (record { count = 1; least = p.start; greatest = p.start + p.length })
one_reach p rest = record {
  some = omega arith;
  there = omega arith;
  within = All-cons (LiesWithin p.start (p.start + p.length)) p [] (omega arith, omega arith)
      (All-nil (LiesWithin p.start (p.start + p.length)));
}

pub join_reach : (pieces : List Piece) (reach next : Reach) → IsReach pieces reach
    → IsReach (drop reach.count pieces) next
    → IsReach pieces (joined_reach reach next)
join_reach pieces reach next is behind =
    let joined : Reach = joined_reach reach next in
    let rest = length-drop reach.count pieces in
    let first =
    All-weaker (LiesWithin reach.least reach.greatest) (LiesWithin joined.least joined.greatest)
    (λ p lies. (omega arith, omega arith)) _ is.within in
    let second =
    All-weaker (LiesWithin next.least next.greatest) (LiesWithin joined.least joined.greatest)
    (λ p lies. (omega arith, omega arith)) _ behind.within in
    record {
      some = omega (arith, is.some);
      there = omega (arith, rest, is.there, behind.there);
      within = rw (take-add reach.count next.count pieces)
          (All-append (LiesWithin joined.least joined.greatest) _ _ first second);
    }

pub more_reaches : (pieces : List Piece) (reaches : List Reach) (reach : Reach) → AreReaches pieces reaches
    → IsReach (last (length reaches + 1) pieces) reach → AreReaches pieces (reaches ++ reach ∷ [])
more_reaches pieces reaches reach are is k d below = by_place (cases_lt k (length reaches)) where
  by_place : (k < length reaches) ⊎ (length reaches ≤ k)
      → IsReach (last (k + 1) pieces) (get_or (reaches ++ reach ∷ []) k d)
  by_place (inl before) = rw (get_or_append_left reaches (reach ∷ []) d k before) (are k d before)
  by_place (inr behind) =
      let long = length-append reaches (reach ∷ []) in
      let here : length reaches ≡ k = omega arith in
      let same : get_or (reaches ++ reach ∷ []) k d ≡ reach = get_or_push reaches reach d k here in
      rw (same, ← here) is
