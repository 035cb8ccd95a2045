-- Pieces outside of a block add nothing to its program and aren't its first source.
use Rattle.std.proofs.Common.{◌≡◌, ◌⊎◌, inl, inr, ℕ, ◌+◌, ◌≤◌, Bool, true, false, List, [], ◌∷◌, ◌++◌, take, drop, refl, sym, ap, ◌∙◌, arith, All}
use Rattle.std.specs.Prelude.{◌||◌, max, min, nat_le, nat_lt}
use Rattle.std.specs.List.{flat_map}
use Rattle.std.proofs.lemmas.Bool.Decides.{nat_tests}
use Rattle.std.proofs.lemmas.List.{take-append-drop}
use Rattle.std.proofs.lemmas.List.Concat.{flat_map-append}
use Rattle.std.proofs.lemmas.List.Elements.{All-head, All-tail}
use Rattle.sound_terms.specs.declared.block.Instruction.{Instruction}
use Rattle.sound_terms.specs.declared.piece.Piece.{Piece}
use Rattle.sound_terms.specs.Blocks.{lines_of}
use Rattle.renderplan.specs.declared.reach.Reach.{Reach}
use Rattle.renderplan.specs.Reaches.{IsReach, LiesWithin}
use Rattle.renderplan.specs.Sources.{first_source}

module _ (from n channels least greatest : ℕ) (outside : (greatest ≤ from) ⊎ (from + n ≤ least)) where
  silent : (p : Piece) → LiesWithin least greatest p
      → nat_lt (max from p.start) (min (from + n) (p.start + p.length)) ≡ false
  silent p lies = by_side outside where
    by_side : (greatest ≤ from) ⊎ (from + n ≤ least)
        → nat_lt (max from p.start) (min (from + n) (p.start + p.length)) ≡ false
    by_side (inl before) = grind (arith, nat_tests)
    by_side (inr behind) = grind (arith, nat_tests)

  not_heard : (p : Piece) → LiesWithin least greatest p → lines_of from n channels p ≡ []
  not_heard p lies = rw (silent p lies) refl

  none_heard : (pieces : List Piece) → All (LiesWithin least greatest) pieces
      → flat_map (lines_of from n channels) pieces ≡ []
  none_heard [] all = refl
  none_heard (p ∷ ps) all =
      rw (not_heard p (All-head (LiesWithin least greatest) p ps all))
      (none_heard ps (All-tail (LiesWithin least greatest) p ps all))

  none_first : (pieces rest : List Piece) → All (LiesWithin least greatest) pieces
      → first_source from n channels (pieces ++ rest) ≡ first_source from n channels rest
  none_first [] rest all = refl
  none_first (p ∷ ps) rest all =
      rw (silent p (All-head (LiesWithin least greatest) p ps all))
      (none_first ps rest (All-tail (LiesWithin least greatest) p ps all))

-- a reach that ends before the window or starts after it
outside_of : (from to : ℕ) (reach : Reach) → (nat_le reach.greatest from || nat_le to reach.least) ≡ true
    → (reach.greatest ≤ from) ⊎ (to ≤ reach.least)
outside_of from to reach test = either_side (nat_le reach.greatest from) refl where
  either_side : (b : Bool) → nat_le reach.greatest from ≡ b → (reach.greatest ≤ from) ⊎ (to ≤ reach.least)
  either_side true before = inl (grind (arith, nat_tests))
  either_side false before =
      let behind : nat_le to reach.least ≡ true = rw before at test in inr (grind (arith, nat_tests))

-- the pieces of such a reach can be skipped
pub passed_over : (from n channels : ℕ) (pieces : List Piece) (reach : Reach) → IsReach pieces reach
    → (nat_le reach.greatest from || nat_le (from + n) reach.least) ≡ true
    → flat_map (lines_of from n channels) pieces ≡ flat_map (lines_of from n channels) (drop reach.count pieces)
passed_over from n channels pieces reach is test =
    let outside = outside_of from (from + n) reach test in
    let lines : Piece → List Instruction = lines_of from n channels in
    ap (flat_map lines) (sym (take-append-drop reach.count pieces))
    ∙ flat_map-append lines (take reach.count pieces) (drop reach.count pieces)
    ∙ ap (λ front. front ++ flat_map lines (drop reach.count pieces))
    (none_heard from n channels reach.least reach.greatest outside _ is.within)

pub none_passed : (from n channels : ℕ) (pieces : List Piece) (reach : Reach) → IsReach pieces reach
    → (nat_le reach.greatest from || nat_le (from + n) reach.least) ≡ true
    → first_source from n channels pieces ≡ first_source from n channels (drop reach.count pieces)
none_passed from n channels pieces reach is test =
    ap (first_source from n channels) (sym (take-append-drop reach.count pieces))
    ∙ none_first from n channels reach.least reach.greatest (outside_of from (from + n) reach test) _ _ is.within
