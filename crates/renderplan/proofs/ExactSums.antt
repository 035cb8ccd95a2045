-- The exact sums of a block are the mix, and zero if no piece sounds.
use Rattle.std.proofs.Common.{◌≡◌, ℕ, ◌+◌, ◌<◌, ◌≤◌, Bool, true, false, not, All, List, [], ◌∷◌, ◌++◌, Some, None, refl, ap, ◌∙◌, arith}
use Rattle.std.specs.Prelude.{pos, max, min, nat_le, nat_lt, Option, is_some}
use Rattle.std.specs.List.{flat_map}
use Rattle.std.proofs.lemmas.Bool.Decides.{nat_tests}
use Rattle.std.proofs.lemmas.Int.{ints}
use Rattle.std.proofs.lemmas.List.Elements.{All-tail}
use Rattle.facts.specs.Lists.{all_front}
use Rattle.sound_terms.specs.declared.block.Instruction.TheVariants.{Start, Emit}
use Rattle.sound_terms.specs.declared.piece.Piece.{Piece}
use Rattle.sound_terms.specs.Mix.{Reading}
use Rattle.sound_terms.specs.Blocks.{BlockState, PlaysFull, executed_all, lines_of}
use Rattle.sound_terms.specs.BlockLaws.{executed_all-append}
use Rattle.sound_terms.specs.Groups.{IsBounded, IsPiece, is_under, part_of, sum_of}
use Rattle.sound_terms.specs.declared.Depth.{Depth}
use Rattle.renderplan.specs.Spans.{written}
use Rattle.renderplan.specs.Sources.{first_source, sounds_in}
use Rattle.renderplan.proofs.Summing.{lines_sum}

-- the value is `None` if the test for it says so
pub none_there : {A : Type 0} (value : Option A) (is_none : Bool) → is_some value ≡ not is_none → is_none ≡ true
    → value ≡ None
none_there None is_none told there = refl
none_there (Some x) is_none told there = let wrong : true ≡ false = rw there at told in cc

module _ (reading : Reading) (from n channels : ℕ) where
  -- a piece that is silent in a block adds nothing there
  part_silent : (p : Piece) (i c : ℕ) → i < n → c ≤ channels → sounds_in from n channels p ≡ false
      → part_of reading p c (from + i) ≡ pos 0
  part_silent p i c below inside none =
      by_place (is_under p c (from + i)) refl where
        by_place : (b : Bool) → is_under p c (from + i) ≡ b → part_of reading p c (from + i) ≡ pos 0
        by_place true under =
            let some : nat_lt (max from p.start) (min (from + n) (p.start + p.length)) ≡ true =
            grind (arith, nat_tests) in
            let there : nat_le p.dest channels ≡ true = grind (arith, nat_tests) in
            let no : true ≡ false = rw (some, there) at none in
            cc
        by_place false under = rw under refl

  pub all_silent : (pieces : List Piece) (i c : ℕ) → i < n → c ≤ channels
      → first_source from n channels pieces ≡ None → sum_of reading pieces c (from + i) ≡ pos 0
  all_silent [] i c below inside none = refl
  all_silent (p ∷ ps) i c below inside none =
      by_test (all_silent ps i c below inside) (sounds_in from n channels p) refl where
        by_test : (first_source from n channels ps ≡ None → sum_of reading ps c (from + i) ≡ pos 0)
            → (b : Bool) → sounds_in from n channels p ≡ b → sum_of reading (p ∷ ps) c (from + i) ≡ pos 0
        by_test later true e = let no = rw e at none in cc
        by_test later false e =
            let rest = later (rw e at none) in
            let here = part_silent p i c below inside e in
            rw (here, rest) refl

-- the sums of a window are the mix of its samples
pub written_exact : (reading : Reading) (pieces : List Piece) (from n channels : ℕ) (depth : Depth) (start : BlockState)
    → All (PlaysFull reading) (written from n channels depth pieces) → All IsPiece pieces → IsBounded 32767 pieces
    → (i c : ℕ) → i < n → c ≤ channels
    → (executed_all reading channels (written from n channels depth pieces) start).sums i c
    ≡ sum_of reading pieces c (from + i)
written_exact reading pieces from n channels depth start plays all bounded i c below inside =
    let lines = flat_map (lines_of from n channels) pieces in
    let begun : BlockState = record start { frames = n; sums = λ i channel. pos 0 } in
    let split = executed_all-append reading channels lines (Emit depth ∷ []) begun in
    let full : All (PlaysFull reading) lines =
    all_front (PlaysFull reading) lines (Emit depth ∷ [])
    (All-tail (PlaysFull reading) (Start n) (lines ++ Emit depth ∷ []) plays) in
    ap (λ (state : BlockState). state.sums i c) split
    ∙ lines_sum reading from n channels pieces begun i c 0 full all below inside
    (omega (arith, bounded (from + i))) (omega (arith, ints), omega (arith, ints))
    ∙ omega (arith, ints)
