-- The programs of pieces are well-formed and add only samples of the pieces.
use Rattle.std.proofs.Common.{◌≡◌, ℕ, ◌+◌, ◌-◌, ◌<◌, ◌≤◌, Bool, true, false, List, [], refl, arith, All}
use Rattle.std.specs.Prelude.{max, min, nat_le, nat_lt}
use Rattle.std.specs.List.{flat_map}
use Rattle.std.proofs.lemmas.Bool.Decides.{nat_tests}
use Rattle.std.proofs.lemmas.List.Elements.{All-append, All-cons, All-nil}
use Rattle.facts.specs.Lists.{all_of_parts}
use Rattle.sound_terms.specs.declared.block.Instruction.{Instruction}
use Rattle.sound_terms.specs.declared.block.Instruction.TheVariants.{Start, Emit}
use Rattle.sound_terms.specs.declared.piece.Piece.{Piece}
use Rattle.sound_terms.specs.Sounds.{SoundFacts}
use Rattle.sound_terms.specs.Media.{IsPieceOf}
use Rattle.sound_terms.specs.declared.Depth.{Depth}
use Rattle.renderplan.specs.Spans.{written}
use Rattle.sound_terms.specs.Groups.{IsPiece}
use Rattle.sound_terms.specs.GroupLaws.{ramp_within}
use Rattle.sound_terms.specs.Passes.{shape_behind}
use Rattle.sound_terms.specs.BlockLaws.{addition_of-adding}
use Rattle.sound_terms.specs.Blocks.{IsBlockProgram, IsFormed, LiesInFiles, adding, lines_of, stretch_in}

module _ (from n channels : ℕ) where
  -- an instruction for a piece has the properties of its stretch
  by_stretch : (P : Instruction → Type 0) (p : Piece)
      → (max from p.start < min (from + n) (p.start + p.length) → p.dest ≤ channels
      → P (adding (stretch_in from (max from p.start) (min (from + n) (p.start + p.length)) channels p)
      (shape_behind (max from p.start - p.start) p.shape)))
      → All P (lines_of from n channels p)
  by_stretch P p holds =
      by_tests (nat_lt (max from p.start) (min (from + n) (p.start + p.length))) (nat_le p.dest channels)
      refl refl where
        by_tests : (some there : Bool) → nat_lt (max from p.start) (min (from + n) (p.start + p.length)) ≡ some
            → nat_le p.dest channels ≡ there
            → All P (lines_of from n channels p)
        by_tests false there e f = rw e (All-nil P)
        by_tests true false e f = rw (e, f) (All-nil P)
        by_tests true true e f =
            rw (e, f) (All-cons P _ [] (holds (grind (arith, nat_tests)) (grind (arith, nat_tests))) (All-nil P))

  line_formed : (p : Piece) → IsPiece p → All (IsFormed n channels) (lines_of from n channels p)
  line_formed p ok = by_stretch (IsFormed n channels) p (λ some there. rw (addition_of-adding _ _) (
    record {
      some = omega arith;
      inside = omega arith;
      wide = omega (arith, ok.wide);
      source_from_one = ok.source_from_one;
      source_to_64 = omega (arith, ok.source_to_64);
      dest_from_one = ok.dest_from_one;
      dest_inside = omega arith;
      source_in_day = omega (arith, ok.source_in_day);
    },
    ramp_within p.shape _ _ p.length (omega arith) ok.ramp,
  ))

  line_inside : (sounds : List SoundFacts) (p : Piece) → IsPieceOf sounds p
      → All (LiesInFiles sounds) (lines_of from n channels p)
  line_inside sounds p is = by_stretch (LiesInFiles sounds) p (λ some there. rw (addition_of-adding _ _) (record {
    facts = is.facts;
    there = is.there;
    channels = omega (arith, is.channels);
    frames = omega (arith, is.frames);
  }))

pub lines_formed : (from n channels : ℕ) (pieces : List Piece) → All IsPiece pieces
    → All (IsFormed n channels) (flat_map (lines_of from n channels) pieces)
lines_formed from n channels pieces all =
    all_of_parts IsPiece (IsFormed n channels) (lines_of from n channels) (line_formed from n channels) pieces all

pub written_formed : (from n channels : ℕ) (depth : Depth) (pieces : List Piece) → All IsPiece pieces
    → IsBlockProgram n channels depth (written from n channels depth pieces)
written_formed from n channels depth pieces all =
    record {
      lines = flat_map (lines_of from n channels) pieces;
      whole = refl;
      formed = lines_formed from n channels pieces all;
    }

pub written_inside : (sounds : List SoundFacts) (from n channels : ℕ) (depth : Depth) (pieces : List Piece)
    → All (IsPieceOf sounds) pieces → All (LiesInFiles sounds) (written from n channels depth pieces)
written_inside sounds from n channels depth pieces all =
    let lines =
    all_of_parts (IsPieceOf sounds) (LiesInFiles sounds) (lines_of from n channels)
    (line_inside from n channels sounds) pieces all in
    let emitted = All-cons (LiesInFiles sounds) (Emit depth) [] tt (All-nil (LiesInFiles sounds)) in
    All-cons (LiesInFiles sounds) (Start n) _ tt (All-append (LiesInFiles sounds) _ _ lines emitted)

pub same_written : (from n channels a b c : ℕ) (depth : Depth) (pieces : List Piece) → a ≡ from → b ≡ n → c ≡ channels
    → written a b c depth pieces ≡ written from n channels depth pieces
same_written from n channels a b c depth pieces d e f = rw (d, e, f) refl
