-- Laws of a flat piece extended by another flat piece that continues it.
use Rattle.std.specs.Prelude.{◌≡◌, ◌+◌, ◌&&◌, Bool, true, false, List, [], ◌∷◌, All, None, Some, if◌then◌else◌, refl}
use Rattle.std.proofs.Common.{arith}
use Rattle.std.proofs.lemmas.List.Elements.{All-cons, All-head, All-nil}
use Rattle.sound_terms.specs.declared.piece.Piece.{Piece}
use Rattle.sound_terms.specs.declared.piece.Shape.{Shape}
use Rattle.sound_terms.specs.declared.piece.Shape.TheVariants.{Flat, Rise, Fall}
use Rattle.sound_terms.specs.Groups.{IsGroup, IsPiece, continues}
use Rattle.sound_terms.specs.GroupLaws.{GoesOn, goes_on}
use Rattle.sound_terms.specs.Passes.{is_flat, lengthened}

-- a piece extended by the length of another
abbrev pub longer : Piece → Piece → Piece
longer p later = record p { length = p.length + later.length }

-- two flat pieces, the second of which continues the first
pub record BothFlat (p later : Piece) : Type 0 where
  pub flat : p.shape ≡ Flat
  pub flat_later : later.shape ≡ Flat
  pub on : GoesOn p later

flat_is : (shape : Shape) → is_flat shape ≡ true → shape ≡ Flat
flat_is Flat e = refl
flat_is (Rise offset den) e = cc
flat_is (Fall offset den) e = cc

-- a relation that holds for each extended piece holds for the extended group
pub by_longer : (P : List Piece → List Piece → Type 0) (later : Piece)
    → ((p : Piece) → BothFlat p later → P (p ∷ []) (longer p later ∷ []))
    → (group joined : List Piece) → lengthened later group ≡ Some joined → P group joined
by_longer P later holds [] joined e = cc
by_longer P later holds (p ∷ q ∷ ps) joined e = cc
by_longer P later holds (p ∷ []) joined e = by_test (is_flat p.shape) (is_flat later.shape) (continues p later) refl
    refl refl e where
      by_test : (a b c : Bool) → is_flat p.shape ≡ a → is_flat later.shape ≡ b → continues p later ≡ c
          → (if a && (b && c) then Some (longer p later ∷ []) else None) ≡ Some joined → P (p ∷ []) joined
      by_test true true true flat flat_later on is =
          let same : joined ≡ longer p later ∷ [] = cc in
          rw same (holds p (record {
            flat = flat_is p.shape flat;
            flat_later = flat_is later.shape flat_later;
            on = goes_on p later on;
          }))
      by_test true true false flat flat_later on is = cc
      by_test true false c flat flat_later on is = cc
      by_test false b c flat flat_later on is = cc

pub longer_is_piece : (p later : Piece) → BothFlat p later → IsPiece p → IsPiece later → IsPiece (longer p later)
longer_is_piece p later both ok ok_later = record {
  wide = ok.wide;
  source_from_one = ok.source_from_one;
  source_to_64 = ok.source_to_64;
  dest_from_one = ok.dest_from_one;
  dest_to_64 = ok.dest_to_64;
  some = omega (arith, ok.some);
  in_day = omega (arith, both.on.start, ok_later.in_day);
  source_in_day = omega (arith, both.on.frame, ok_later.source_in_day);
  ramp = rw both.flat tt;
}

pub lengthened_is_group :
    (later : Piece) (group new : List Piece) → lengthened later group ≡ Some new → All IsPiece group → IsPiece later
    → IsGroup new × All IsPiece new
lengthened_is_group later group new made all sound =
    by_longer (λ group new. All IsPiece group → IsGroup new × All IsPiece new) later
    (λ p both all.
    (tt, All-cons IsPiece _ [] (longer_is_piece p later both (All-head IsPiece p [] all) sound) (All-nil IsPiece)))
    group new made all
