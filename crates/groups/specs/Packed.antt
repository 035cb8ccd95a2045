-- Packed groups as lists of pieces.
use Rattle.std.specs.Prelude.{ℕ, ◌+◌, nat_lt, List, [], ◌∷◌, ◌++◌, if◌then◌else◌}
use Rattle.sound_terms.specs.declared.piece.Piece.{Piece}
use Rattle.sound_terms.specs.declared.piece.Shape.{Shape}
use Rattle.sound_terms.specs.declared.piece.Shape.TheVariants.{Flat, Rise, Fall}
use Rattle.groups.specs.declared.packed.Packed.{Packed}

-- the piece of n samples and the given shape that starts at sample `at` of the group
abbrev pub piece_in : Packed → (at n : ℕ) → Shape → Piece
piece_in group at n shape = record {
  start = group.start + at;
  length = n;
  frame = group.frame + at;
  file = group.file;
  first = group.first;
  dest = group.dest;
  width = group.width;
  shape = shape;
}

-- the fade-in of the group, which may be empty
abbrev pub rise_in : Packed → Piece
rise_in group = piece_in group 0 group.rise.length (Rise group.rise.offset group.rise.den)

-- the flat part of the group, which may be empty
abbrev pub flat_in : Packed → Piece
flat_in group = piece_in group group.rise.length group.middle Flat

-- the fade-out of the group, which may be empty
abbrev pub fall_in : Packed → Piece
fall_in group =
    piece_in group (group.rise.length + group.middle) group.fall.length (Fall group.fall.offset group.fall.den)

-- the piece as a list of one, or no piece if n is 0
abbrev pub part_in : Packed → (at n : ℕ) → Shape → List Piece
part_in group at n shape = if nat_lt 0 n then piece_in group at n shape ∷ [] else []

-- the pieces of the group: the fade-in, the flat part and the fade-out, without empty ones
abbrev pub pieces_in : Packed → List Piece
pieces_in group =
    part_in group 0 group.rise.length (Rise group.rise.offset group.rise.den)
    ++ (part_in group group.rise.length group.middle Flat
    ++ part_in group (group.rise.length + group.middle) group.fall.length (Fall group.fall.offset group.fall.den))
