-- Pieces as groups of their own.
use Rattle.std.specs.Prelude.{List, [], ◌∷◌, map}
use Rattle.sound_terms.specs.declared.piece.Piece.{Piece}

-- one group per piece
abbrev pub each_alone : List Piece → List (List Piece)
each_alone pieces = map (λ p. p ∷ []) pieces
