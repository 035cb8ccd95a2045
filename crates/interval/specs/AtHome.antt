-- The pieces of a checked project.
use Rattle.std.specs.Prelude.{List}
use Rattle.sound_terms.specs.declared.piece.Home.{Home}
use Rattle.sound_terms.specs.declared.piece.Piece.{Piece}
use Rattle.sound_terms.specs.Sounds.{SoundFacts}
use Rattle.sound_terms.specs.Media.{IsPieceOf}
use Rattle.sound_terms.specs.Homes.{LiesAtHome}

-- A piece within the channels and the length of an opened file, and within the reach of its home index.
pub record IsAtHome (sounds : List SoundFacts) (homes : List Home) (p : Piece) : Type 0 where
  pub of_file : IsPieceOf sounds p
  pub at_home : LiesAtHome homes p
