-- Contents of a plan.
use Rattle.std.specs.Prelude.{◌<◌, ◌≤◌, List, All}
use Rattle.sampletime.specs.TimeCode.{day}
use Rattle.sound_terms.specs.declared.piece.Piece.{Piece}
use Rattle.sound_terms.specs.Groups.{IsBounded, IsPiece}
use Rattle.sound_terms.specs.Render.{Range}

-- the pieces, and the range, channels and bit depth of the rendering
pub record Planned : Type 0 where
  pub pieces : List Piece
  pub range : Range

-- valid pieces, few enough at once to be summed, and a valid range with at least one sample and one channel
pub record IsPlan (planned : Planned) : Type 0 where
  pub pieces_ok : All IsPiece planned.pieces
  pub bounded : IsBounded 32767 planned.pieces
  pub some : planned.range.from < planned.range.to
  pub in_day : planned.range.to ≤ day
  pub some_channels : 1 ≤ planned.range.channels
  pub few_channels : planned.range.channels ≤ 64
