-- Time extents of runs of pieces, so that runs outside of a block can be skipped.
use Rattle.std.specs.Prelude.{◌≡◌, ℕ, ◌+◌, ◌-◌, ◌<◌, ◌≤◌, min, max, List, All, length, take, drop, slice_index_or}
use Rattle.sound_terms.specs.declared.piece.Piece.{Piece}
use Rattle.sound_terms.specs.Groups.{IsPiece}
use Rattle.renderplan.specs.declared.reach.Reach.{Reach}

-- the piece sounds only between `least` and `greatest` (exclusive)
abbrev pub LiesWithin : (least greatest : ℕ) → Piece → Type 0
LiesWithin least greatest p = (least ≤ p.start) × (p.start + p.length ≤ greatest)

-- the first `reach.count` pieces sound only within the reach
pub record IsReach (pieces : List Piece) (reach : Reach) : Type 0 where
  pub some : 1 ≤ reach.count
  pub there : reach.count ≤ length pieces
  pub within : All (LiesWithin reach.least reach.greatest) (take reach.count pieces)

-- the reach of two adjacent runs of pieces together
abbrev pub joined_reach : Reach → Reach → Reach
joined_reach reach next = record {
  count = reach.count + next.count;
  least = min reach.least next.least;
  greatest = max reach.greatest next.greatest;
}

-- the last n pieces
abbrev pub last : ℕ → List Piece → List Piece
last n pieces = drop (length pieces - n) pieces

-- reach k is a reach of the last k + 1 pieces
abbrev pub AreReaches : List Piece → List Reach → Type 0
AreReaches pieces reaches =
    (k : ℕ) (d : Reach) → k < length reaches → IsReach (last (k + 1) pieces) (slice_index_or reaches k d)

-- every piece has a reach
pub record AreReached (pieces : List Piece) (reaches : List Reach) : Type 0 where
  pub sound : All IsPiece pieces
  pub each : length reaches ≡ length pieces
  pub far : AreReaches pieces reaches
