-- The first file and sample that are audible in a block.
use Rattle.std.specs.Prelude.{ℕ, ◌+◌, ◌-◌, ◌<◌, ◌&&◌, nat_le, nat_lt, min, max, Bool, List, [], ◌∷◌, Option, None, Some, if◌then◌else◌}
use Rattle.sampletime.specs.TimeCode.{day}
use Rattle.sound_terms.specs.declared.piece.Piece.{Piece}
use Rattle.sound_terms.specs.Blocks.{block_frames, block_start}
use Rattle.sound_terms.specs.Render.{Range}

-- the piece sounds in the n samples from this time on, on a channel up to `channels`
abbrev pub sounds_in : (from n channels : ℕ) → Piece → Bool
sounds_in from n channels p =
    nat_lt (max from p.start) (min (from + n) (p.start + p.length)) && nat_le p.dest channels

-- the file of a piece and the sample of it at this time, or at the start of the piece if that is later
abbrev pub source_at : ℕ → Piece → ℕ × ℕ
source_at from p = (p.file, p.frame + (max from p.start - p.start))

-- the source of the first piece that sounds in the window, or none if all are silent
abbrev pub first_source : (from n channels : ℕ) → List Piece → Option (ℕ × ℕ)
first_source from n channels [] = None
first_source from n channels (p ∷ ps) =
    if sounds_in from n channels p then Some (source_at from p) else first_source from n channels ps

-- the source of block k of a range
abbrev pub source_of : List Piece → Range → ℕ → Option (ℕ × ℕ)
source_of pieces range k = first_source (block_start range k) (block_frames range k) range.channels pieces

-- the position is one of a day's samples
abbrev pub IsInDay : ℕ × ℕ → Type 0
IsInDay source = source.1 < day
