-- Programs for several blocks at once.
use Rattle.std.specs.Prelude.{ℕ, ◌+◌, ◌-◌, ◌*◌, ◌<◌, ◌≤◌, min, List, [], ◌∷◌, ◌++◌, length}
use Rattle.std.specs.List.{flat_map}
use Rattle.sound_terms.specs.declared.Depth.{Depth}
use Rattle.sound_terms.specs.declared.block.Instruction.{Instruction}
use Rattle.sound_terms.specs.declared.block.Instruction.TheVariants.{Start, Emit}
use Rattle.sound_terms.specs.declared.piece.Piece.{Piece}
use Rattle.sound_terms.specs.Blocks.{block_count, block_length, block_start, lines_of}
use Rattle.sound_terms.specs.Render.{Range}
use Rattle.renderplan.specs.Planned.{Planned}

-- the program for `frames` sample frames from a time on, on channels from 1 on
abbrev pub written : (from frames channels : ℕ) → Depth → List Piece → List Instruction
written from frames channels depth pieces =
    Start frames ∷ (flat_map (lines_of from frames channels) pieces ++ Emit depth ∷ [])

-- a non-empty span of blocks of the range
pub record IsSpan (range : Range) (first last : ℕ) : Type 0 where
  pub some : first < last
  pub there : last ≤ block_count range

-- the number of sample frames in the blocks from `first` to `last` (exclusive)
abbrev pub span_frames : Range → (first last : ℕ) → ℕ
span_frames range first last =
    min (last * block_length) (range.to - range.from) - min (first * block_length) (range.to - range.from)

-- the program for these blocks at once
abbrev pub program_of_span : List Piece → Range → (first last : ℕ) → List Instruction
program_of_span pieces range first last =
    written (block_start range first) (span_frames range first last) range.channels range.depth pieces

-- the plan has these blocks, and the program has room for their instructions
pub record CanFill (planned : Planned) (first last room : ℕ) : Type 0 where
  pub span : IsSpan planned.range first last
  pub exact : length planned.pieces + 2 ≤ room
