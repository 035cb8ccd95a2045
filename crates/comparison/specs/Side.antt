-- One of the two sides of a comparison: the sound of its plan, block by block.
use Rattle.std.specs.Prelude.{◌≡◌, ℕ, ◌+◌, ◌*◌, ◌<◌, ◌≤◌, min, ℤ, List, length, take}
use Rattle.std.specs.List.{All}
use Rattle.sound_terms.specs.declared.block.Instruction.{Instruction}
use Rattle.sound_terms.specs.Blocks.{BlockState, LiesInFiles, PlaysFull, Programmed, block_count, block_frames, block_start, executed_all}
use Rattle.sound_terms.specs.Groups.{sum_of}
use Rattle.sound_terms.specs.Media.{IsPieceOf}
use Rattle.sound_terms.specs.Render.{Range}
use Rattle.sound_terms.specs.Sounds.{SoundFacts, reading_by}
use Rattle.work_terms.specs.Disk.{Files}
use Rattle.renderplan.specs.Planned.{IsPlan, Planned}
use Rattle.blockmachine.specs.Exact.{AreSumsOf}
use Rattle.blockmachine.specs.Sums.{Extent}

-- a plan over open files
pub record SideWork : Type 0 where
  pub planned : Planned
  pub sounds : List SoundFacts

-- the plan has a block of this number
abbrev pub HasBlock : SideWork → ℕ → Type 0
HasBlock work k = k < block_count work.planned.range

-- a side with its current program and sums
pub record SideState : Type 0 where
  pub work : SideWork
  pub lines : List Instruction
  pub sums : List ℤ

-- the plan's pieces are within the files, and the machine, the program and the sums have room for any block
pub record IsSide (work : SideWork) (machine : Extent) (program : Programmed) (sums : List ℤ) : Type 0 where
  pub planned : IsPlan work.planned
  pub inside : All (IsPieceOf work.sounds) work.planned.pieces
  pub ready : machine ≡ record { frames = 4096; channels = work.planned.range.channels }
  pub lines_room : length work.planned.pieces + 2 ≤ program.room
  pub sums_room : length sums ≡ 4096 * work.planned.range.channels

-- the mix of the plan's pieces over these files
abbrev pub heard : SideWork → Files → ℕ → ℕ → ℤ
heard work sources = sum_of (reading_by sources work.sounds) work.planned.pieces

-- the exact sums of block k of a mix, interleaved
abbrev pub AreBlockSums : Range → (ℕ → ℕ → ℤ) → ℕ → List ℤ → Type 0
AreBlockSums range mix k sums =
    AreSumsOf (block_frames range k) range.channels sums (λ i channel. mix channel (block_start range k + i))

-- the instructions play the sound of the side in block k
pub record IsBlockOf (work : SideWork) (k : ℕ) (lines : List Instruction) : Type 0 where
  pub inside : All (LiesInFiles work.sounds) lines
  pub sums : (sources : Files) → All (PlaysFull (reading_by sources work.sounds)) lines → (start : BlockState)
      → (i channel : ℕ) → i < block_frames work.planned.range k → channel ≤ work.planned.range.channels
      → (executed_all (reading_by sources work.sounds) work.planned.range.channels lines start).sums i channel
      ≡ heard work sources channel (block_start work.planned.range k + i)

-- the sums of block k at the start of the buffer
abbrev pub first_sums : Range → ℕ → List ℤ → List ℤ
first_sums range k sums = take (block_frames range k * range.channels) sums

-- the time reached before block k
abbrev pub reached : Range → ℕ → ℕ
reached range k = min (block_start range k) range.to
