-- Instructions that are added to sums.
use Rattle.std.specs.Prelude.{◌≡◌, ℕ, ◌*◌, ◌≤◌, ℤ, pos, List, All, IsSomeAnd, length}
use Rattle.sound_terms.specs.declared.Depth.{Depth}
use Rattle.sound_terms.specs.declared.block.Stretch.{Stretch}
use Rattle.sound_terms.specs.declared.block.Instruction.{Instruction}
use Rattle.sound_terms.specs.declared.piece.Shape.{Shape}
use Rattle.sound_terms.specs.Groups.{IsRamp}
use Rattle.sound_terms.specs.Blocks.{BlockState, FitsBlock, IsBlockProgram, LiesInFiles, Programmed, addition_of}
use Rattle.sound_terms.specs.Media.{LiesInFile}
use Rattle.sound_terms.specs.Sounds.{SoundFacts}
use Rattle.blockmachine.specs.Sums.{Extent}

-- the stretch is within an open file and within the block, and its shape has its length
pub record CanPlay (sounds : List SoundFacts) (extent : Extent) (stretch : Stretch) (shape : Shape) : Type 0 where
  pub inside : FitsBlock extent.frames extent.channels stretch
  pub lies : LiesInFile sounds stretch.file stretch.first stretch.width stretch.frame stretch.length
  pub ramp : IsRamp shape stretch.length

-- the instruction adds a stretch that can be played
abbrev pub CanAdd : List SoundFacts → Extent → Instruction → Type 0
CanAdd sounds extent line = IsSomeAnd (addition_of line) (λ added. CanPlay sounds extent added.0 added.1)

-- the instructions can be added, and `sums` is the number of sums of whole sample frames within the capacity
pub record CanSum (sounds : List SoundFacts) (extent : Extent) (program : List Instruction) (sums : ℕ)
    : Type 0 where
  pub lines : All (CanAdd sounds extent) program
  pub whole : (frames : ℕ) × (frames ≤ extent.frames) × (sums ≡ frames * extent.channels)

-- the state of a block with all sums zero
abbrev pub silent : BlockState → BlockState
silent state = record state { sums = λ i channel. pos 0 }

-- the list has one sum per channel of some number of sample frames within the capacity
abbrev pub FillFrames : Extent → List ℤ → Type 0
FillFrames extent sums = (frames : ℕ) × (frames ≤ extent.frames) × (length sums ≡ frames * extent.channels)

-- a program of a block within the capacity; `out` has the length of the block
abbrev pub CanRun : Extent → Programmed → List ℤ → Type 0
CanRun extent program out = (frames : ℕ) × (depth : Depth) × (frames ≤ extent.frames)
    × IsBlockProgram frames extent.channels depth program.lines × (length out ≡ frames * extent.channels)

-- all instructions play samples within these files
abbrev pub PlaysWithin : List SoundFacts → Programmed → Type 0
PlaysWithin sounds program = All (LiesInFiles sounds) program.lines
