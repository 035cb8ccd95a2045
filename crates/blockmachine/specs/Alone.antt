-- Blocks that one file fills.
use Rattle.std.specs.Prelude.{◌≡◌, ℕ, ◌*◌, ◌/◌, ◌≤◌, List, [], ◌∷◌, Some, slice_get}
use Rattle.sound_terms.specs.declared.Depth.{Depth}
use Rattle.sound_terms.specs.declared.block.Stretch.{Stretch}
use Rattle.sound_terms.specs.declared.block.Instruction.{Instruction}
use Rattle.sound_terms.specs.declared.piece.Shape.{Shape}
use Rattle.sound_terms.specs.declared.piece.Shape.TheVariants.{Flat}
use Rattle.sound_terms.specs.declared.Format.{Format}
use Rattle.sound_terms.specs.Blocks.{IsBlockProgram, Programmed, adding}
use Rattle.sound_terms.specs.Depth.{bits_of}
use Rattle.sound_terms.specs.Media.{LiesInFile}
use Rattle.sound_terms.specs.Sounds.{SoundFacts}
use Rattle.blockmachine.specs.Lines.{PlaysWithin}
use Rattle.blockmachine.specs.Sums.{Extent}

-- the stretch of a file from this sample on that fills `frames` sample frames, on channels from 1 on
abbrev pub filling : (file frame frames channels : ℕ) → Stretch
filling file frame frames channels = record {
  at = 0;
  length = frames;
  frame = frame;
  file = file;
  first = 1;
  dest = 1;
  width = channels;
}

-- exactly this stretch is added, under this shape, and it fills the block with all channels of a file of this depth
pub record FillsAlone (sounds : List SoundFacts) (frames channels : ℕ) (depth : Depth) (lines : List Instruction)
    (stretch : Stretch) (shape : Shape) : Type 0 where
  pub alone : lines ≡ adding stretch shape ∷ []
  pub whole : stretch ≡ filling stretch.file stretch.frame frames channels
  pub facts : SoundFacts
  pub there : slice_get sounds stretch.file ≡ Some facts
  pub channels_alike : facts.channels ≡ channels
  pub depth_alike : facts.depth ≡ depth

-- the stretch fills a block of this depth unchanged, and its stored samples fit in `bytes` bytes
pub record CanFill (sounds : List SoundFacts) (extent : Extent) (depth : Depth) (stretch : Stretch) (bytes : ℕ)
    : Type 0 where
  pub fills : FillsAlone sounds extent.frames extent.channels depth (adding stretch Flat ∷ []) stretch Flat
  pub lies : LiesInFile sounds stretch.file stretch.first stretch.width stretch.frame stretch.length
  pub room : extent.frames * extent.channels * (bits_of depth / 8) ≤ bytes

-- a program of `frames` sample frames whose sources are all within their files, and room for its stored output
pub record CanCopy (sounds : List SoundFacts) (frames : ℕ) (format : Format) (program : Programmed) (room : ℕ)
    : Type 0 where
  pub formed : IsBlockProgram frames format.channels format.depth program.lines
  pub exact : room ≡ frames * format.channels * (bits_of format.depth / 8)
  pub inside : PlaysWithin sounds program
