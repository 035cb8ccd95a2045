-- Reads of files into buffers.
use Rattle.std.specs.Prelude.{◌≡◌, ℕ, ◌*◌, ◌/◌, ◌≤◌, Bool, List, Option, Some, length, slice_get}
use Rattle.work_terms.specs.Disk.{Files}
use Rattle.sound_terms.specs.declared.block.Stretch.{Stretch}
use Rattle.sound_terms.specs.declared.piece.Shape.{Shape}
use Rattle.sound_terms.specs.Depth.{bits_of}
use Rattle.sound_terms.specs.Media.{LiesInFile, frame_length}
use Rattle.sound_terms.specs.Sounds.{SoundFacts}
use Rattle.blockmachine.specs.declared.buffer.Held.{Held}
use Rattle.blockmachine.specs.Holding.{Holds}
use Rattle.blockmachine.specs.Lines.{CanPlay}
use Rattle.blockmachine.specs.Sums.{Extent}

-- the stretch is within an open file, and its stored samples are exactly `bytes` bytes long
pub record IsRead (sounds : List SoundFacts) (stretch : Stretch) (bytes : ℕ) : Type 0 where
  pub lies : LiesInFile sounds stretch.file stretch.first stretch.width stretch.frame stretch.length
  pub first : 1 ≤ stretch.first
  pub whole : (facts : SoundFacts) → slice_get sounds stretch.file ≡ Some facts
      → bytes ≡ stretch.length * facts.channels * (bits_of facts.depth / 8)

-- the stretch is within an open file, and its stored samples fit in the bytes
pub record HasRoom (sounds : List SoundFacts) (part : Stretch) (bytes : List ℕ) : Type 0 where
  pub lies : LiesInFile sounds part.file part.first part.width part.frame part.length
  pub room : (facts : SoundFacts) → slice_get sounds part.file ≡ Some facts
      → part.length * frame_length facts ≤ length bytes

-- the stretch can be played under the shape, and the content of the buffer is known
pub record IsReady (honest : Bool) (files : Files) (sounds : List SoundFacts) (extent : Extent) (stretch : Stretch)
    (shape : Shape) (now : Option Held) (bytes : List ℕ) : Type 0 where
  pub plays : CanPlay sounds extent stretch shape
  pub held : Holds honest files sounds now bytes

-- the stretch can be played, and is short enough for one read, as samples and as bytes
pub record IsPart (honest : Bool) (files : Files) (sounds : List SoundFacts) (extent : Extent) (part : Stretch)
    (shape : Shape) (now : Option Held) (bytes : List ℕ) (samples : ℕ) : Type 0 where
  pub ready : IsReady honest files sounds extent part shape now bytes
  pub few : (facts : SoundFacts) → slice_get sounds part.file ≡ Some facts → part.length * facts.channels ≤ samples
  pub room : samples * 4 ≤ length bytes
