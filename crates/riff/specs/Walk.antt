-- The recognised chunks of a named file.
use Rattle.std.specs.Prelude.{ℕ, ◌+◌, List, length, Option, None, Some, Result, Ok, Err, if◌then◌else◌, nat_le}
use Rattle.sound_terms.specs.declared.Chunks.{Chunks}
use Rattle.sound_terms.specs.declared.SoundFault.{SoundFault}
use Rattle.sound_terms.specs.declared.Ds64.{Ds64}
use Rattle.sound_terms.specs.Walks.{Layout, layout_of, chunks_in, walked}
use Rattle.riff.specs.declared.fault.MediaFault.{MediaFault}
use Rattle.riff.specs.declared.fault.MediaFault.TheVariants.{NotFound}
use Rattle.riff.specs.declared.wave.Chunks as wave
use Rattle.riff.specs.declared.found.Found.{Found}
use Rattle.riff.specs.Fault.{as_media}
use Rattle.riff.specs.Form.{IsRefused}
use Rattle.riff.specs.Found.{IsWalked}

-- the recognised chunks, without the number of chunk headers
abbrev pub chunks_view : wave.Chunks → Chunks
chunks_view chunks =
    record { format = chunks.format; sound = chunks.sound; bext = chunks.bext; others = chunks.others }

-- the recognised chunks of the file with this name, or the reason why it is refused
abbrev pub walked_file : Option (List ℕ) → Result Chunks MediaFault
walked_file None = Err NotFound
walked_file (Some file) = as_media (walked file)

-- the walk continues with the given number of bytes left, or the file is refused with the error
abbrev pub MediaWalksOn : List ℕ → Option Ds64 → ℕ → Found → Result ℕ MediaFault → Type 0
MediaWalksOn file sizes end found (Ok left) = IsWalked file sizes end left found
MediaWalksOn file sizes end found (Err fault) = IsRefused file fault

-- number of chunk headers before the first chunk: 1 in RF64, for `ds64`
abbrev pub heads_before : Layout → ℕ
heads_before layout = if nat_le 20 layout.place then 1 else 0

-- number of chunk headers of a file that has a layout
abbrev pub chunk_count : List ℕ → ℕ
chunk_count file = counted (layout_of file) where
  counted : Result Layout SoundFault → ℕ
  counted (Ok layout) = heads_before layout + length (chunks_in file layout)
  counted (Err fault) = 0
