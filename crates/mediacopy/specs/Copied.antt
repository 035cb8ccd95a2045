-- Media: the sample frames of a run of a source, with a header of their own.
use Rattle.std.specs.Prelude.{◌≡◌, ℕ, ◌+◌, ◌*◌, ◌<◌, ◌≤◌, List, length, Ok}
use Rattle.sound_terms.specs.declared.piece.Run.{Run}
use Rattle.sound_terms.specs.Depth.{bits_of}
use Rattle.sound_terms.specs.Media.{frame_length, frames_in, medium_info, medium_of}
use Rattle.sound_terms.specs.Sounds.{SoundFacts}
use Rattle.sound_terms.specs.SoundFiles.{sound_of}
use Rattle.sound_terms.specs.Waves.{SoundInfo, data_place, data_size, file_of, sample_at, zeros}
use Rattle.wavwrite.specs.Info.{facts_of}

-- The preallocated file: this header and zero samples.
abbrev pub laid_out : SoundInfo → List ℕ
laid_out info = file_of info (zeros (data_size info))

-- The file has all sample frames that its header announces.
abbrev pub HasFrames : SoundFacts → List ℕ → Type 0
HasFrames facts file = facts.offset + facts.frames * frame_length facts ≤ length file

-- The samples of a file from this offset on are the samples of a run of the source.
abbrev pub HasSamplesOf : SoundFacts → List ℕ → Run → (file : List ℕ) (place : ℕ) → Type 0
HasSamplesOf facts source run file place = (i channel : ℕ) → i < run.length → 1 ≤ channel → channel ≤ facts.channels
    → sample_at file place facts.channels (bits_of facts.depth) i channel
    ≡ sample_at source facts.offset facts.channels (bits_of facts.depth) (run.first + i) channel

-- The medium of a run of a source: it is complete, can be read back, and has the run's samples.
pub record IsMedium (facts : SoundFacts) (source : List ℕ) (base : ℕ) (run : Run) : Type 0 where
  pub whole : length (frames_in facts source run.first run.length) ≡ data_size (medium_info facts base run)
  pub reads_back : (name : List ℕ)
      → sound_of name (medium_of facts source base run) ≡ Ok (facts_of name (medium_info facts base run))
  pub samples : HasSamplesOf facts source run (medium_of facts source base run)
      (data_place (medium_info facts base run))
