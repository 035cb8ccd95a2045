-- Output files for the kept runs: one file for each run, with exactly its sample frames.
use Rattle.std.specs.Prelude.{◌≡◌, ℕ, ◌+◌, ◌*◌, ◌/◌, ◌<◌, ◌≤◌, List, [], take, drop, unwrap_or, slice_get, None, Some, false}
use Rattle.sound_terms.specs.declared.piece.Piece.{Piece}
use Rattle.sound_terms.specs.declared.piece.Run.{Run}
use Rattle.sound_terms.specs.declared.Depth.TheVariants.{Sixteen}
use Rattle.sound_terms.specs.Depth.{bits_of}
use Rattle.sound_terms.specs.Mix.{Reading}
use Rattle.sound_terms.specs.Sounds.{SoundFacts}
use Rattle.sound_terms.specs.Waves.{SoundInfo, file_of, zeros}

-- number of bytes per sample frame
abbrev pub frame_length : SoundFacts → ℕ
frame_length facts = facts.channels * (bits_of facts.depth / 8)

-- header of the output file of a run: channels, depth and texts of its source, and the time of its first sample, if the
-- source starts at time `base`
abbrev pub medium_info : SoundFacts → ℕ → Run → SoundInfo
medium_info facts base run = record {
  channels = facts.channels;
  depth = facts.depth;
  frames = run.length;
  text = unwrap_or facts.text (zeros 338);
  time_reference = base + run.first;
  history = facts.history;
}

-- bytes of `count` sample frames of a source from `frame` on
abbrev pub frames_in : SoundFacts → List ℕ → (frame count : ℕ) → List ℕ
frames_in facts bytes frame count =
    take (count * frame_length facts) (drop (facts.offset + frame * frame_length facts) bytes)

-- output file of a run, for a source with these bytes
abbrev pub medium_of : SoundFacts → List ℕ → ℕ → Run → List ℕ
medium_of facts bytes base run = file_of (medium_info facts base run) (frames_in facts bytes run.first run.length)

-- the run is in an opened file
pub record IsRunOf (sounds : List SoundFacts) (run : Run) : Type 0 where
  pub facts : SoundFacts
  pub there : slice_get sounds run.file ≡ Some facts
  pub some : 0 < run.length
  pub inside : run.first + run.length ≤ facts.frames

-- `width` channels from `first` on (counted from 1) and `length` sample frames from `frame` on (counted from 0) exist
-- in the opened file
pub record LiesInFile (sounds : List SoundFacts) (file first width frame length : ℕ) : Type 0 where
  pub facts : SoundFacts
  pub there : slice_get sounds file ≡ Some facts
  pub channels : first + width ≤ facts.channels + 1
  pub frames : frame + length ≤ facts.frames

-- the piece plays existing channels and sample frames of an opened file
abbrev pub IsPieceOf : List SoundFacts → Piece → Type 0
IsPieceOf sounds p = LiesInFile sounds p.file p.first p.width p.frame p.length

-- default facts for a file number that does not exist
abbrev pub no_sound : SoundFacts
no_sound = record {
  name = [];
  channels = 0;
  depth = Sixteen;
  frames = 0;
  offset = 0;
  text = None;
  time_reference = None;
  history = [];
  short_bext = false;
  history_cut = false;
  others = false;
}

-- facts of the opened file with this number
abbrev pub sound_at : List SoundFacts → ℕ → SoundFacts
sound_at sounds file = unwrap_or (slice_get sounds file) no_sound

-- the files of the second reading are copies of the runs of the first
abbrev pub CopiesRuns : Reading → List Run → Reading → Type 0
CopiesRuns given runs copied = (k channel i : ℕ) (run : Run) → slice_get runs k ≡ Some run → i < run.length
    → copied k channel i ≡ given run.file channel (run.first + i)
