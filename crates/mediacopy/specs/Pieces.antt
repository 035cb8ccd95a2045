-- Pieces of runs: their offsets in the source and in the medium.
use Rattle.std.specs.Prelude.{◌≡◌, ℕ, ◌+◌, ◌*◌, ◌^◌, ◌<◌, ◌≤◌, List, [], Some, slice_get, unwrap_or}
use Rattle.sound_terms.specs.declared.piece.Run.{Run}
use Rattle.sound_terms.specs.Media.{IsRunOf, frame_length, frames_in, medium_info, sound_at}
use Rattle.sound_terms.specs.Sounds.{SoundFacts}
use Rattle.sound_terms.specs.Waves.{data_place, file_length}
use Rattle.work_terms.specs.Disk.{Files}
use Rattle.list_terms.specs.Binding.{Binding}
use Rattle.list_terms.specs.Heard.{sounds_of}
use Rattle.mediacopy.specs.declared.piece.CopyJob.{CopyJob}

-- The run past the end of the list.
abbrev pub no_run : Run
no_run = record { file = 0; first = 0; length = 0 }

-- The run at a position.
abbrev pub run_at : List Run → ℕ → Run
run_at runs k = unwrap_or (slice_get runs k) no_run

-- The source file of a piece.
abbrev pub source_of : List SoundFacts → List Run → CopyJob → SoundFacts
source_of sounds runs job = sound_at sounds (run_at runs job.run).file

-- A piece within a run of an opened file, whose medium's length fits in 64 bits.
pub record IsPieceOf (sounds : List SoundFacts) (runs : List Run) (job : CopyJob) : Type 0 where
  pub run : Run
  pub there : slice_get runs job.run ≡ Some run
  pub of_file : IsRunOf sounds run
  pub inside : job.from + job.frames ≤ run.length
  pub told : file_length (medium_info (sound_at sounds run.file) 0 run) < 2 ^ 64

-- A piece within a run of a binding's file.
abbrev pub IsPieceIn : Binding → List Run → CopyJob → Type 0
IsPieceIn bound runs job = IsPieceOf (sounds_of bound) runs job

-- The length of a piece in bytes.
abbrev pub piece_length : List SoundFacts → List Run → CopyJob → ℕ
piece_length sounds runs job = job.frames * frame_length (source_of sounds runs job)

-- The content of a file; empty if it doesn't exist.
abbrev pub content : Files → List ℕ → List ℕ
content files name = unwrap_or (files name) []

-- The bytes of a piece in its source.
abbrev pub piece_bytes : Files → List SoundFacts → List Run → CopyJob → List ℕ
piece_bytes sources sounds runs job =
    frames_in (source_of sounds runs job) (content sources (source_of sounds runs job).name)
    ((run_at runs job.run).first + job.from) job.frames

-- The offset of a piece in the medium of its run, which doesn't depend on the run's time.
abbrev pub piece_place : List SoundFacts → List Run → CopyJob → ℕ
piece_place sounds runs job =
    data_place (medium_info (source_of sounds runs job) 0 (run_at runs job.run))
    + job.from * frame_length (source_of sounds runs job)
