-- The media of a consolidation, with their digests.
use Rattle.std.specs.Prelude.{ℕ, ◌≡◌, ◌*◌, ◌++◌, Bool, IsSome, IsTrue, List, length, Option, None, Some, if◌then◌else◌}
use Rattle.sha2.specs.declared.Sha256.{Sha256}
use Rattle.sha2.specs.Hashers.{Holds256}
use Rattle.sha2.specs.Sha256.{sha256}
use Rattle.sound_terms.specs.declared.piece.Home.{Home}
use Rattle.sound_terms.specs.declared.piece.Run.{Run}
use Rattle.sound_terms.specs.Homes.{base_by}
use Rattle.sound_terms.specs.Media.{IsRunOf, frame_length, frames_in, medium_of, sound_at}
use Rattle.sound_terms.specs.Sounds.{SoundFacts}
use Rattle.work_terms.specs.Disk.{Files}
use Rattle.list_terms.specs.Renewed.{numbered}
use Rattle.mediacopy.specs.Pieces.{content}
use Rattle.mediaset.specs.Runs.{EndsInDay}
use Rattle.digests.specs.declared.medium.Medium.{Medium}

-- the bytes of the medium of a run over these sources
abbrev pub medium_bytes : Files → List SoundFacts → List Home → Run → List ℕ
medium_bytes sources sounds homes run =
    medium_of (sound_at sounds run.file) (content sources (sound_at sounds run.file).name) (base_by homes run.file) run

-- the digest of the whole source of a run, if requested
abbrev pub source_digest : (digests : Bool) → Files → List SoundFacts → Run → Option (List ℕ)
source_digest digests sources sounds run =
    if digests then Some (sha256 (content sources (sound_at sounds run.file).name)) else None

-- the medium of a run, with this number
abbrev pub medium_by : (digests : Bool) → Files → List SoundFacts → List Home → ℕ → Run → Medium
medium_by digests sources sounds homes number run = record {
  number = number;
  run = run;
  digest = sha256 (medium_bytes sources sounds homes run);
  source = source_digest digests sources sounds run;
}

-- the media of the runs, numbered from 1 on
abbrev pub media_of : (digests : Bool) → Files → List SoundFacts → List Home → List Run → List Medium
media_of digests sources sounds homes runs = numbered (medium_by digests sources sounds homes) 1 runs

-- The medium has the requested digest of its source, whose file exists.
pub record HasSource (digests : Bool) (sources : Files) (sounds : List SoundFacts) (medium : Medium) : Type 0 where
  pub digest : medium.source ≡ source_digest digests sources sounds medium.run
  pub exists : IsTrue digests → IsSome (sources (sound_at sounds medium.run.file).name)

-- the hasher has hashed `before` and then the `count` existing sample frames of the file from `from` on
pub record IsHashed (facts : SoundFacts) (sources : Files) (from count : ℕ) (before : List ℕ) (hasher : Sha256)
    : Type 0 where
  pub held : Holds256 hasher (before ++ frames_in facts (content sources facts.name) from count)
  pub whole : length (frames_in facts (content sources facts.name) from count) ≡ count * frame_length facts

-- the medium is a run of an open file, and ends within the day
pub record IsTellable (sounds : List SoundFacts) (homes : List Home) (medium : Medium) : Type 0 where
  pub of_file : IsRunOf sounds medium.run
  pub in_day : EndsInDay homes medium.run
