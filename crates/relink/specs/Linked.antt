-- Groups that can become entries.
use Rattle.std.specs.Prelude.{◌≡◌, ℕ, ◌+◌, ◌≤◌, List, All, Some, slice_get}
use Rattle.sampletime.specs.TimeCode.{day}
use Rattle.sound_terms.specs.declared.piece.Home.{Home}
use Rattle.sound_terms.specs.declared.piece.Piece.{Piece}
use Rattle.sound_terms.specs.declared.piece.Placed.{Placed}
use Rattle.sound_terms.specs.declared.piece.Run.{Run}
use Rattle.sound_terms.specs.Homes.{base_by}
use Rattle.list_terms.specs.Binding.{OpenedFile}

-- A group whose channels, times and fades are valid for an entry.
pub record IsPlaced (homes : List Home) (e : Placed) : Type 0 where
  pub wide : 1 ≤ e.width
  pub source_from_one : 1 ≤ e.first
  pub source_to_64 : e.first + e.width ≤ 65
  pub dest_from_one : 1 ≤ e.dest
  pub dest_to_64 : e.dest + e.width ≤ 65
  pub some : 1 ≤ e.length
  pub in_day : e.start + e.length ≤ day
  pub fades : e.rise + e.fall ≤ e.length
  pub source_in_day : base_by homes e.file + (e.frame + e.length) ≤ day

-- All sample frames of a group are in one run.
pub record LiesInRun (runs : List Run) (e : Placed) : Type 0 where
  pub place : ℕ
  pub run : Run
  pub there : slice_get runs place ≡ Some run
  pub same_file : run.file ≡ e.file
  pub from : run.first ≤ e.frame
  pub to : e.frame + e.length ≤ run.first + run.length

-- A group that can become an entry over these runs.
abbrev pub IsLinkable : List Home → List Run → Placed → Type 0
IsLinkable homes runs e = IsPlaced homes e × LiesInRun runs e

-- Each run's file exists, with every source channel that a piece plays.
abbrev pub HaveChannels : List Piece → List Run → List OpenedFile → Type 0
HaveChannels pieces runs files = (k : ℕ) (run : Run) → slice_get runs k ≡ Some run
    → (file : OpenedFile) × (slice_get files k ≡ Some file)
    × All (λ (p : Piece). p.file ≡ run.file → p.first + p.width ≤ file.facts.channels + 1) pieces
