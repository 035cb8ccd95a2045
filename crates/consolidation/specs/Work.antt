-- What a consolidation makes of an accepted list, and what it leaves.
use Rattle.std.specs.Prelude.{◌≡◌, ℕ, ◌+◌, ◌<◌, ◌≤◌, true, List, length, None, Some, Ok, slice_get, codes}
use Rattle.sampletime.specs.TimeCode.{day}
use Rattle.sound_terms.specs.declared.piece.Home.{Home}
use Rattle.sound_terms.specs.declared.piece.Run.{Run}
use Rattle.sound_terms.specs.declared.piece.Piece.{Piece}
use Rattle.sound_terms.specs.declared.Event.{Event}
use Rattle.sound_terms.specs.Entries.{placed_of}
use Rattle.sound_terms.specs.Groups.{mix_of}
use Rattle.sound_terms.specs.Mix.{Reading, mix_at}
use Rattle.sound_terms.specs.Media.{CopiesRuns, medium_info, sound_at}
use Rattle.sound_terms.specs.Sounds.{SoundFacts}
use Rattle.sound_terms.specs.SoundFiles.{sound_of}
use Rattle.sound_terms.specs.Waves.{SoundInfo, data_place}
use Rattle.sound_terms.specs.Homes.{base_by}
use Rattle.work_terms.specs.Disk.{Files}
use Rattle.list_terms.specs.Project.{ListProject}
use Rattle.list_terms.specs.Binding.{Binding, OpenedFile, is_used}
use Rattle.list_terms.specs.Accepted.{event_fault}
use Rattle.list_terms.specs.Text.{text_value}
use Rattle.list_terms.specs.WrittenText.{text_of_project}
use Rattle.list_terms.specs.Heard.{IsAccepted, project_mix}
use Rattle.list_terms.specs.Renewed.{consolidated_project, media_name, numbered, run_base, run_event, run_indexes}
use Rattle.mediacopy.specs.Copied.{HasSamplesOf}
use Rattle.wavwrite.specs.Info.{facts_of}
use Rattle.consolidation.specs.Numbered.{HoldAll}

-- what the medium of a run tells of itself
abbrev pub run_info : List SoundFacts → List Home → Run → SoundInfo
run_info sounds homes run = medium_info (sound_at sounds run.file) (base_by homes run.file) run

-- the medium of a run is there under its number, reads back, and has the samples of its source
pub record HasMedium (sources written : Files) (sounds : List SoundFacts) (homes : List Home) (number : ℕ)
    (run : Run) : Type 0 where
  pub opened : slice_get sounds run.file ≡ Some (sound_at sounds run.file)
  pub source : List ℕ
  pub source_there : sources (sound_at sounds run.file).name ≡ Some source
  pub inside : run.first + run.length ≤ (sound_at sounds run.file).frames
  pub in_day : run_base homes run + run.length ≤ day
  pub file : List ℕ
  pub there : written (media_name number) ≡ Some file
  pub reads_back : sound_of (media_name number) file ≡ Ok (facts_of (media_name number) (run_info sounds homes run))
  pub samples : HasSamplesOf (sound_at sounds run.file) source run file (data_place (run_info sounds homes run))

-- the medium of a run as a file that is opened
abbrev pub opened_medium : List SoundFacts → List Home → ℕ → Run → OpenedFile
opened_medium sounds homes number run =
    record { path = media_name number; facts = facts_of (media_name number) (run_info sounds homes run) }

-- the entries of groups over the media of runs
abbrev pub run_events : List Home → List Run → List (List Piece) → List Event
run_events homes runs groups = numbered (run_event homes runs) 1 (placed_of groups)

-- the media of all runs are there
abbrev pub HasMedia : (sources written : Files) (sounds : List SoundFacts) (homes : List Home) (runs : List Run)
    → Type 0
HasMedia sources written sounds homes runs = HoldAll (HasMedium sources written sounds homes) runs

-- The list over the media of runs is read back and accepted over these media, and its entries sound as the groups.
pub record IsLinked (project : ListProject) (sounds : List SoundFacts) (homes : List Home) (groups : List (List Piece))
    (runs : List Run) : Type 0 where
  pub reads_back : text_value (text_of_project (consolidated_project project homes groups runs))
      ≡ Ok (consolidated_project project homes groups runs)
  pub all_used : (k : ℕ) → k < length runs → is_used (run_events homes runs groups) (1 + k) ≡ true
  pub no_fault : (renewed : Binding) → renewed.indexes ≡ run_indexes homes runs
      → renewed.files ≡ numbered (opened_medium sounds homes) 1 runs
      → event_fault renewed (run_events homes runs groups) ≡ None
  pub relinked : (given copied : Reading) → CopiesRuns given runs copied → (channel time : ℕ)
      → mix_at copied (run_indexes homes runs) (run_events homes runs groups) channel time
      ≡ mix_of given groups channel time

-- The written list is accepted over the written media, and each channel has the same sum at each sample.
pub record SoundsTheSame (text : List ℕ) (sources written : Files) : Type 0 where
  pub given : ListProject
  pub given_binding : Binding
  pub accepted : IsAccepted text sources given given_binding
  pub list : List ℕ
  pub there : written (codes "consolidated.adl") ≡ Some list
  pub renewed : ListProject
  pub renewed_binding : Binding
  pub accepted_again : IsAccepted list written renewed renewed_binding
  pub same : (channel time : ℕ) → project_mix written renewed renewed_binding channel time
      ≡ project_mix sources given given_binding channel time
