-- What a consolidation makes of a project without a fault, by what passes leave of it; what it leaves of the files, and
-- which refusal is due.
use Rattle.std.specs.Prelude.{◌≡◌, ◌≢◌, ℕ, ◌+◌, ◌<◌, nat_lt, Bool, false, List, length, Option, None, Some, is_some, slice_get, codes, if◌then◌else◌}
use Rattle.sound_terms.specs.declared.piece.Piece.{Piece}
use Rattle.sound_terms.specs.declared.piece.Run.{Run}
use Rattle.sound_terms.specs.Entries.{groups_of_entries}
use Rattle.sound_terms.specs.Homes.{base_by, kept_of, place_by}
use Rattle.sound_terms.specs.Kept.{AreRuns}
use Rattle.sound_terms.specs.Media.{medium_of}
use Rattle.sound_terms.specs.Sounds.{SoundFacts}
use Rattle.work_terms.specs.Disk.{Files, IsDurable}
use Rattle.work_terms.specs.Refusals.{Refusal, Nowhere}
use Rattle.passes.specs.Left.{Leaving}
use Rattle.list_terms.specs.Project.{ListProject}
use Rattle.list_terms.specs.Binding.{Binding}
use Rattle.list_terms.specs.BoundHomes.{homes_of}
use Rattle.list_terms.specs.Accepted.{first_fault}
use Rattle.list_terms.specs.Heard.{reading_of, sounds_of}
use Rattle.list_terms.specs.Renewed.{consolidated_project, media_name}
use Rattle.list_terms.specs.WrittenText.{text_of_project}
use Rattle.provenance.specs.Asked.{AskedReport}
use Rattle.consolidation.specs.Media.{IsNoMedium}
use Rattle.consolidation.specs.Numbered.{HoldAll}
use Rattle.consolidation.specs.Reported.{ChecksFiles, HoldsReport, IsNoReport, IsReportDurable, told_of}
use Rattle.consolidation.specs.Sizes.{sizes_of}
use Rattle.consolidation.specs.declared.written.Written.{Written}

-- the groups that are left of the entries, and the runs of the frames that are kept
pub record Work : Type 0 where
  pub groups : List (List Piece)
  pub runs : List Run

-- what passes leave of a bound project, and the runs round it, with handles of so many frames
pub record IsWorkOf (leave : Leaving) (project : ListProject) (binding : Binding) (handle : ℕ) (sources : Files)
    (work : Work) : Type 0 where
  pub groups : work.groups ≡ leave (reading_of sources binding) (groups_of_entries binding.indexes project.events)
  pub runs : AreRuns (kept_of work.groups (homes_of binding) handle) (place_by (homes_of binding)) work.runs

-- 53: more runs than a list has indexes; 55: more groups than it has entries
abbrev pub refused_if : Bool → ℕ → Option Refusal
refused_if faulty number = if faulty then Some (record { number = number; location = Nowhere; late = false }) else None

abbrev pub work_fault : Work → Option Refusal
work_fault work =
    first_fault (refused_if (nat_lt 32767 (length work.runs)) 53) (refused_if (nat_lt 32767 (length work.groups)) 55)

-- the medium of a run stands under this number: a file of just the run's frames of its source
pub record HoldsMedium (binding : Binding) (sources written : Files) (number : ℕ) (run : Run) : Type 0 where
  pub facts : SoundFacts
  pub opened : slice_get (sounds_of binding) run.file ≡ Some facts
  pub source : List ℕ
  pub there : sources facts.name ≡ Some source
  pub medium : written (media_name number) ≡ Some (medium_of facts source (base_by (homes_of binding) run.file) run)

-- none of the files that a consolidation to so many media writes, with a report or without one
pub record IsElsewhere (reported : Bool) (media : ℕ) (name : List ℕ) : Type 0 where
  pub no_list : name ≢ codes "consolidated.adl"
  pub no_medium : IsNoMedium media name
  pub no_report : IsNoReport reported name

-- none of the files that are written behind the media
pub record IsBehind (reported : Bool) (name : List ℕ) : Type 0 where
  pub no_list : name ≢ codes "consolidated.adl"
  pub no_report : IsNoReport reported name

-- the text of the list over the media of this work
abbrev pub list_of : ListProject → Binding → Work → List ℕ
list_of project binding work = text_of_project (consolidated_project project (homes_of binding) work.groups work.runs)

-- The media of the runs are written and the list over them, with the report that is asked for, and no other file has
-- changed.
pub record IsConsolidated (leave : Leaving) (project : ListProject) (binding : Binding) (handle : ℕ)
    (asked : Option AskedReport) (sources old new : Files) (told : Written) : Type 0 where
  pub work : Work
  pub is_work : IsWorkOf leave project binding handle sources work
  pub list : new (codes "consolidated.adl") ≡ Some (list_of project binding work)
  pub media : HoldAll (HoldsMedium binding sources new) work.runs
  pub report : HoldsReport asked sources (told_of project binding handle work.groups work.runs) new
  pub checks : ChecksFiles asked work.runs new
  pub others : (name : List ℕ) → IsElsewhere (is_some asked) (length work.runs) name → new name ≡ old name
  pub media_count : told.media ≡ length work.runs
  pub entry_count : told.entries ≡ length work.groups
  pub sizes : told.sizes ≡ sizes_of (sounds_of binding) (homes_of binding) work.runs
      (length (list_of project binding work))

-- a crash leaves the list, so many media and the report, where there is one, as they are read
pub record AreDurable (reported : Bool) (media : ℕ) (stored : Files) (may_leave : Files → Type 0) : Type 0 where
  pub list : IsDurable (codes "consolidated.adl") stored may_leave
  pub each_medium : (k : ℕ) → k < media → IsDurable (media_name (1 + k)) stored may_leave
  pub report : IsReportDurable reported stored may_leave
