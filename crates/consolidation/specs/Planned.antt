-- What is known before the first write: which groups are left, the runs round them, and the list over their media.
use Rattle.std.specs.Prelude.{◌≡◌, ℕ, ◌+◌, ◌≤◌, Bool, IsTrue, List, length, All, Option, Some, is_some, slice_get}
use Rattle.sampletime.specs.TimeCode.{day}
use Rattle.sound_terms.specs.declared.piece.Home.{Home}
use Rattle.sound_terms.specs.declared.piece.Piece.{Piece}
use Rattle.sound_terms.specs.declared.piece.Run.{Run}
use Rattle.sound_terms.specs.Entries.{groups_of_entries}
use Rattle.sound_terms.specs.Groups.{AreGroups, are_whole, mix_of, pieces_of}
use Rattle.sound_terms.specs.Homes.{base_by, kept_of, place_by}
use Rattle.sound_terms.specs.Kept.{AreRuns}
use Rattle.sound_terms.specs.Media.{IsRunOf, sound_at}
use Rattle.sound_terms.specs.Mix.{Reading, mix_at}
use Rattle.sound_terms.specs.Sounds.{SoundFacts}
use Rattle.sound_terms.specs.Waves.{data_place, header_of}
use Rattle.work_terms.specs.Disk.{Files}
use Rattle.passes.specs.Left.{Leaving}
use Rattle.list_terms.specs.Binding.{Binding}
use Rattle.list_terms.specs.BoundHomes.{homes_of}
use Rattle.list_terms.specs.Heard.{project_mix, reading_of, sounds_of}
use Rattle.list_terms.specs.Project.{ListProject}
use Rattle.list_terms.specs.Renewed.{consolidated_project, run_base}
use Rattle.list_terms.specs.WrittenText.{text_of_project}
use Rattle.interval.specs.AtHome.{IsAtHome}
use Rattle.wavwrite.specs.Info.{Fits}
use Rattle.mediacopy.specs.Copied.{HasFrames, IsMedium}
use Rattle.mediacopy.specs.Pieces.{IsPieceOf}
use Rattle.mediacopy.specs.declared.piece.CopyJob.{CopyJob}
use Rattle.mediaset.specs.Runs.{HomedRuns}
use Rattle.provenance.specs.Asked.{AskedReport}
use Rattle.provenance.specs.declared.report.Report.{Report}
use Rattle.consolidation.specs.Reported.{HasReport, told_of}
use Rattle.consolidation.specs.Work.{IsLinked, run_info}

-- the pieces of the entries of a project: whole groups that sound as it does
pub record AreEntries (project : ListProject) (binding : Binding) (groups : List (List Piece)) : Type 0 where
  pub parts : groups ≡ groups_of_entries binding.indexes project.events
  pub same_mix : (reading : Reading) (channel time : ℕ)
      → mix_of reading groups channel time ≡ mix_at reading binding.indexes project.events channel time
  pub at_home : All (IsAtHome (sounds_of binding) (homes_of binding)) (pieces_of groups)
  pub whole : IsTrue (are_whole groups)

-- whole groups of pieces that play frames and channels of opened files, as far as these can be addressed
pub record AreLeft (binding : Binding) (groups : List (List Piece)) : Type 0 where
  pub formed : AreGroups groups
  pub whole : IsTrue (are_whole groups)
  pub at_home : All (IsAtHome (sounds_of binding) (homes_of binding)) (pieces_of groups)

-- these groups are what passes leave of a project, and they sound as it does
pub record SoundsAsGiven (leave : Leaving) (project : ListProject) (binding : Binding) (sources : Files)
    (groups : List (List Piece)) : Type 0 where
  pub gives : groups ≡ leave (reading_of sources binding) (groups_of_entries binding.indexes project.events)
  pub same_mix : (channel time : ℕ)
      → mix_of (reading_of sources binding) groups channel time ≡ project_mix sources project binding channel time

-- a run of an opened file with a home, that ends before the day does
pub record IsAddressed (sounds : List SoundFacts) (homes : List Home) (run : Run) : Type 0 where
  pub of_file : IsRunOf sounds run
  pub home : Home
  pub homed : slice_get homes run.file ≡ Some home
  pub in_day : run_base homes run + run.length ≤ day

-- so is each of them
abbrev pub AreAddressed : List SoundFacts → HomedRuns → Type 0
AreAddressed sounds found = All (IsAddressed sounds found.homes) found.runs

-- whose medium the size fields of RIFF can tell, and which reads back where its source has all of its frames
pub record IsMediumRun (sounds : List SoundFacts) (homes : List Home) (run : Run) : Type 0 where
  pub addressed : IsAddressed sounds homes run
  pub fits : Fits (run_info sounds homes run)
  pub head : length (header_of (run_info sounds homes run)) ≡ data_place (run_info sounds homes run)
  pub medium : (source : List ℕ) → HasFrames (sound_at sounds run.file) source
      → IsMedium (sound_at sounds run.file) source (base_by homes run.file) run

-- the runs of kept frames round groups that are left, and no others, with the homes of their files: as few as a list
-- has indexes, each of an opened file
pub record AreKeptRuns (binding : Binding) (handle : ℕ) (groups : List (List Piece)) (found : HomedRuns) : Type 0 where
  pub left : AreLeft binding groups
  pub homes : found.homes ≡ homes_of binding
  pub few : length found.runs ≤ 32767
  pub kept : AreRuns (kept_of groups (homes_of binding) handle) (place_by (homes_of binding)) found.runs
  pub one : (runs : List Run) → AreRuns (kept_of groups (homes_of binding) handle) (place_by (homes_of binding)) runs
      → runs ≡ found.runs
  pub addressed : All (IsAddressed (sounds_of binding) (homes_of binding)) found.runs

-- what a consolidation is to write: the runs of opened files that become media, with the home of each file, and the text
-- of the list over these media, which has so many entries; and the report, where one is asked for
pub record MediaPlan : Type 0 where
  pub sounds : List SoundFacts
  pub homes : List Home
  pub runs : List Run
  pub text : List ℕ
  pub entries : ℕ
  pub report : Option Report

-- of these runs with their homes
abbrev pub plan_of : List SoundFacts → HomedRuns → List ℕ → ℕ → Option Report → MediaPlan
plan_of sounds found text entries report = record {
  sounds = sounds;
  homes = found.homes;
  runs = found.runs;
  text = text;
  entries = entries;
  report = report;
}

-- it is a piece of one of the runs
abbrev pub HasPiece : MediaPlan → CopyJob → Type 0
HasPiece plan piece = IsPieceOf plan.sounds plan.runs piece

-- it can be written
pub record IsMediaPlan (plan : MediaPlan) : Type 0 where
  pub few : length plan.runs ≤ 32767
  pub media : All (IsMediumRun plan.sounds plan.homes) plan.runs

-- the runs of kept frames round these groups, each of which can become a medium, and the text of the list over these
-- media
pub record IsPlanned (project : ListProject) (binding : Binding) (handle : ℕ) (groups : List (List Piece))
    (plan : MediaPlan) : Type 0 where
  pub sounds : plan.sounds ≡ sounds_of binding
  pub homes : plan.homes ≡ homes_of binding
  pub few : length plan.runs ≤ 32767
  pub kept : AreRuns (kept_of groups (homes_of binding) handle) (place_by (homes_of binding)) plan.runs
  pub media : All (IsMediumRun (sounds_of binding) (homes_of binding)) plan.runs
  pub text : plan.text ≡ text_of_project (consolidated_project project (homes_of binding) groups plan.runs)
  pub entries : plan.entries ≡ length groups
  pub linked : IsLinked project (sounds_of binding) (homes_of binding) groups plan.runs

-- planned round the groups that passes leave of the project, with the report that is asked for
pub record IsPlanOf (leave : Leaving) (project : ListProject) (binding : Binding) (handle : ℕ)
    (asked : Option AskedReport) (honest : Bool) (sources : Files) (plan : MediaPlan) : Type 0 where
  pub groups : List (List Piece)
  pub planned : IsPlanned project binding handle groups plan
  pub left : IsTrue honest → SoundsAsGiven leave project binding sources groups
  pub is_asked : is_some plan.report ≡ is_some asked
  pub report : IsTrue honest → HasReport asked sources (told_of project binding handle groups plan.runs) plan.report
