-- What it is that a command comes to its stores, or doesn't.
use Rattle.std.specs.Prelude.{◌≡◌, ◌≢◌, ◌⊎◌, ℕ, Bool, true, false, List, codes, Result, Ok, Err, ⊤}
use Rattle.devices.specs.declared.source.Shelf as source
use Rattle.shelf.specs.Folder.{OutputFolder, SourceFolder, folder_named}
use Rattle.shelf.specs.declared.Overwrite.{Overwrite}
use Rattle.shelf.specs.declared.Overwrite.TheVariants.{Files, Never}
use Rattle.commandline.specs.declared.choice.MediaReport.{MediaReport}
use Rattle.clap.specs.Walk.{Text}
use Rattle.rendering.specs.declared.job_length.JobLength.TheVariants.{Longer}
use Rattle.commandline.specs.CommandLine.{Asked, Chosen, Check, Report, Render, Resume, Consolidate, Compare, Show, Explain, ExplainNotice, Selected}
use Rattle.list_terms.specs.Text.{rate_of}
use Rattle.devices.specs.declared.bench.Bench as output
use Rattle.sound_terms.specs.Passes.{standard_groups}
use Rattle.consolidate.specs.Commands.{IsConsolidation}
use Rattle.comparing.specs.Comparing.{IsComparing}
use Rattle.consolidate.specs.Fault.{refusal_of}
use Rattle.consolidate.specs.declared.Fault.{Fault}
use Rattle.consolidate.specs.declared.Written.{Written}
use Rattle.console.specs.declared.console.Console as console
use Rattle.console.specs.declared.lines.ListOfTwo.{ListOfTwo}
use Rattle.console.specs.declared.lines.ListOfTwo.TheVariants.{First, Second}
use Rattle.verdicts.specs.Verdicts.{ComparesBy, IsComparedAs, IsVerified, NamesBadTime, Tells, all_of_both, list_refusal_line}
use Rattle.answers.specs.Answers.{IsAnswered, IsChecked, IsReportPrinted, MayBeMistaken, RendersBy, ResumesBy, accepted_lines, asking, refusal_line, rendered_lines, resumed_lines, written_lines}
use Rattle.verdicts.specs.Times.{selection_of}
use Rattle.checkreport.specs.Reported.{PrintsUnread}
use Rattle.places.specs.Opening.{refusal_of_opening, refusal_of_read}
use Rattle.places.specs.declared.fault.OpenFault.{OpenFault}
use Rattle.places.specs.declared.list_file.ReadFault.{ReadFault}

-- the command didn't come to its stores, and that is its line
pub record IsKeptOut {O : Type 0} (out : console.Ghosts O) (list folder : List ℕ) (old new : O) (status : ℕ)
    : Type 0 where
  pub fault : OpenFault
  pub status_is : status ≡ 1
  pub printed : Tells out old new (refusal_line (refusal_of_opening fault list folder))

-- a command that writes nothing didn't come to its list or its sources, and that is its line
pub record IsUnread {O : Type 0} (out : console.Ghosts O) (list : List ℕ) (old new : O) (status : ℕ) : Type 0 where
  pub fault : ReadFault
  pub status_is : status ≡ 1
  pub printed : Tells out old new (refusal_line (refusal_of_read fault list))

-- a report didn't come to them, and has that alone
pub record IsReportUnread {O : Type 0} (out : console.Ghosts O) (list : List ℕ) (old new : O) (status : ℕ)
    : Type 0 where
  pub fault : ReadFault
  pub status_is : status ≡ 1
  pub unread : PrintsUnread out old new (refusal_of_read fault list).number (refusal_of_read fault list).location

-- the path of one of two lists
abbrev pub path_of : ListOfTwo → (list other : List ℕ) → List ℕ
path_of First list other = list
path_of Second list other = other

-- a command didn't come to one of two lists, which has this path, or to its sources, and that is its line
pub record IsListUnread {O : Type 0} (out : console.Ghosts O) (which : ListOfTwo) (path : List ℕ) (old new : O)
    (status : ℕ) : Type 0 where
  pub fault : ReadFault
  pub status_is : status ≡ 1
  pub printed : Tells out old new (list_refusal_line which (refusal_of_read fault path))

-- a comparison didn't come to one of its lists
pub record IsOneUnread {O : Type 0} (out : console.Ghosts O) (list other : List ℕ) (old new : O) (status : ℕ)
    : Type 0 where
  pub which : ListOfTwo
  pub unread : IsListUnread out which (path_of which list other) old new status

-- two lists were compared, each over the files of its folder, with a report or without
pub record ComparesFolders {O : Type 0} (shelf : source.Ghosts SourceFolder) (out : console.Ghosts O)
    (selected : Selected) (media other_media : List ℕ) (old new : O) (status : ℕ) : Type 0 where
  pub list : List ℕ
  pub other : List ℕ
  pub before : SourceFolder
  pub after : SourceFolder
  pub other_before : SourceFolder
  pub other_after : SourceFolder
  pub folder : before.folder ≡ folder_named media
  pub other_folder : other_before.folder ≡ folder_named other_media
  pub answered : IsComparedAs selected.report
      (ComparesBy shelf shelf selected list other before after other_before other_after) out old new status

-- this list was checked over the files of this folder
pub record ChecksFolder {O : Type 0} (shelf : source.Ghosts SourceFolder) (out : console.Ghosts O)
    (list media : List ℕ) (old new : O) (status : ℕ) : Type 0 where
  pub before : SourceFolder
  pub after : SourceFolder
  pub folder : before.folder ≡ folder_named media
  pub answered : IsAnswered (IsChecked shelf list before after) accepted_lines out old new status

-- it was checked, and its report printed, whether the folder is honest or not
pub record ReportsFolder {O : Type 0} (shelf : source.Ghosts SourceFolder) (out : console.Ghosts O)
    (list media : List ℕ) (old new : O) (status : ℕ) : Type 0 where
  pub before : SourceFolder
  pub folder : before.folder ≡ folder_named media
  pub reported : IsReportPrinted (shelf.honest before) list (shelf.stored before) out old new status

-- a list was compared with one over the files of this folder, where they are the same these lines were printed, and else
-- what came of it
pub record ComparesWritten {O : Type 0} (shelf : source.Ghosts SourceFolder) (out : console.Ghosts O)
    (list lines target : List ℕ) (before : SourceFolder) (old new : O) (status : ℕ) : Type 0 where
  pub written : List ℕ
  pub after : SourceFolder
  pub written_before : SourceFolder
  pub written_after : SourceFolder
  pub folder : written_before.folder ≡ folder_named target
  pub compared : IsVerified lines
      (IsComparing shelf shelf list written all_of_both before after written_before written_after) out old new status

-- The answer to a consolidation with this outcome: a refusal is printed; else the list was compared with the written one,
-- or that one can't be read again.
abbrev pub AnswersVerified : {O : Type 0} → source.Ghosts SourceFolder → console.Ghosts O → (list target : List ℕ)
    → (before : SourceFolder) → (old new : O) → (status : ℕ) → Result Written Fault → Type 0
AnswersVerified shelf out list target before old new status (Err fault) =
    (status ≡ 1) × Tells out old new (refusal_line (refusal_of fault))
AnswersVerified shelf out list target before old new status (Ok told) =
    IsListUnread out Second (codes "consolidated.adl") old new status
    ⊎ ComparesWritten shelf out list (written_lines told) target before old new status

-- a list was consolidated over the files of one folder into another, and where that was done compared with what was
-- written there
pub record VerifiesInFolders {O : Type 0} (shelf : source.Ghosts SourceFolder) (bench : output.Ghosts OutputFolder)
    (out : console.Ghosts O) (handle : ℕ) (report : MediaReport) (media target : List ℕ) (old new : O) (status : ℕ)
    : Type 0 where
  pub list : List ℕ
  pub before : SourceFolder
  pub after : SourceFolder
  pub empty : OutputFolder
  pub full : OutputFolder
  pub folder : before.folder ≡ folder_named media
  pub output : empty.folder ≡ folder_named target
  pub careful : empty.overwrite ≡ Never
  pub outcome : Result Written Fault
  pub consolidated : IsConsolidation shelf bench standard_groups list handle (asking report list) before after empty full
      outcome
  pub answered : AnswersVerified shelf out list target after old new status outcome

-- a rendering that is gone on with may replace files in its folder, no other command may
abbrev pub overwrite_for : Asked → Overwrite
overwrite_for (Resume list media out chosen) = Files
overwrite_for _ = Never

-- a command was called over a list, the files of one folder, and another folder in which it may replace these files
pub record WorksInFolders {X O : Type 0} (replaced : Overwrite)
    (call : List ℕ → SourceFolder → SourceFolder → OutputFolder → OutputFolder → Result X Fault → Type 0)
    (report_lines : X → List ℕ) (out : console.Ghosts O) (media target : List ℕ) (old new : O) (status : ℕ)
    : Type 0 where
  pub list : List ℕ
  pub before : SourceFolder
  pub after : SourceFolder
  pub empty : OutputFolder
  pub full : OutputFolder
  pub folder : before.folder ≡ folder_named media
  pub output : empty.folder ≡ folder_named target
  pub careful : empty.overwrite ≡ replaced
  pub answered : IsAnswered (call list before after empty full) report_lines out old new status

-- a request that writes was answered between these folders: it rendered, went on with a rendering, or consolidated
pub record AnswersWriting {O : Type 0} (shelf : source.Ghosts SourceFolder) (bench : output.Ghosts OutputFolder)
    (out : console.Ghosts O) (asked : Asked) (media target : List ℕ) (old new : O) (status : ℕ) : Type 0 where
  pub rendered : (list from into : Text) (chosen : Chosen) → asked ≡ Render list from into chosen → status ≢ 2
      → WorksInFolders Never (RendersBy shelf bench Longer chosen) rendered_lines out media target old new status
  pub resumed : (list from into : Text) (chosen : Chosen) → asked ≡ Resume list from into chosen → status ≢ 2
      → WorksInFolders Files (ResumesBy shelf bench Longer chosen) resumed_lines out media target old new status
  pub consolidated : (list from into : Text) (handle : ℕ) (report : MediaReport)
      → asked ≡ Consolidate list from into handle report
      → WorksInFolders Never (λ given. IsConsolidation shelf bench standard_groups given handle (asking report given))
      written_lines out media target old new status

-- What is asked for can't be done over some list: a time can't be read at the list's rate, and just its option's line was
-- printed on standard error, or a number may be unknown.
abbrev pub CantBeDone : {E : Type 0} → console.Ghosts E → (old new : E) → Asked → Type 0
CantBeDone err old new (Compare list media other other_media selected) =
    (text : List ℕ) × NamesBadTime err old new (selection_of (rate_of text) selected)
CantBeDone err old new asked = (text : List ℕ) × MayBeMistaken err old new (rate_of text) asked

-- The command that is asked for was called over the list and the folders that it names, and its answer is printed; or
-- what kept it from them is. What is consolidated is compared with the list where that is asked for too.
abbrev pub AnswersInFolders : {O : Type 0} → source.Ghosts SourceFolder → output.Ghosts OutputFolder → console.Ghosts O
    → (is_verified : Bool) → (old new : O) → (status : ℕ) → Asked → Type 0
AnswersInFolders shelf bench out is_verified old new status (Check list media) =
    IsUnread out list old new status ⊎ (text : List ℕ) × ChecksFolder shelf out text media old new status
AnswersInFolders shelf bench out is_verified old new status (Report list media) =
    IsReportUnread out list old new status ⊎ (text : List ℕ) × ReportsFolder shelf out text media old new status
AnswersInFolders shelf bench out is_verified old new status (Render list media target chosen) =
    status ≢ 2 → IsKeptOut out list target old new status
    ⊎ WorksInFolders Never (RendersBy shelf bench Longer chosen) rendered_lines out media target old new status
AnswersInFolders shelf bench out is_verified old new status (Resume list media target chosen) =
    status ≢ 2 → IsKeptOut out list target old new status
    ⊎ WorksInFolders Files (ResumesBy shelf bench Longer chosen) resumed_lines out media target old new status
AnswersInFolders shelf bench out false old new status (Consolidate list media target handle form) =
    IsKeptOut out list target old new status
    ⊎ WorksInFolders Never (λ given. IsConsolidation shelf bench standard_groups given handle (asking form given))
    written_lines out media target old new status
AnswersInFolders shelf bench out true old new status (Consolidate list media target handle form) =
    IsKeptOut out list target old new status
    ⊎ VerifiesInFolders shelf bench out handle form media target old new status
AnswersInFolders shelf bench out is_verified old new status (Compare list media other other_media selected) =
    status ≢ 2 → IsOneUnread out list other old new status
    ⊎ ComparesFolders shelf out selected media other_media old new status
AnswersInFolders shelf bench out is_verified old new status (Show list media handle drawn) = ⊤
AnswersInFolders shelf bench out is_verified old new status (Explain number) = ⊤
AnswersInFolders shelf bench out is_verified old new status (ExplainNotice number) = ⊤
