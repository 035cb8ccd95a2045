-- What the program prints and answers of a command.
use Rattle.std.specs.Prelude.{◌≡◌, ℕ, Bool, true, false, IsOk, ⊤, List, [], ◌∷◌, ◌++◌, Option, None, Some, Result, Ok, Err, codes}
use Rattle.work_terms.specs.Refusals.{Refusal}
use Rattle.opening.specs.declared.accepted_list.Accepted.{Accepted}
use Rattle.devices.specs.declared.source.Shelf as source
use Rattle.opening.specs.Further.{WasRead}
use Rattle.devices.specs.declared.bench.Bench as output
use Rattle.list_terms.specs.Accepted.{OptionValues}
use Rattle.list_terms.specs.Text.{rate_of}
use Rattle.rendering.specs.declared.job_length.JobLength.{JobLength}
use Rattle.provenance.specs.Asked.{AskedReport}
use Rattle.consolidate.specs.Commands.{IsChecking, IsRendering}
use Rattle.consolidate.specs.Resuming.{IsResuming}
use Rattle.consolidate.specs.SoundReports.{IsReportedRendering, IsReportedResuming, SoundReport}
use Rattle.consolidate.specs.Fault.{refusal_of}
use Rattle.consolidate.specs.declared.Fault.{Fault}
use Rattle.consolidate.specs.declared.Rendered.{Rendered}
use Rattle.consolidate.specs.declared.Resumed.{Resumed}
use Rattle.consolidate.specs.declared.Written.{Written}
use Rattle.commandline.specs.declared.choice.MediaReport.{MediaReport}
use Rattle.commandline.specs.declared.choice.MediaReport.TheVariants.{NoReport, Plain, WithDigests}
use Rattle.commandline.specs.declared.words.TheConstants.{VERSION}
use Rattle.commandline.specs.CommandLine.{Asked, Chosen, Check, Report, Render, Resume, Consolidate, Compare, Show, Explain, ExplainNotice}
use Rattle.checkreport.specs.Reported.{Holds}
use Rattle.checkreport.specs.Reported as reporting
use Rattle.work_terms.specs.Disk.{Files}
use Rattle.console.specs.declared.console.Console as console
use Rattle.console.specs.Lines.{accepted_text, notices_text, refusal_text, rendered_text, resumed_text, written_text}
use Rattle.answers.specs.Times.{part_of, values_of}
use Rattle.verdicts.specs.Verdicts.{IsAnsweredBy, NamesBadTime, Tells}

-- the report of this program on the list of this text, with the digests of whole sources or without them
abbrev pub program_report : (digests : Bool) → (list : List ℕ) → AskedReport
program_report digests list =
    record { program = codes "adlcons"; version = VERSION.now; list = list; digests = digests }

-- that of a rendering
abbrev pub sound_report : SoundReport
sound_report = record { program = codes "adlcons"; version = VERSION.now }

-- that which is asked for
abbrev pub asking : MediaReport → (list : List ℕ) → Option AskedReport
asking NoReport list = None
asking Plain list = Some (program_report false list)
asking WithDigests list = Some (program_report true list)

-- the notices and the line of a list that was checked
abbrev pub accepted_lines : Accepted → List ℕ
accepted_lines told = (notices_text told.notices.items ++ accepted_text told.entries told.indexes) ++ 10 ∷ []

-- of a rendering
abbrev pub rendered_lines : Rendered → List ℕ
rendered_lines told = (notices_text told.notices.items ++ rendered_text told.frames told.channels) ++ 10 ∷ []

-- of a rendering that was gone on with
abbrev pub resumed_lines : Resumed → List ℕ
resumed_lines told = (notices_text told.notices.items ++ resumed_text told.frames told.marked) ++ 10 ∷ []

-- of a consolidation
abbrev pub written_lines : Written → List ℕ
written_lines told = (notices_text told.notices.items ++ written_text told.media told.entries) ++ 10 ∷ []

-- the line of a refusal
abbrev pub refusal_line : Refusal → List ℕ
refusal_line refusal = refusal_text refusal.number refusal.location ++ 10 ∷ []

-- the lines of an outcome
abbrev pub lines_of : {X : Type 0} → (X → List ℕ) → Result X Fault → List ℕ
lines_of report_lines (Ok report) = report_lines report
lines_of report_lines (Err fault) = refusal_line (refusal_of fault)

-- 0 done, 1 refused
abbrev pub status_of : {X : Type 0} → Result X Fault → ℕ
status_of (Ok report) = 0
status_of (Err fault) = 1

-- a command over one list
abbrev pub IsAnswered : {X O : Type 0} → (Result X Fault → Type 0) → (X → List ℕ) → console.Ghosts O → (old new : O)
    → (status : ℕ) → Type 0
IsAnswered call report_lines = IsAnsweredBy call status_of (lines_of report_lines)

-- the list was checked over these sources, which were only read then, and not at all where it was accepted
pub record IsChecked {S : Type 0} (shelf : source.Ghosts S) (list : List ℕ) (old new : S)
    (result : Result Accepted Fault) : Type 0 where
  pub between : S
  pub checking : IsChecking shelf list old between result
  pub read : WasRead shelf between new
  pub accepted : IsOk result → new ≡ between

-- the list was rendered, and then its report was written, where one is wanted
abbrev pub RendersAs : {S B : Type 0} → source.Ghosts S → output.Ghosts B → (is_reported : Bool) → JobLength
    → (list : List ℕ) → OptionValues → (shelf_old shelf_new : S) → (bench_old bench_new : B) → Result Rendered Fault
    → Type 0
RendersAs shelf bench false = IsRendering shelf bench
RendersAs shelf bench true = IsReportedRendering shelf bench sound_report

-- its rendering was gone on with, likewise
abbrev pub ResumesAs : {S B : Type 0} → source.Ghosts S → output.Ghosts B → (is_reported : Bool) → JobLength
    → (list : List ℕ) → OptionValues → (shelf_old shelf_new : S) → (bench_old bench_new : B) → Result Resumed Fault
    → Type 0
ResumesAs shelf bench false = IsResuming shelf bench
ResumesAs shelf bench true = IsReportedResuming shelf bench sound_report

-- the list was rendered by what the words choose, whose times are read at its own rate of frames
pub record RendersBy {S B : Type 0} (shelf : source.Ghosts S) (bench : output.Ghosts B) (jobs : JobLength) (chosen : Chosen)
    (list : List ℕ) (shelf_old shelf_new : S) (bench_old bench_new : B) (result : Result Rendered Fault) : Type 0 where
  pub values : OptionValues
  pub read : values_of (rate_of list) chosen ≡ Ok values
  pub rendering : RendersAs shelf bench chosen.report jobs list values shelf_old shelf_new bench_old bench_new result

-- the rendering of the list was gone on with, by what the words choose likewise
pub record ResumesBy {S B : Type 0} (shelf : source.Ghosts S) (bench : output.Ghosts B) (jobs : JobLength) (chosen : Chosen)
    (list : List ℕ) (shelf_old shelf_new : S) (bench_old bench_new : B) (result : Result Resumed Fault) : Type 0 where
  pub values : OptionValues
  pub read : values_of (rate_of list) chosen ≡ Ok values
  pub resuming : ResumesAs shelf bench chosen.report jobs list values shelf_old shelf_new bench_old bench_new result

-- What is asked for can't be done: a time that can't be read, which is all that standard error has, a number that nothing
-- has, or two lists over one.
abbrev pub MayBeMistaken : {E : Type 0} → console.Ghosts E → (old new : E) → (rate : ℕ) → Asked → Type 0
MayBeMistaken err old new rate (Check list media) = ⊥
MayBeMistaken err old new rate (Report list media) = ⊥
MayBeMistaken err old new rate (Render list media out chosen) = NamesBadTime err old new (values_of rate chosen)
MayBeMistaken err old new rate (Resume list media out chosen) = NamesBadTime err old new (values_of rate chosen)
MayBeMistaken err old new rate (Consolidate list media out handle _) = ⊥
MayBeMistaken err old new rate (Compare list media other other_media selected) = ⊤
MayBeMistaken err old new rate (Show list media handle drawn) = NamesBadTime err old new (part_of rate drawn)
MayBeMistaken err old new rate (Explain number) = ⊤
MayBeMistaken err old new rate (ExplainNotice number) = ⊤

-- the times of what is asked for can be read at this rate
abbrev pub CanBeTimed : (rate : ℕ) → Asked → Type 0
CanBeTimed rate (Render list media out chosen) = IsOk (values_of rate chosen)
CanBeTimed rate (Resume list media out chosen) = IsOk (values_of rate chosen)
CanBeTimed rate (Show list media handle drawn) = IsOk (part_of rate drawn)
CanBeTimed rate _ = ⊤

-- some report was printed in a line, and the status is that of this report; it holds of the text, and of the list over
-- these files where they are honest
pub record IsReportPrinted {O : Type 0} (honest : Bool) (list : List ℕ) (files : Files) (out : console.Ghosts O)
    (old new : O) (status : ℕ) : Type 0 where
  pub report : reporting.Report
  pub holds : Holds honest list files report
  pub status_is : status ≡ reporting.status_of report
  pub printed : Tells out old new (reporting.text_of report ++ 10 ∷ [])
