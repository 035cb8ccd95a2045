-- How a consolidation came out: its media laid out, their pieces copied, and what comes last, at every end.
use Rattle.std.specs.Prelude.{◌≡◌, ℕ, zero, suc, ◌-◌, ⊤, nat_lt, cond, Bool, true, false, Option, is_some, List, length, Result}
use Rattle.std.specs.List.{range_with_len}
use Rattle.devices.specs.Views.{OutputView, SourceView, Writes}
use Rattle.job_terms.specs.declared.BoardEvent.{BoardEvent}
use Rattle.job_terms.specs.declared.Progress.{Progress}
use Rattle.job_terms.specs.Board.{Board}
use Rattle.job_terms.specs.Workers.{Nothing, jobs_over}
use Rattle.list_terms.specs.Binding.{Binding}
use Rattle.list_terms.specs.Heard.{IsAccepted}
use Rattle.list_terms.specs.Project.{ListProject}
use Rattle.passes.specs.Left.{Leaving}
use Rattle.execution.specs.Boards.{fresh_board}
use Rattle.execution.specs.EventRun.{snapshot_of}
use Rattle.execution.specs.Outcome.{Outcome}
use Rattle.execution.specs.Filled.{AreApart}
use Rattle.execution.specs.Plan.{AreBlank, IsForeign, SourcesFit}
use Rattle.execution.specs.declared.fault.ExecutionFault.{ExecutionFault}
use Rattle.execution.specs.declared.fault.ExecutionFault.TheVariants as execution
use Rattle.provenance.specs.Asked.{AskedReport}
use Rattle.consolidation.specs.Jobs.{work_of}
use Rattle.consolidation.specs.Outputs.{job_plan, output_name, whole_output}
use Rattle.consolidation.specs.Planned.{IsPlanOf, MediaPlan}
use Rattle.consolidate.specs.Fault.{name_of_output}
use Rattle.consolidate.specs.declared.fault.Fault.{Fault}
use Rattle.consolidate.specs.declared.fault.Fault.TheVariants as fault
use Rattle.consolidate.specs.declared.fault.OutputFile.{OutputFile}
use Rattle.consolidate.specs.declared.fault.OutputFile.TheVariants as file

-- the file at a position among those that come last: the checksums and the report, where there is one, and the list
abbrev pub last_output : (reported : Bool) → ℕ → OutputFile
last_output false position = file.List
last_output true zero = file.Sums
last_output true (suc zero) = file.Report
last_output true (suc (suc position)) = file.List

-- the output of a number, counted from 0, of a consolidation to so many media
abbrev pub output_file : (media : ℕ) (reported : Bool) → ℕ → OutputFile
output_file media reported number =
    cond (nat_lt number media) (file.Medium (suc number)) (last_output reported (number - media))

-- the output that can't be written has the name of its number
abbrev pub IsNamedOutput : (media : ℕ) (reported : Bool) → ExecutionFault → Type 0
IsNamedOutput media reported (execution.Output number) =
    name_of_output (output_file media reported number) ≡ output_name media reported number
IsNamedOutput media reported _ = ⊤

-- the fault of a consolidation to so many media that stands for one of its execution; no piece has a mark
abbrev pub consolidation_fault : (media : ℕ) (reported : Bool) → ExecutionFault → Fault
consolidation_fault media reported execution.Memory = fault.WorkerMemory
consolidation_fault media reported execution.JobMemory = fault.WorkerMemory
consolidation_fault media reported (execution.GivenUp job) = fault.GivenUp job
consolidation_fault media reported execution.Mark = fault.Output file.List
consolidation_fault media reported (execution.Output number) = fault.Output (output_file media reported number)

-- From its first write on a call executed these events, so many for so many pieces, of the media of a project: the
-- pieces, which lie apart and are parts of the media, are handed out each in its turn, and what comes last is the report,
-- where one is asked for, and the list. No other file changed, nor what a crash leaves of it. What the call answers is how
-- that ended.
pub record ConsolidatesMedia (leave : Leaving) (project : ListProject) (binding : Binding) (handle : ℕ)
    (asked : Option AskedReport) (events : ℕ → List BoardEvent)
    (Answers : (ExecutionFault → Fault) → Result Progress ExecutionFault → Type 0) (source_old source_new : SourceView)
    (output_old output_new : OutputView) : Type 0 where
  pub plan : MediaPlan
  pub planned : IsPlanOf leave project binding handle asked true source_old.files plan
  pub fits : SourcesFit (job_plan plan) source_old.files
  pub apart : AreApart (jobs_over (work_of plan) source_old.files)
  pub ended : Result Progress ExecutionFault
  pub answers : Answers (consolidation_fault (length plan.runs) (is_some asked)) ended
  pub foreign : Writes (IsForeign (job_plan plan)) output_old output_new
  pub board : Board
  pub came : Outcome (AreBlank (jobs_over (work_of plan) source_old.files) (whole_output plan source_old.files))
      (events (work_of plan).count)
      (snapshot_of (job_plan plan) (fresh_board (work_of plan).count (range_with_len 0 (work_of plan).count)) 0
      source_old output_old) (λ _. Nothing) (snapshot_of (job_plan plan) board 0 source_new output_new) ⊤ ended

-- of the project of an accepted list
pub record ConsolidatesList (leave : Leaving) (text : List ℕ) (handle : ℕ) (asked : Option AskedReport)
    (events : ℕ → List BoardEvent) (Answers : (ExecutionFault → Fault) → Result Progress ExecutionFault → Type 0)
    (source_old source_new : SourceView) (output_old output_new : OutputView) : Type 0 where
  pub project : ListProject
  pub binding : Binding
  pub accepted : IsAccepted text source_old.files project binding
  pub run : ConsolidatesMedia leave project binding handle asked events Answers source_old source_new output_old
      output_new
