-- How the jobs of a rendering came out.
use Rattle.std.specs.Prelude.{◌≡◌, ◌<◌, ◌*◌, ◌==◌, ℕ, ⊤, Bool, false, cond, Option, None, Some, List, Result, Ok, Err, length, slice_index_or}
use Rattle.devices.specs.Views.{OutputView, SourceView}
use Rattle.execution.specs.Boards.{board_with, fresh_board}
use Rattle.execution.specs.EventRun.{snapshot_of}
use Rattle.execution.specs.Outcome.{Outcome}
use Rattle.execution.specs.Plan.{AreBlank}
use Rattle.execution.specs.declared.fault.ExecutionFault.{ExecutionFault}
use Rattle.execution.specs.declared.fault.ExecutionFault.TheVariants as execution
use Rattle.job_terms.specs.Board.{Board}
use Rattle.job_terms.specs.Workers.{Nothing, jobs_over, rounds}
use Rattle.job_terms.specs.declared.BoardEvent.{BoardEvent}
use Rattle.job_terms.specs.declared.Progress.{Progress}
use Rattle.list_terms.specs.Accepted.{OptionValues, range_of}
use Rattle.list_terms.specs.Binding.{Binding}
use Rattle.list_terms.specs.Heard.{IsAccepted}
use Rattle.list_terms.specs.Project.{ListProject}
use Rattle.markfile.specs.Opened.{opened_of}
use Rattle.markfile.specs.declared.fault.MarkFault.{MarkFault}
use Rattle.markfile.specs.declared.run.RunId.{RunId}
use Rattle.rendering.specs.Maker.{HasSoundJobs, plan_of}
use Rattle.rendering.specs.Marked.{MarkedWork, run_of}
use Rattle.rendering.specs.Planned.{IsRenderingOf}
use Rattle.rendering.specs.Work.{AreCutBy, done_before, work_of}
use Rattle.rendering.specs.declared.job_length.JobLength.{JobLength}
use Rattle.workboard.specs.Indexed.{IsOrder}
use Rattle.work_terms.specs.Disk.{Files}
use Rattle.consolidate.specs.Marks.{IsMarkedFor}
use Rattle.consolidate.specs.declared.fault.Fault.{Fault}
use Rattle.consolidate.specs.declared.fault.Fault.TheVariants as fault
use Rattle.consolidate.specs.declared.fault.OutputFile.TheVariants as output

-- what is answered for each fault of the execution: 57 for the bytes of a block, 60 for a worker's position
abbrev pub rendering_fault : ExecutionFault → Fault
rendering_fault execution.Memory = fault.WorkerMemory
rendering_fault execution.JobMemory = fault.BlockMemory
rendering_fault (execution.GivenUp job) = fault.GivenUp job
rendering_fault execution.Mark = fault.Output output.Marks
rendering_fault (execution.Output file) = fault.Output (cond (file == 0) output.Rendering output.Marks)

-- as many rounds of one worker as so many jobs can take
abbrev pub in_rounds : ℕ → List BoardEvent
in_rounds count = rounds (3 * count)

-- these events led a work on from this board, where no worker held anything, and from files that may begin so
pub record IsWorkedOff (Begins : Files → Type 0) (untouched : Type 0) (marked : MarkedWork) (first : Board)
    (events : List BoardEvent) (source_old source_new : SourceView) (output_old output_new : OutputView)
    (ended : Result Progress ExecutionFault) : Type 0 where
  pub board : Board
  pub came : Outcome Begins events (snapshot_of (plan_of marked) first 0 source_old output_old) (λ _. Nothing)
      (snapshot_of (plan_of marked) board 0 source_new output_new) untouched ended

-- the files were laid out, and all jobs were open, in an order of them all
pub record IsRenderedWork (events : ℕ → List BoardEvent) (marked : MarkedWork)
    (source_old source_new : SourceView) (output_old output_new : OutputView) (ended : Result Progress ExecutionFault)
    : Type 0 where
  pub order : List ℕ
  pub is_order : IsOrder (work_of marked.work).count order
  pub came : IsWorkedOff (AreBlank (jobs_over (plan_of marked).jobs source_old.files)
      ((plan_of marked).whole source_old.files)) ⊤ marked (fresh_board (work_of marked.work).count order)
      (events (work_of marked.work).count) source_old source_new output_old output_new ended

-- the files were as they stood, the jobs done whose blocks were marked, and the others open, in an order of them all
pub record IsResumedWork (marked : MarkedWork) (source_old source_new : SourceView) (output_old output_new : OutputView)
    (ended : Result Progress ExecutionFault) : Type 0 where
  pub order : List ℕ
  pub is_order : IsOrder (work_of marked.work).count order
  pub done : List Bool
  pub count : length done ≡ (work_of marked.work).count
  pub each : (k : ℕ) → k < length done → slice_index_or done k false ≡ done_before marked.work k
  pub came : IsWorkedOff (λ laid. laid ≡ output_old.files) ⊥ marked (board_with done order)
      (in_rounds (work_of marked.work).count) source_old source_new output_old output_new ended

-- the jobs are all blocks of a bound project, each of this length but the last; they lie apart, each is a part of the
-- rendered file, and they make it and the marks of a list of this text
pub record RendersBound (jobs : JobLength) (events : ℕ → List BoardEvent) (text : List ℕ) (values : OptionValues)
    (project : ListProject) (binding : Binding) (source_old source_new : SourceView) (output_old output_new : OutputView)
    (ended : Result Progress ExecutionFault) : Type 0 where
  pub work : MarkedWork
  pub renders : IsRenderingOf jobs project binding values work.work
  pub sound : HasSoundJobs work
  pub run : work.run ≡ run_of text (range_of project values)
  pub came : IsRenderedWork events work source_old source_new output_old output_new ended

-- the jobs that remain are the blocks of a bound project that aren't among these marks, none longer than this; they lie
-- apart, each is a part of the rendered file, and with what is marked they make it
pub record GoesOnBound (jobs : JobLength) (text : List ℕ) (values : OptionValues) (project : ListProject)
    (binding : Binding) (marked : List Bool) (source_old source_new : SourceView) (output_old output_new : OutputView)
    (ended : Result Progress ExecutionFault) : Type 0 where
  pub work : MarkedWork
  pub is_for : IsMarkedFor text project binding values work
  pub cut : AreCutBy jobs marked work.work
  pub sound : HasSoundJobs work
  pub came : IsResumedWork work source_old source_new output_old output_new ended

-- the same by what the marks are read as: all blocks are jobs where none are started
abbrev pub WorksBound : JobLength → (ℕ → List BoardEvent) → List ℕ → OptionValues → ListProject → Binding
    → Result (Option (List Bool)) MarkFault → SourceView → SourceView → OutputView → OutputView
    → Result Progress ExecutionFault → Type 0
WorksBound jobs events text values project binding (Ok None) source_old source_new output_old output_new ended =
    RendersBound jobs events text values project binding source_old source_new output_old output_new ended
WorksBound jobs events text values project binding (Ok (Some marked)) source_old source_new output_old output_new ended
    =
    GoesOnBound jobs text values project binding marked source_old source_new output_old output_new ended
WorksBound jobs events text values project binding (Err fault) source_old source_new output_old output_new ended = ⊥

-- of the project of an accepted list, by what its marks are read as
pub record WorksList (jobs : JobLength) (events : ℕ → List BoardEvent)
    (found : RunId → Result (Option (List Bool)) MarkFault) (text : List ℕ) (values : OptionValues)
    (source_old source_new : SourceView) (output_old output_new : OutputView) (ended : Result Progress ExecutionFault)
    : Type 0 where
  pub project : ListProject
  pub binding : Binding
  pub accepted : IsAccepted text source_old.files project binding
  pub came : WorksBound jobs events text values project binding (found (run_of text (range_of project values)))
      source_old source_new output_old output_new ended

-- of which nothing was begun
abbrev pub RendersList : JobLength → (ℕ → List BoardEvent) → List ℕ → OptionValues → SourceView → SourceView →
    OutputView
    → OutputView → Result Progress ExecutionFault → Type 0
RendersList jobs events text values source_old source_new output_old output_new ended =
    WorksList jobs events (λ _. Ok None) text values source_old source_new output_old output_new ended

-- by the marks among the outputs
abbrev pub ResumesList : JobLength → List ℕ → OptionValues → SourceView → SourceView → OutputView → OutputView
    → Result Progress ExecutionFault → Type 0
ResumesList jobs text values source_old source_new output_old output_new ended =
    WorksList jobs in_rounds (λ run. opened_of run output_old.files) text values source_old source_new output_old
    output_new ended
