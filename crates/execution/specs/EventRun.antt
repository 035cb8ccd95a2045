-- A run of events: what it leaves of the board, of what workers hold, and of both stores.
use Rattle.std.specs.Prelude.{◌≡◌, ◌⊎◌, ◌≤◌, ◌*◌, ℕ, Bool, true, cond, IsTrue, Option, None, Some, List, length, take, Result, Ok, Err}
use Rattle.work_terms.specs.Disk.{Files, Rises}
use Rattle.job_terms.specs.declared.BoardEvent.{BoardEvent}
use Rattle.job_terms.specs.declared.Progress.{Progress}
use Rattle.job_terms.specs.Board.{Board, is_finished}
use Rattle.job_terms.specs.declared.BoardEvent.TheVariants as event
use Rattle.job_terms.specs.Workers.{BoardRun, DeliverStep, End, FaultStep, GiveStep, Hand, Jobs, MarkFailed, Nothing, State, WorkStep, jobs_over, rounds}
use Rattle.execution.specs.Boards.{progress_of}
use Rattle.execution.specs.Ends.{StopsBefore, end_of}
use Rattle.execution.specs.declared.fault.ExecutionFault.{ExecutionFault}
use Rattle.execution.specs.Marking.{IsRight, IsRunningBy, Marking, MarksOn, done_of}
use Rattle.execution.specs.Plan.{JobPlan, Stays}
use Rattle.execution.specs.Turns.{Turns}
use Rattle.execution.specs.Worlds.{Leads, state_of}
use Rattle.execution.specs.declared.action.Action.{Action}
use Rattle.execution.specs.declared.action.Action.TheVariants.{Deliver, Fault, Give, Lose, Work}
use Rattle.devices.specs.Views.{OutputView, Reads, SourceView, Writes}

-- all but what workers hold
pub record Snapshot : Type 1 where
  pub plan : JobPlan
  pub board : Board
  pub stale : ℕ
  pub source : SourceView
  pub output : OutputView

abbrev pub snapshot_of : JobPlan → Board → ℕ → SourceView → OutputView → Snapshot
snapshot_of plan board stale source output =
    record { plan = plan; board = board; stale = stale; source = source; output = output }

abbrev pub jobs_of : Snapshot → Jobs
jobs_of snapshot = jobs_over snapshot.plan.jobs snapshot.source.files

abbrev pub marking_of : Snapshot → Option Marking
marking_of snapshot = snapshot.plan.marking snapshot.source.files

abbrev pub state_at : Snapshot → Option End → State
state_at snapshot ended =
    state_of snapshot.board snapshot.output.files snapshot.stale snapshot.source.failures snapshot.output.failures ended

-- the device failed at the marks, which the work has
pub record MarkFails (plan : JobPlan) (old new : OutputView) : Type 0 where
  pub has_marks : IsTrue plan.marks
  pub rose : Rises old.failures new.failures
  pub failed : (sources : Files) (m : Marking) → plan.marking sources ≡ Some m → new.failed_at m.marks

-- whatever the stores are: the same plan, as many jobs, nothing written but the work's own files
pub record IsConfined (old new : Snapshot) (ended : Option End) : Type 0 where
  pub plan : new.plan ≡ old.plan
  pub size : length new.board.jobs ≡ length old.board.jobs
  pub source : Reads old.source new.source
  pub output : Writes (Stays old.plan) old.output new.output
  pub mark : ended ≡ Some MarkFailed → MarkFails old.plan old.output new.output

-- one worker's step
pub record WorkerStep (by : State → Hand → State → Hand → Type 0) (turn : Board → Hand → Board → Hand → Type 0)
    (old : Snapshot) (hand : Hand) (new : Snapshot) (now : Hand) (ended : Option End) : Type 0 where
  pub kept : IsConfined old new ended
  pub turned : ended ≡ None → turn old.board hand new.board now
  pub taken : IsTrue old.source.honest → IsTrue old.output.honest → by (state_at old None) hand (state_at new ended)
      now
  pub marks : IsTrue old.source.honest → IsTrue old.output.honest → IsRight (jobs_of old) hand
      → IsRunningBy (marking_of old) (done_of old.board) old.output
      → MarksOn (marking_of old) (done_of old.board) old.output (done_of new.board) new.output ended

-- what a worker may do, and the event that it is
abbrev pub event_of : Action → ℕ → BoardEvent
event_of Give w = event.Give w
event_of Work w = event.Work w
event_of Deliver w = event.Deliver w
event_of Fault w = event.Fault w
event_of Lose w = event.Lose w

abbrev pub ActionStep : Bool → Jobs → Action → State → Hand → State → Hand → Type 0
ActionStep marks jobs Give = GiveStep
ActionStep marks jobs Work = WorkStep jobs
ActionStep marks jobs Deliver = DeliverStep marks jobs
ActionStep marks jobs Fault = FaultStep
ActionStep marks jobs Lose = λ old _ new now. (new ≡ old) × (now ≡ Nothing)

-- these events
pub record EventRun (old : Snapshot) (had : ℕ → Hand) (events : List BoardEvent) (new : Snapshot) (has : ℕ → Hand)
    (ended : Option End) : Type 0 where
  pub kept : IsConfined old new ended
  pub turned : ended ≡ None → Turns events old.board had new.board has
  pub run : IsTrue old.source.honest → IsTrue old.output.honest → Leads (λ world next. BoardRun old.plan.marks
      (jobs_of old) world events next) (state_at old None) had (state_at new ended) has
  pub marks : IsTrue old.source.honest → IsTrue old.output.honest → ((v : ℕ) → IsRight (jobs_of old) (had v))
      → IsRunningBy (marking_of old) (done_of old.board) old.output
      → MarksOn (marking_of old) (done_of old.board) old.output (done_of new.board) new.output ended

-- the events that are done: these, or as many rounds of the worker 1 as so many jobs can take
abbrev pub listed : Bool → ℕ → List BoardEvent → List BoardEvent
listed in_rounds count events = cond in_rounds (rounds (3 * count)) events

-- where these end: what is reported is how far the jobs are, and all events were done, or the rounds had done all jobs
abbrev pub StopsAt : Bool → List BoardEvent → ℕ → Board → ℕ → Result Progress ExecutionFault → Type 0
StopsAt in_rounds events count board stale (Ok progress) = (progress ≡ progress_of board stale)
    × ((count ≡ length events) ⊎ ((in_rounds ≡ true) × (is_finished board ≡ true)))
StopsAt in_rounds events count board stale (Err fault) = StopsBefore events count fault

-- the first of these events were done, of which so many were stale deliveries
pub record Performed (in_rounds : Bool) (events : List BoardEvent) (old : Snapshot) (had : ℕ → Hand)
    (new : ℕ → Snapshot)
    (has : ℕ → Hand) (result : Result Progress ExecutionFault) : Type 0 where
  pub count : ℕ
  pub few : count ≤ length events
  pub stale : ℕ
  pub ran : EventRun old had (take count events) (new stale) has (end_of result)
  pub stops : StopsAt in_rounds events count (new stale).board stale result
