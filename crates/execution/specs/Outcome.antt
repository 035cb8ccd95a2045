-- How a whole work came out: its outputs laid out, its events done, and what comes last.
use Rattle.std.specs.Prelude.{◌≡◌, ◌≤◌, ◌<◌, ℕ, ⊤, Bool, true, false, IsTrue, Option, None, Some, List, length, take, Result, Ok, Err}
use Rattle.work_terms.specs.Disk.{Files, IsDurable, Rises}
use Rattle.devices.specs.Views.{CrashesLeave, OutputView, Reads, Writes}
use Rattle.job_terms.specs.declared.BoardEvent.{BoardEvent}
use Rattle.job_terms.specs.declared.Progress.{Progress}
use Rattle.job_terms.specs.Board.{Board, is_finished}
use Rattle.job_terms.specs.Workers.{BoardRun, End, Hand, Nothing}
use Rattle.execution.specs.Boards.{progress_of}
use Rattle.execution.specs.Ends.{StopsBefore, end_of}
use Rattle.execution.specs.EventRun.{MarkFails, Snapshot, jobs_of, marking_of}
use Rattle.execution.specs.Filled.{AreApart, AreFilled}
use Rattle.execution.specs.Laws.{KeepsLaws}
use Rattle.execution.specs.Marking.{AreLeftBy, IsRunningBy, Leaves, LeavesBy, Marking, NoneStartedBy, RunsOn, done_of, is_started, settled}
use Rattle.execution.specs.Plan.{AreBlank, AreBlankBefore, AreDurable, AreKeptAfter, HoldBefore, HoldJobs, HoldLast, IsAt, IsForeign, IsLast, IsOwn, JobPlan, SourcesFit, StartBlankBy, Stays}
use Rattle.execution.specs.Worlds.{Leads, state_of}
use Rattle.execution.specs.declared.fault.ExecutionFault.{ExecutionFault}
use Rattle.execution.specs.declared.fault.ExecutionFault.TheVariants as fault

-- all bytes of each output
abbrev pub whole_of : Snapshot → List ℕ → List ℕ
whole_of snapshot = snapshot.plan.whole snapshot.source.files

-- The device failed at the output of this number.
pub record OutputFails (plan : JobPlan) (file : ℕ) (old new : OutputView) : Type 0 where
  pub rose : Rises old.failures new.failures
  pub failed : IsAt plan file new.failed_at

-- a fault that names a file has its cause: the device failed there
abbrev pub HasFailed : JobPlan → OutputView → OutputView → Result Progress ExecutionFault → Type 0
HasFailed plan old new (Err fault.Mark) = MarkFails plan old new
HasFailed plan old new (Err (fault.Output file)) = OutputFails plan file old new
HasFailed plan old new _ = ⊤

-- the output of this number wasn't begun: jobs are left, or the call ended before it
abbrev pub IsBefore : Result Progress ExecutionFault → ℕ → Type 0
IsBefore (Ok progress) i = progress.finished ≡ false
IsBefore (Err (fault.Output file)) i = file < i
IsBefore (Err _) i = ⊤

-- all jobs were done, and what comes last
abbrev pub HasFinished : Result Progress ExecutionFault → Type 0
HasFinished (Ok progress) = progress.finished ≡ true
HasFinished (Err _) = ⊥

-- a crash leaves all outputs, and the marks, as they are read
pub record AreAllDurable (plan : JobPlan) (output : OutputView) : Type 0 where
  pub outputs : AreDurable plan output.files output.may_leave
  pub marks : (sources : Files) (m : Marking) → plan.marking sources ≡ Some m
      → IsDurable m.marks output.files output.may_leave

-- whatever the stores are: the same plan, as many jobs, nothing written but the work's own files, a failure at the file
-- that is named, what comes last written in its order, once all jobs are done, and all of it durable where it is done
pub record IsBounded (old new : Snapshot) (result : Result Progress ExecutionFault) : Type 0 where
  pub plan : new.plan ≡ old.plan
  pub size : length new.board.jobs ≡ length old.board.jobs
  pub source : Reads old.source new.source
  pub output : Writes (IsForeign old.plan) old.output new.output
  pub failed : HasFailed old.plan old.output new.output result
  pub order : IsTrue old.output.honest → (i : ℕ) → IsLast old.plan i → Stays old.plan
      (old.plan.output i) → IsBefore result i
      → new.output.files (old.plan.output i) ≡ old.output.files (old.plan.output i)
  pub durable : IsTrue old.output.honest → HasFinished result → AreAllDurable old.plan new.output

-- from files that may begin so, the first of these events led to these files and counts of failures
pub record EventsDone (Begins : Files → Type 0) (events : List BoardEvent) (old : Snapshot) (had : ℕ → Hand)
    (board : Board)
    (files : Files) (shelf_failures bench_failures stale count : ℕ) (ended : Option End) : Type 0 where
  pub laid : Files
  pub begins : Begins laid
  pub few : count ≤ length events
  pub hands : ℕ → Hand
  pub run : Leads (λ world next. BoardRun old.plan.marks (jobs_of old) world (take count events) next)
      (state_of old.board laid 0 old.source.failures old.output.failures None) had
      (state_of board files stale shelf_failures bench_failures ended) hands
  -- each byte of an output that no unfinished job has is right, and all are where all jobs are done
  pub filled : AreFilled (jobs_of old) (whole_of old) (done_of board) files
  pub complete : is_finished board ≡ true → HoldJobs old.plan old.source.files files
  pub laws : KeepsLaws old.plan.marks (jobs_of old) events
      (state_of old.board laid 0 old.source.failures old.output.failures None)
      (state_of board files stale shelf_failures bench_failures ended)

-- where nothing ended the run all these events were done, jobs are left, and it is reported how far they are
abbrev pub StopsWith : List BoardEvent → ℕ → Board → ℕ → Result Progress ExecutionFault → Type 0
StopsWith events count board stale (Ok progress) =
    (progress ≡ progress_of board stale) × (is_finished board ≡ false) × (count ≡ length events)
StopsWith events count board stale (Err fault) = StopsBefore events count fault

-- A layout that failed at the output of this number: those before it are laid out, those after it are unchanged, and
-- marks that are started have none set, over outputs that are laid out.
pub record IsFailedLayout (old : Snapshot) (new : OutputView) (file : ℕ) : Type 0 where
  pub at : OutputFails old.plan file old.output new
  pub early : file < old.plan.last
  pub before : AreBlankBefore old.plan old.source.files file new.files
  pub after : IsTrue old.output.honest → AreKeptAfter old.plan file old.output.files new.files
  pub blank : NoneStartedBy (marking_of old) old.output.may_leave
      → StartBlankBy (marking_of old) (jobs_of old) (whole_of old) new.may_leave

-- The result of a run, by where it ended: before the first job, with the sources untouched; at one of the events (a
-- third fault, a mark that failed, no memory) or after all of them with jobs left; or after all events with every job
-- done, when an output of the last ones failed, or none did.
pub data Outcome (Begins : Files → Type 0) (events : List BoardEvent) (old : Snapshot) (had : ℕ → Hand) (new : Snapshot)
    (untouched : Type 0) (result : Result Progress ExecutionFault) : Type 0 where
  NotLaidOut : (file : ℕ) → untouched → result ≡ Err (fault.Output file) → new.board ≡ old.board
      → new.source.failures ≡ old.source.failures → Writes (Stays old.plan) old.output new.output
      → (NoneStartedBy (marking_of old) old.output.may_leave → AreLeftBy (marking_of old) new.output.may_leave)
      → IsFailedLayout old new.output file
      → Outcome Begins events old had new untouched result
  Stopped : (stale count : ℕ) → EventsDone Begins events old had new.board new.output.files new.source.failures
      new.output.failures stale count (end_of result)
      → StopsWith events count new.board stale result → Writes (Stays old.plan) old.output new.output
      → RunsOn (marking_of old) (done_of new.board) new.output (end_of result)
      → Outcome Begins events old had new untouched result
  NotFinished : (file stale failures : ℕ) (files : Files) → EventsDone Begins events old had new.board files
      new.source.failures failures stale (length events) None → is_finished new.board ≡ true → result ≡ Err (fault.Output file)
      → ((n : List ℕ) → IsOwn old.plan n → new.output.files n ≡ files n)
      → HoldBefore old.plan file old.source.files new.output.files → Rises failures new.output.failures
      → OutputFails old.plan file old.output new.output
      → IsRunningBy (marking_of old) (done_of new.board) new.output
      → Outcome Begins events old had new untouched result
  Finished : (stale : ℕ) (files : Files) → EventsDone Begins events old had new.board files
      new.source.failures new.output.failures stale (length events) None → is_finished new.board ≡ true
      → result ≡ Ok (progress_of new.board stale)
      → ((n : List ℕ) → IsOwn old.plan n → new.output.files n ≡ files n)
      → HoldLast old.plan old.source.files new.output.files
      → AreDurable old.plan new.output.files new.output.may_leave
      → IsRunningBy (marking_of old) (done_of new.board) new.output
      → Outcome Begins events old had new untouched result

-- What a whole call leaves: its outcome, where it began so, and what a crash leaves at any moment, where the marks were
-- so.
pub record IsCall (Begins Leaving : Files → Type 0) (begun marked untouched : Type 0) (events : List BoardEvent)
    (old : Snapshot) (had : ℕ → Hand) (new : Snapshot) (result : Result Progress ExecutionFault) : Type 0 where
  pub bounded : IsBounded old new result
  pub outcome : IsTrue old.source.honest → IsTrue old.output.honest → SourcesFit old.plan old.source.files
      → AreApart (jobs_of old) → begun → Outcome Begins events old had new untouched result
  pub moments : IsTrue old.source.honest → IsTrue old.output.honest → marked → CrashesLeave Leaving old.output
      new.output

-- no job is done and no worker holds anything
pub record IsFresh (old : Snapshot) (had : ℕ → Hand) : Type 0 where
  pub none : (k : ℕ) → k < length old.board.jobs → done_of old.board k ≡ false
  pub idle : (w : ℕ) → had w ≡ Nothing

-- and no outcome has marks that are started
pub record IsUnstarted (old : Snapshot) (had : ℕ → Hand) : Type 0 where
  pub fresh : IsFresh old had
  pub unstarted : NoneStartedBy (marking_of old) old.output.may_leave

-- marks that are started: none was set at first, and only those of jobs that are done are
abbrev pub SetsBy : Option Marking → (ℕ → Bool) → Files → Type 0
SetsBy None after c = ⊤
SetsBy (Some m) after c = is_started (c m.marks) ≡ true → Leaves m (λ _. false) (settled m after) c

-- what the whole of a work leaves, from its first write on
abbrev pub Executed : List BoardEvent → Snapshot → (ℕ → Hand) → Snapshot → Type 0 → Result Progress ExecutionFault
    → Type 0
Executed events old had new untouched result = IsCall (AreBlank (jobs_of old) (whole_of old))
    (SetsBy (marking_of old) (done_of new.board)) (IsFresh old had)
    (IsUnstarted old had) untouched events old had new result

-- no worker holds anything, and the marks say what is done
pub record IsMarked (old : Snapshot) (had : ℕ → Hand) : Type 0 where
  pub idle : (w : ℕ) → had w ≡ Nothing
  pub running : IsRunningBy (marking_of old) (done_of old.board) old.output

-- and what is done stands in the outputs
pub record IsResting (old : Snapshot) (had : ℕ → Hand) : Type 0 where
  pub filled : AreFilled (jobs_of old) (whole_of old) (done_of old.board) old.output.files
  pub marked : IsMarked old had

-- what a call leaves that goes on with outputs as they are
abbrev pub Resumed : List BoardEvent → Snapshot → (ℕ → Hand) → Snapshot → Result Progress ExecutionFault → Type 0
Resumed events old had new result = IsCall (λ laid. laid ≡ old.output.files)
    (LeavesBy (marking_of old) (done_of old.board) (done_of new.board)) (IsResting old had)
    (IsMarked old had) ⊥ events old had new result
