-- How a run of jobs ends, by what a call answers.
use Rattle.std.specs.Prelude.{◌≡◌, ◌≢◌, ◌<◌, ⊤, ℕ, Bool, false, Option, None, Some, Result, Ok, Err, IsErrOf, List, [], ◌∷◌, length, slice_index_or}
use Rattle.job_terms.specs.declared.BoardEvent.{BoardEvent}
use Rattle.job_terms.specs.declared.BoardEvent.TheVariants as event
use Rattle.job_terms.specs.Workers.{End, GivenUp, MarkFailed}
use Rattle.execution.specs.declared.fault.ExecutionFault.{ExecutionFault}
use Rattle.execution.specs.declared.fault.ExecutionFault.TheVariants as fault
use Rattle.execution.specs.declared.fault.JobFault.{JobFault}
use Rattle.execution.specs.declared.fault.JobFault.TheVariants as job_fault

-- how the run ended with it, if it did
abbrev pub ended_of : {X : Type 0} → Result X JobFault → Option End
ended_of (Ok _) = None
ended_of (Err (job_fault.GivenUp job)) = Some (GivenUp job)
ended_of (Err job_fault.Mark) = Some MarkFailed

-- the same fault, among those of an execution
abbrev pub fault_of : JobFault → ExecutionFault
fault_of (job_fault.GivenUp job) = fault.GivenUp job
fault_of job_fault.Mark = fault.Mark

-- how a run of events ended: want of memory ends the call, and is no end of the run
abbrev pub end_of : {X : Type 0} → Result X ExecutionFault → Option End
end_of (Ok _) = None
end_of (Err fault.Memory) = None
end_of (Err fault.JobMemory) = None
end_of (Err (fault.GivenUp job)) = Some (GivenUp job)
end_of (Err fault.Mark) = Some MarkFailed
end_of (Err (fault.Output file)) = None

-- the event, but where no memory was left for it
abbrev pub events_of : {X : Type 0} → Result X ExecutionFault → BoardEvent → List BoardEvent
events_of (Ok _) event = event ∷ []
events_of (Err fault.Memory) event = []
events_of (Err fault.JobMemory) event = []
events_of (Err (fault.GivenUp job)) event = event ∷ []
events_of (Err fault.Mark) event = event ∷ []
events_of (Err (fault.Output file)) event = []

-- no memory was left
abbrev pub IsMemory : ExecutionFault → Type 0
IsMemory fault.Memory = ⊤
IsMemory fault.JobMemory = ⊤
IsMemory _ = ⊥

-- memory is wanted for events that were given, and for no round
pub record OnlyInEvents {X : Type 0} (in_rounds : Bool) (result : Result X ExecutionFault) : Type 0 where
  pub memory : IsErrOf result fault.Memory → in_rounds ≡ false
  pub job_memory : IsErrOf result fault.JobMemory → in_rounds ≡ false

-- no worker's place is wanted
abbrev pub WantsNoPlace : {X : Type 0} → Result X ExecutionFault → Type 0
WantsNoPlace result = IsErrOf result fault.Memory → ⊥

-- no room for the bytes of a job is wanted
abbrev pub WantsNoRoom : {X : Type 0} → Result X ExecutionFault → Type 0
WantsNoRoom result = IsErrOf result fault.JobMemory → ⊥

-- it isn't an output that failed
abbrev pub FailsNoOutput : {X : Type 0} → Result X ExecutionFault → Type 0
FailsNoOutput result = (file : ℕ) → IsErrOf result (fault.Output file) → ⊥

-- an event of another worker than the first, who may need a place
abbrev pub NeedsPlace : BoardEvent → Type 0
NeedsPlace (event.Give w) = w ≢ 1
NeedsPlace (event.Work w) = w ≢ 1
NeedsPlace (event.Deliver w) = w ≢ 1
NeedsPlace (event.Fault w) = w ≢ 1
NeedsPlace (event.Lose w) = w ≢ 1
NeedsPlace (event.Reclaim k) = ⊥

-- another worker than the first is to make bytes, and may need room for them
abbrev pub NeedsRoom : BoardEvent → Type 0
NeedsRoom (event.Work w) = w ≢ 1
NeedsRoom _ = ⊥

-- so many of these events were done: after them comes one that may need the memory that there wasn't
abbrev pub StopsBefore : List BoardEvent → ℕ → ExecutionFault → Type 0
StopsBefore events count fault.Memory = (count < length events) × NeedsPlace (slice_index_or events count
    (event.Lose 0))
StopsBefore events count fault.JobMemory = (count < length events) × NeedsRoom (slice_index_or events count
    (event.Lose 0))
StopsBefore events count (fault.Output file) = ⊥
StopsBefore events count _ = ⊤
