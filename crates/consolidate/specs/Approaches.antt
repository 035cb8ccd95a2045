-- How the jobs of a command are handed out, and what is said of a rendering that is begun, and of one that is gone on
-- with.
use Rattle.std.specs.Prelude.{◌≡◌, ℕ, ⊤, Bool, true, false, Option, None, List, Result, Ok}
use Rattle.work_terms.specs.Disk.{Files}
use Rattle.work_terms.specs.Refusals.{Refusal}
use Rattle.job_terms.specs.declared.BoardEvent.{BoardEvent}
use Rattle.job_terms.specs.declared.Progress.{Progress}
use Rattle.list_terms.specs.Accepted.{first_fault}
use Rattle.markfile.specs.Opened.{opened_of}
use Rattle.markfile.specs.Started.{NoneStarted}
use Rattle.markfile.specs.declared.fault.MarkFault.{MarkFault}
use Rattle.markfile.specs.declared.run.RunId.{RunId}
use Rattle.consolidate.specs.Outcomes.{IsAllDone}
use Rattle.consolidate.specs.Own.{IsOfWork}
use Rattle.consolidate.specs.RenderOutcome.{in_rounds}
use Rattle.consolidate.specs.declared.fault.Fault.{Fault}
use Rattle.consolidate.specs.declared.request.Approach.{Approach}
use Rattle.consolidate.specs.declared.request.Approach.TheVariants.{Again, Anew}
use Rattle.consolidate.specs.declared.request.HandingOut.{HandingOut}
use Rattle.consolidate.specs.declared.request.HandingOut.TheVariants.{Events, Rounds}

-- ---- by how jobs are handed out

-- the events, for so many jobs
abbrev pub events_by : HandingOut → ℕ → List BoardEvent
events_by Rounds = in_rounds
events_by (Events events) = λ _. events.now

-- rounds do all jobs, and take no memory
abbrev pub AreRounds : HandingOut → Type 0
AreRounds Rounds = ⊤
AreRounds (Events events) = ⊥

abbrev pub are_events : HandingOut → Bool
are_events Rounds = false
are_events (Events events) = true

-- what is reported of its jobs says that all are done; of rounds it needn't
abbrev pub IsFinishedBy : HandingOut → Progress → Type 0
IsFinishedBy Rounds told = ⊤
IsFinishedBy (Events events) told = IsAllDone told

-- what is reported where an execution ended so
abbrev pub SaysBy : HandingOut → Progress → Progress → Type 0
SaysBy Rounds told progress = progress.finished ≡ true
SaysBy (Events events) told progress = told ≡ progress

-- ---- by whether a rendering is begun

abbrev pub handing_of : Approach → HandingOut
handing_of (Anew handing) = handing
handing_of Again = Rounds

-- this holds, where it is gone on with
abbrev pub IfAgain : Approach → Type 0 → Type 0
IfAgain (Anew handing) P = ⊤
IfAgain Again P = P

abbrev pub is_again : Approach → Bool
is_again (Anew handing) = false
is_again Again = true

-- what has to hold for what a crash leaves: no marks are started, or they are left so
abbrev pub StartsBy : Approach → (Files → Type 0) → Type 0 → Type 0
StartsBy (Anew handing) outcomes left = NoneStarted outcomes
StartsBy Again outcomes left = left

-- what its marks among these outputs are read as: they aren't where it is begun
abbrev pub found_by : Approach → RunId → Files → Result (Option (List Bool)) MarkFault
found_by (Anew handing) run outputs = Ok None
found_by Again run outputs = opened_of run outputs

-- the first fault of rendering it, and then of its marks, where they are read
abbrev pub due_by : Approach → (rendering marks : Option Refusal) → Option Refusal
due_by (Anew handing) rendering marks = rendering
due_by Again rendering marks = first_fault rendering marks

-- a fault that it may tell
abbrev pub IsOwnOf : Approach → List ℕ → Fault → Type 0
IsOwnOf approach = IsOfWork (is_again approach) (are_events (handing_of approach))
