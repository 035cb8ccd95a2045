-- Marks: which jobs are done, in a file of their own, and what a crash may leave of the output that they speak of.
use Rattle.std.specs.Prelude.{◌≡◌, ◌≢◌, ℕ, ◌+◌, ◌<◌, ◌≤◌, Bool, true, false, ◌&&◌, ◌==◌, nat_le, Option, None, Some, List, ◌∷◌, length, take, slice_index_or, Result, Ok, Err, ⊤}
use Rattle.work_terms.specs.Disk.{Files}
use Rattle.job_terms.specs.Board.{Board, job_at, is_done}
use Rattle.job_terms.specs.Workers.{End, Jobs, Hand, Nothing, Made}
use Rattle.devices.specs.Views.{CrashesLeave, OutputView}
use Rattle.job_terms.specs.Workers as words
use Rattle.execution.specs.declared.fault.PlaceFault.{PlaceFault}
use Rattle.execution.specs.declared.fault.PlaceFault.TheVariants.{Mark, Write}
use Rattle.execution.specs.Together.{are_done, with_done}

-- an output that is marked block by block: its name, all its bytes, and the span of each block; how many jobs there
-- are, and the blocks of each, from one on up to, and without, another; the first of those that are marked together with
-- each; the marks' name and the bytes 1 to 43
pub record Marking : Type 0 where
  pub name : List ℕ
  pub whole : List ℕ
  pub count : ℕ
  pub first : ℕ → ℕ
  pub last : ℕ → ℕ
  pub jobs : ℕ
  pub from : ℕ → ℕ
  pub end : ℕ → ℕ
  pub group : ℕ → ℕ
  pub marks : List ℕ
  pub head : List ℕ

abbrev pub is_marked : List ℕ → ℕ → Bool
is_marked marks k = slice_index_or marks (44 + k) 0 == 1

-- no block that isn't marked has this byte
abbrev pub IsFixed : Marking → (ℕ → Bool) → ℕ → Type 0
IsFixed m marked i = (k : ℕ) → k < m.count → m.first k ≤ i → i < m.last k → marked k ≡ true

pub record Holds (m : Marking) (marked : ℕ → Bool) (file : List ℕ) : Type 0 where
  pub size : length file ≡ length m.whole
  pub same : (i : ℕ) → IsFixed m marked i → slice_index_or file i 0 ≡ slice_index_or m.whole i 0

pub record HoldsIn (m : Marking) (marked : ℕ → Bool) (file : Option (List ℕ)) : Type 0 where
  pub bytes : List ℕ
  pub there : file ≡ Some bytes
  pub holds : Holds m marked bytes

pub record IsMarkFile (m : Marking) (marks : List ℕ) : Type 0 where
  pub front : take 44 marks ≡ 1 ∷ m.head
  pub size : length marks ≡ 44 + m.count

-- the blocks of a job are marked once it is done with all that are marked together with it
abbrev pub settled : Marking → (ℕ → Bool) → ℕ → Bool
settled m = are_done m.jobs m.group

-- no job that isn't done has this byte
abbrev pub IsDoneAt : Marking → (ℕ → Bool) → ℕ → Type 0
IsDoneAt m done i = (job b : ℕ) → job < m.jobs → m.from job ≤ b → b < m.end job → m.first b ≤ i → i < m.last b
    → done job ≡ true

-- the bytes of each job that is done stand in the output, marked or not
pub record HoldsDone (m : Marking) (done : ℕ → Bool) (file : Option (List ℕ)) : Type 0 where
  pub bytes : List ℕ
  pub there : file ≡ Some bytes
  pub size : length bytes ≡ length m.whole
  pub same : (i : ℕ) → IsDoneAt m done i → slice_index_or bytes i 0 ≡ slice_index_or m.whole i 0

-- between two events: nothing is pending in the marks, which are set for just the blocks of jobs that are done with all
-- that are marked together with them; what is pending in the output lies in the others; and as it is read it has the
-- bytes of each job that is done
pub record IsRunning (m : Marking) (done : ℕ → Bool) (files : Files) (outcomes : Files → Type 0) : Type 0 where
  pub marks : List ℕ
  pub ours : IsMarkFile m marks
  pub tell : (job b : ℕ) → job < m.jobs → m.from job ≤ b → b < m.end job → is_marked marks b ≡ settled m done job
  pub kept : (c : Files) → outcomes c → c m.marks ≡ Some marks
  pub wave : (c : Files) → outcomes c → HoldsIn m (is_marked marks) (c m.name)
  pub stands : HoldsDone m done (files m.name)

-- the marks of one outcome of a crash are whole marks of the run, and true of another's output: each block that they
-- mark stands there, and all that is outside the blocks
pub record AreTrueMarks (m : Marking) (c d : Files) : Type 0 where
  pub marks : List ℕ
  pub there : c m.marks ≡ Some marks
  pub ours : IsMarkFile m marks
  pub sound : HoldsIn m (is_marked marks) (d m.name)

-- those of each outcome are true of the output of every outcome
abbrev pub AreTrueOfAll : Marking → (Files → Type 0) → Type 0
AreTrueOfAll m outcomes = (c d : Files) → outcomes c → outcomes d → AreTrueMarks m c d

-- at a moment between two: the marks are this run's and true of the output; those of jobs that were settled before are
-- set, and no other but of jobs that are settled after
pub record Leaves (m : Marking) (before after : ℕ → Bool) (c : Files) : Type 0 where
  pub marks : List ℕ
  pub there : c m.marks ≡ Some marks
  pub ours : IsMarkFile m marks
  pub still : (job b : ℕ) → job < m.jobs → m.from job ≤ b → b < m.end job → before job ≡ true → is_marked marks b ≡
      true
  pub only : (job b : ℕ) → job < m.jobs → m.from job ≤ b → b < m.end job → is_marked marks b ≡ true → after job ≡
      true
  pub wave : HoldsIn m (is_marked marks) (c m.name)

-- a mark failed: in each outcome the marks are set as between two events, but for those of this job, which is done, and
-- of all that are marked together with it, of which any may be marked; and they are true of the output of every outcome
pub record IsBroken (m : Marking) (done : ℕ → Bool) (outcomes : Files → Type 0) : Type 0 where
  pub job : ℕ
  pub is_done : settled m done job ≡ true
  pub true_of_all : AreTrueOfAll m outcomes
  pub tell : (c d : Files) (at : outcomes c) (other : outcomes d) (j b : ℕ) → j < m.jobs
      → m.group j ≢ m.group job → m.from j ≤ b → b < m.end j
      → is_marked (true_of_all c d at other).marks b ≡ settled m done j

-- a work without marks promises nothing of a crash
abbrev pub IsRunningBy : Option Marking → (ℕ → Bool) → OutputView → Type 0
IsRunningBy None done view = ⊤
IsRunningBy (Some m) done view = IsRunning m done view.files view.may_leave

abbrev pub AreTrueOfAllBy : Option Marking → (Files → Type 0) → Type 0
AreTrueOfAllBy None outcomes = ⊤
AreTrueOfAllBy (Some m) outcomes = AreTrueOfAll m outcomes

abbrev pub IsBrokenBy : Option Marking → (ℕ → Bool) → (Files → Type 0) → Type 0
IsBrokenBy None done outcomes = ⊤
IsBrokenBy (Some m) done outcomes = IsBroken m done outcomes

abbrev pub LeavesBy : Option Marking → (before after : ℕ → Bool) → Files → Type 0
LeavesBy None before after c = ⊤
LeavesBy (Some m) before after c = Leaves m (settled m before) (settled m after) c

-- with the job done, or as before where it couldn't be written; where its mark failed the blocks of the job stand, and
-- any of them may be marked
abbrev pub GoesOn : {X : Type 0} → Option Marking → (ℕ → Bool) → ℕ → OutputView → Result X PlaceFault → Type 0
GoesOn m done job view (Ok _) = IsRunningBy m (with_done done job) view
GoesOn m done job view (Err Write) = IsRunningBy m done view
GoesOn m done job view (Err Mark) = IsBrokenBy m (with_done done job) view.may_leave

abbrev pub done_of : Board → ℕ → Bool
done_of board k = is_done (job_at board k).standing

-- what the worker made are the job's bytes
abbrev pub IsRight : Jobs → Hand → Type 0
IsRight jobs Nothing = ⊤
IsRight jobs (words.Holds ticket) = ⊤
IsRight jobs (Made ticket bytes) = bytes ≡ jobs.bytes ticket.job

-- after an event, also where it ended the run by a third fault; where a mark failed, what is marked still stands
abbrev pub RunsOn : Option Marking → (ℕ → Bool) → OutputView → Option End → Type 0
RunsOn m done view None = IsRunningBy m done view
RunsOn m done view (Some (words.GivenUp job)) = IsRunningBy m done view
RunsOn m done view (Some words.MarkFailed) = IsBrokenBy m done view.may_leave

-- what becomes of marks from one moment to a later one, by the jobs that are done at either and by how the run ended
pub record MarksOn (m : Option Marking) (before : ℕ → Bool) (old : OutputView) (after : ℕ → Bool) (new : OutputView)
    (ended : Option End) : Type 0 where
  pub now : RunsOn m after new ended
  pub moments : CrashesLeave (LeavesBy m before after) old new

-- what is done once a job is placed, or wasn't written
abbrev pub done_by : {X : Type 0} → (ℕ → Bool) → ℕ → Result X PlaceFault → ℕ → Bool
done_by done job (Ok _) = with_done done job
done_by done job (Err Write) = done
done_by done job (Err Mark) = with_done done job

-- and where a job is placed
pub record Marks {X : Type 0} (m : Option Marking) (done : ℕ → Bool) (job : ℕ) (old new : OutputView)
    (result : Result X PlaceFault)
    : Type 0 where
  pub goes_on : GoesOn m done job new result
  pub moments : CrashesLeave (LeavesBy m done (done_by done job result)) old new

-- marks are started once their front is whole and the gate open
abbrev pub is_started : Option (List ℕ) → Bool
is_started None = false
is_started (Some marks) = nat_le 44 (length marks) && (slice_index_or marks 0 0 == 1)

-- no outcome has marks that are started
abbrev pub NoneStartedBy : Option Marking → (Files → Type 0) → Type 0
NoneStartedBy None outcomes = ⊤
NoneStartedBy (Some m) outcomes = (c : Files) → outcomes c → is_started (c m.marks) ≡ false

-- while files are laid out: marks that aren't started, or with none set
abbrev pub LaysBy : Option Marking → Files → Type 0
LaysBy None c = ⊤
LaysBy (Some m) c = is_started (c m.marks) ≡ true → Leaves m (λ _. false) (λ _. false) c

-- where they couldn't be: marks that are started in one outcome are true of the output of each
abbrev pub AreLeftBy : Option Marking → (Files → Type 0) → Type 0
AreLeftBy None outcomes = ⊤
AreLeftBy (Some m) outcomes =
    (c d : Files) → outcomes c → outcomes d → is_started (c m.marks) ≡ true → AreTrueMarks m c d
