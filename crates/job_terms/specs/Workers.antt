-- Workers at a board: each event is one step of the board, the files and the hand of one worker.
use Rattle.std.specs.Prelude.{◌≡◌, ◌≢◌, ℕ, zero, suc, ◌+◌, ◌<◌, Bool, true, false, IsTrue, cond, ◌==◌, MatchBool, Option, Some, None, is_none, List, [], ◌∷◌, length}
use Rattle.work_terms.specs.Disk.{Files, IsRange, IsWritten, IsTorn, Rises}
use Rattle.job_terms.specs.declared.Ticket.{Ticket}
use Rattle.job_terms.specs.declared.BoardEvent.{BoardEvent}
use Rattle.job_terms.specs.declared.BoardEvent.TheVariants.{Give, Work, Deliver, Fault, Lose, Reclaim}
use Rattle.job_terms.specs.Board.{Board, can_give, job_at, is_current, is_done, is_out, ticket_of, given_out, reopened, accepted, faulted, is_last_fault}

-- jobs of a task: their number, and for each job its file, its offset and the bytes to be stored there
pub record Jobs : Type 0 where
  pub count : ℕ
  pub name : ℕ → List ℕ
  pub at : ℕ → ℕ
  pub bytes : ℕ → List ℕ

-- jobs before any source is read: their number, the files and offsets, and their bytes as a function of the sources
pub record JobsBy : Type 0 where
  pub count : ℕ
  pub name : ℕ → List ℕ
  pub at : ℕ → ℕ
  pub size : ℕ → ℕ
  pub bytes : Files → ℕ → List ℕ

-- the jobs for the given sources
abbrev pub jobs_over : JobsBy → Files → Jobs
jobs_over work sources = record { count = work.count; name = work.name; at = work.at; bytes = work.bytes sources }

-- what a worker holds: nothing, a job to do, or the bytes made for a job
pub data Hand : Type 0 where
  Nothing : Hand
  Holds : (ticket : Ticket) → Hand
  Made : (ticket : Ticket) (bytes : List ℕ) → Hand

-- reason why a run ended: a job failed for the third time, or the mark of a block was not written
pub data End : Type 0 where
  GivenUp : (job : ℕ) → End
  MarkFailed : End

-- state shared by all workers
pub record State : Type 0 where
  pub board : Board
  pub files : Files
  pub stale : ℕ
  pub shelf_failures : ℕ
  pub bench_failures : ℕ
  pub ended : Option End

-- the shared state and the hand of each worker
pub record World : Type 0 where
  pub state : State
  pub hands : ℕ → Hand

-- what a worker with this ticket holds, before or after making the bytes
abbrev pub hand_of : Option Ticket → Bool → List ℕ → Hand
hand_of None made bytes = Nothing
hand_of (Some ticket) false bytes = Holds ticket
hand_of (Some ticket) true bytes = Made ticket bytes

-- the step changes the file of job k; no other output file changes
pub record Puts (step : Option (List ℕ) → Option (List ℕ) → Type 0) (name : ℕ → List ℕ) (k : ℕ) (old new : Files) : Type 0 where
  pub here : step (old (name k)) (new (name k))
  pub others : (j : ℕ) → name j ≢ name k → new (name j) ≡ old (name j)

-- a fault under this ticket reopens the job, and the third fault ends the run; a stale ticket has no effect
abbrev pub after_fault : State → Ticket → State
after_fault old ticket = cond (is_current old.board ticket)
    (record old {
      board = faulted old.board ticket.job;
      ended = cond (is_last_fault old.board ticket.job) (Some (GivenUp ticket.job)) None;
    })
    old

-- the worker gets any job that can be dispatched; nothing happens if there is none
pub data GiveStep (old : State) (hand : Hand) (new : State) (now : Hand) : Type 0 where
  Gives : (k : ℕ) → hand ≡ Nothing → can_give old.board k ≡ true → new ≡ record old { board = given_out old.board k }
      → now ≡ Holds (ticket_of old.board k) → GiveStep old hand new now
  NoneLeft : hand ≡ Nothing → ((k : ℕ) → can_give old.board k ≡ false) → new ≡ old → now ≡ hand → GiveStep old hand new now
  Busy : hand ≢ Nothing → new ≡ old → now ≡ hand → GiveStep old hand new now

-- the worker makes the bytes of its job, or the shelf fails
pub data WorkStep (jobs : Jobs) (old : State) (hand : Hand) (new : State) (now : Hand) : Type 0 where
  Makes : (ticket : Ticket) → hand ≡ Holds ticket → new ≡ old → now ≡ Made ticket (jobs.bytes ticket.job)
      → WorkStep jobs old hand new now
  CantMake : (ticket : Ticket) (failures : ℕ) → hand ≡ Holds ticket → Rises old.shelf_failures failures
      → new ≡ after_fault (record old { shelf_failures = failures }) ticket → now ≡ Nothing
      → WorkStep jobs old hand new now
  HasNoJob : ((ticket : Ticket) → hand ≢ Holds ticket) → new ≡ old → now ≡ hand → WorkStep jobs old hand new now

-- Under the current ticket the bytes are written and the job is done; or the bench fails, and the range of the job
-- holds arbitrary bytes; or, with marks, the job is done but its mark is not written. Under a stale ticket the bytes
-- are dropped and counted.
pub data DeliverStep (marks : Bool) (jobs : Jobs) (old : State) (hand : Hand) (new : State) (now : Hand) : Type 0 where
  Delivers : (ticket : Ticket) (bytes : List ℕ) (files : Files) → hand ≡ Made ticket bytes
      → is_current old.board ticket ≡ true → Puts (IsWritten (jobs.at ticket.job) bytes) jobs.name ticket.job old.files files
      → new ≡ record old { board = accepted old.board ticket.job; files = files } → now ≡ Nothing
      → DeliverStep marks jobs old hand new now
  CantWrite : (ticket : Ticket) (bytes : List ℕ) (files : Files) (failures : ℕ) → hand ≡ Made ticket bytes
      → is_current old.board ticket ≡ true
      → Puts (IsTorn (jobs.at ticket.job) (length bytes)) jobs.name ticket.job old.files files
      → Rises old.bench_failures failures
      → new ≡ after_fault (record old { files = files; bench_failures = failures }) ticket → now ≡ Nothing
      → DeliverStep marks jobs old hand new now
  CantMark : (ticket : Ticket) (bytes : List ℕ) (files : Files) (failures : ℕ) → IsTrue marks
      → hand ≡ Made ticket bytes → is_current old.board ticket ≡ true
      → Puts (IsWritten (jobs.at ticket.job) bytes) jobs.name ticket.job old.files files
      → Rises old.bench_failures failures
      → new ≡ record old {
        board = accepted old.board ticket.job;
        files = files;
        bench_failures = failures;
        ended = Some MarkFailed;
      } → now ≡ Nothing
      → DeliverStep marks jobs old hand new now
  IsStale : (ticket : Ticket) (bytes : List ℕ) → hand ≡ Made ticket bytes → is_current old.board ticket ≡ false
      → new ≡ record old { stale = old.stale + 1 } → now ≡ Nothing → DeliverStep marks jobs old hand new now
  HasNoBytes : ((ticket : Ticket) (bytes : List ℕ) → hand ≢ Made ticket bytes) → new ≡ old → now ≡ hand
      → DeliverStep marks jobs old hand new now

-- the worker fails: if its ticket is current, the job is reopened with one more fault
abbrev pub FaultStep : State → Hand → State → Hand → Type 0
FaultStep old Nothing new now = (new ≡ old) × (now ≡ Nothing)
FaultStep old (Holds ticket) new now = (new ≡ after_fault old ticket) × (now ≡ Nothing)
FaultStep old (Made ticket bytes) new now = (new ≡ after_fault old ticket) × (now ≡ Nothing)

-- a dispatched job is reopened, which makes its ticket stale
abbrev pub ReclaimStep : State → ℕ → State → Type 0
ReclaimStep old k new = new ≡ cond (is_out (job_at old.board k).standing) (record old { board = reopened old.board k }) old

-- the hands with one worker's hand replaced
abbrev pub with_hand : (ℕ → Hand) → ℕ → Hand → ℕ → Hand
with_hand hands w hand v = cond (v == w) hand (hands v)

-- a step of one worker changes the shared state and its own hand only
abbrev pub HandStep : (State → Hand → State → Hand → Type 0) → World → ℕ → World → Type 0
HandStep step old w new =
    (hand : Hand) × step old.state (old.hands w) new.state hand × (new.hands ≡ with_hand old.hands w hand)

-- effect of one event
abbrev pub BoardStep : Bool → Jobs → World → BoardEvent → World → Type 0
BoardStep marks jobs old (Give w) new = HandStep GiveStep old w new
BoardStep marks jobs old (Work w) new = HandStep (WorkStep jobs) old w new
BoardStep marks jobs old (Deliver w) new = HandStep (DeliverStep marks jobs) old w new
BoardStep marks jobs old (Fault w) new = HandStep FaultStep old w new
BoardStep marks jobs old (Lose w) new = HandStep (λ old _ new now. (new ≡ old) × (now ≡ Nothing)) old w new
BoardStep marks jobs old (Reclaim k) new = ReclaimStep old.state k new.state × (new.hands ≡ old.hands)

-- effects of events in sequence, until the run ends
abbrev pub BoardRun : Bool → Jobs → World → List BoardEvent → World → Type 0
BoardRun marks jobs old [] new = new ≡ old
BoardRun marks jobs old (event ∷ events) new = MatchBool (is_none old.state.ended)
    ((mid : World) × BoardStep marks jobs old event mid × BoardRun marks jobs mid events new)
    (new ≡ old)

-- n rounds of worker 1
abbrev pub rounds : ℕ → List BoardEvent
rounds zero = []
rounds (suc n) = Give 1 ∷ (Work 1 ∷ (Deliver 1 ∷ rounds n))

-- the bytes of each job that is done are stored at its offset
abbrev pub DonePlaces : Jobs → State → Type 0
DonePlaces jobs state = (k : ℕ) → k < jobs.count → is_done (job_at state.board k).standing ≡ true
    → IsRange (state.files (jobs.name k)) (jobs.at k) (jobs.bytes k)
