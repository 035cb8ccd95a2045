-- What an event makes of the jobs, of the files and of what workers hold.
use Rattle.std.proofs.Common.{◌≡◌, ◌≢◌, ◌∙◌, ℕ, ◌+◌, ◌<◌, ◌≤◌, Bool, true, false, cond, ◌==◌, Option, Some, None, List, length, length-set, get_or-set_same, get_or-set_other, refl, sym, ap, inl, inr, arith}
use Rattle.std.proofs.lemmas.Bool.{and_parts, cases_eq, cases_lt, leb-true}
use Rattle.std.proofs.lemmas.Bool.Decides.{eqb_tells}
use Rattle.std.proofs.lemmas.List.{get_or_past}
use Rattle.work_terms.specs.Disk.{Files, IsTorn, IsWritten}
use Rattle.job_terms.specs.declared.BoardEvent.{BoardEvent}
use Rattle.job_terms.specs.declared.BoardEvent.TheVariants.{Give, Work, Deliver, Fault, Lose, Reclaim}
use Rattle.job_terms.specs.declared.Job.{Job}
use Rattle.job_terms.specs.declared.Standing.{Standing}
use Rattle.job_terms.specs.declared.Standing.TheVariants.{Open, Done}
use Rattle.job_terms.specs.declared.Ticket.{Ticket}
use Rattle.job_terms.specs.Board.{Board, accepted, can_give, faulted, is_current, is_done, is_givable, is_last_fault, is_open, is_out, job_at, no_job, reopened, ticket_of, with_job}
use Rattle.job_terms.specs.Workers as w
use Rattle.job_terms.specs.Workers.{BoardStep, CantMake, CantMark, CantWrite, DeliverStep, Delivers, End, GivenUp, Gives, GiveStep, Hand, HasNoBytes, HasNoJob, Holds, IsStale, Jobs, Made, Makes, NoneLeft, Nothing, Puts, State, World, WorkStep, after_fault, with_hand}
use Rattle.execution.specs.Marking.{done_of}
use Rattle.execution.specs.Together.{with_done}

-- ---- jobs that aren't done

-- what stands behind the last job is done
pub undone-there : (board : Board) (k : ℕ) → done_of board k ≡ false → k < length board.jobs
undone-there board k off = elim (cases_lt k (length board.jobs)) [
  | inl lt ↦ lt
  | inr past ↦ cc (ap (λ (j : Job). is_done j.standing) (get_or_past board.jobs k no_job past))
]

-- of a job that is open, or out
undone : (p : Standing → Bool) → p Done ≡ false → (s : Standing) → p s ≡ true → is_done s ≡ false
undone p off Done e = sym e ∙ off
undone p off _ e = refl

-- a job that can be given isn't done, and is one of the board's
pub open-undone : (job : Job) → is_givable job ≡ true → is_done job.standing ≡ false
open-undone job can = undone is_open refl job.standing (and_parts _ _ can).0

pub givable-undone : (board : Board) (k : ℕ) → can_give board k ≡ true → done_of board k ≡ false
givable-undone board k = open-undone (job_at board k)

pub givable-there : (board : Board) (k : ℕ) → can_give board k ≡ true → k < length board.jobs
givable-there board k can = undone-there board k (givable-undone board k can)

-- nor is one whose ticket is current
pub current-undone : (board : Board) (t : Ticket) → is_current board t ≡ true → done_of board t.job ≡ false
current-undone board t cur = undone is_out refl (job_at board t.job).standing (and_parts _ _ cur).0

-- a job that is put: no other changes
pub put-other : (board : Board) (k : ℕ) (job : Job) (j : ℕ) → j ≢ k → done_of (with_job board k job) j ≡ done_of board j
put-other board k job j ne = ap (λ (x : Job). is_done x.standing) (get_or-set_other board.jobs k j job no_job ne)

-- and it stands there
pub put-here : (board : Board) (k : ℕ) (job : Job) → done_of board k ≡ false
    → done_of (with_job board k job) k ≡ is_done job.standing
put-here board k job off =
    ap (λ (x : Job). is_done x.standing) (get_or-set_same board.jobs k job no_job (undone-there board k off))

-- an accepted job is done, and no other more than before
pub done-accepted : (board new : Board) (t : Ticket) → is_current board t ≡ true → new ≡ accepted board t.job
    → (j : ℕ) → with_done (done_of board) t.job j ≡ done_of new j
done-accepted board new t cur is j =
    let done = record (job_at board t.job) { standing = Done } in rw is (elim (eqb_tells j t.job) [
      | inl e ↦ rw (e.0, e.1) (sym (put-here board t.job done (current-undone board t cur)))
      | inr e ↦ rw e.0 (sym (put-other board t.job done j e.1))
    ])

-- ---- boards with the same jobs done

-- a job is given up with the third fault
abbrev pub HasFailed : Board → Option End → Type 0
HasFailed board ended = (job : ℕ) → ended ≡ Some (GivenUp job) → 3 ≤ (job_at board job).faults

-- as many jobs, the same ones done, the same files; and what ends a run that went on has failed
pub record AreAlike (board : Board) (files : Files) (ended : Option End) (new : Board) (left : Files)
    (end : Option End) : Type 0 where
  pub size : length new.jobs ≡ length board.jobs
  pub done : (j : ℕ) → done_of new j ≡ done_of board j
  pub kept : left ≡ files
  pub failed : ended ≡ None → HasFailed new end

abbrev pub IsAlike : State → State → Type 0
IsAlike old new = AreAlike old.board old.files old.ended new.board new.files new.ended

-- nothing changed
alike-none : {board : Board} {files : Files} {ended : Option End} → AreAlike board files ended board files ended
alike-none = record { size = refl; done = λ j. refl; kept = refl; failed = λ none job e. cc }

-- the same state
alike-is : {old new : State} → new ≡ old → IsAlike old new
alike-is is = rw is alike-none

-- one that isn't done is put for another
alike-put : {files : Files} {ended end : Option End} (board : Board) (k : ℕ) (job : Job) → is_done job.standing ≡ false
    → done_of board k ≡ false → (ended ≡ None → HasFailed (with_job board k job) end)
    → AreAlike board files ended (with_job board k job) files end
alike-put board k job off was failed = record {
  size = length-set board.jobs k job;
  done = λ j. elim (cases_eq j k) [
    | inl e ↦ rw e (put-here board k job was ∙ off ∙ sym was)
    | inr ne ↦ put-other board k job j ne
  ];
  kept = refl;
  failed = failed;
}

-- the fault that gives a job up is its third
third-fault : (board : Board) (t : Ticket) → is_current board t ≡ true → (last : Bool)
    → is_last_fault board t.job ≡ last → HasFailed (faulted board t.job) (cond last (Some (GivenUp t.job)) None)
third-fault board t cur false e job end = cc
third-fault board t cur true e job end =
    let same : t.job ≡ job = cc in
    let failed = record (job_at board t.job) { standing = Open; faults = (job_at board t.job).faults + 1 } in
    let here = get_or-set_same board.jobs t.job failed no_job (undone-there board t.job (current-undone board t cur)) in
    rw (← same, here) (omega (arith, leb-true 2 (job_at board t.job).faults e))

-- a fault under any ticket
alike-fault : (s : State) (t : Ticket) → IsAlike s (after_fault s t)
alike-fault s t = go (is_current s.board t) refl
  where
    go : (b : Bool) → is_current s.board t ≡ b → IsAlike s (cond b (record s {
      board = faulted s.board t.job;
      ended = cond (is_last_fault s.board t.job) (Some (GivenUp t.job)) None;
    }) s)
    go true cur = alike-put s.board t.job _ refl (current-undone s.board t cur)
        (λ none. third-fault s.board t cur (is_last_fault s.board t.job) refl)
    go false cur = alike-none

-- so it is in the state that follows
pub alike-after : (old : State) {new : State} (t : Ticket) → new ≡ after_fault old t → IsAlike old new
alike-after old t is = rw is (alike-fault old t)

-- a job that is taken back
pub alike-reclaimed : (s : State) (k : ℕ) (new : State) → w.ReclaimStep s k new → IsAlike s new
alike-reclaimed s k new is = rw is (go (is_out (job_at s.board k).standing) refl)
  where
    go : (b : Bool) → is_out (job_at s.board k).standing ≡ b
        → IsAlike s (cond b (record s { board = reopened s.board k }) s)
    go true e = alike-put s.board k _ refl (undone is_out refl (job_at s.board k).standing e) (λ none job end. cc)
    go false e = alike-none

-- so the board changes the state where it takes a job back
pub reclaim-step : (s : State) (k : ℕ) (board : Board) → board ≡ cond (is_out (job_at s.board k).standing)
    (reopened s.board k) s.board → w.ReclaimStep s k (record s { board = board })
reclaim-step s k board is = rw is (go (is_out (job_at s.board k).standing))
  where
    go : (b : Bool) → record s { board = cond b (reopened s.board k) s.board }
        ≡ cond b (record s { board = reopened s.board k }) s
    go true = refl
    go false = refl

-- steps of a worker
module _ {old new : State} {hand now : Hand} where
  pub alike-give : GiveStep old hand new now → IsAlike old new
  alike-give (Gives k h can n m) =
      rw n (alike-put old.board k _ refl (givable-undone old.board k can) (λ none job e. cc))
  alike-give (NoneLeft h none n m) = alike-is n
  alike-give (w.Busy h n m) = alike-is n

  pub alike-work : {jobs : Jobs} → WorkStep jobs old hand new now → IsAlike old new
  alike-work (Makes t h n m) = alike-is n
  alike-work (CantMake t failures h r n m) = rw n (alike-fault (record old { shelf_failures = failures }) t)
  alike-work (HasNoJob h n m) = alike-is n

-- what a worker holds fails
pub alike-failed : (old new : State) (hand now : Hand) → w.FaultStep old hand new now → IsAlike old new
alike-failed old new Nothing now s = alike-is s.0
alike-failed old new (Holds t) now s = alike-after old t s.0
alike-failed old new (Made t bytes) now s = alike-after old t s.0

-- ---- what an event makes of a state, by what its worker holds

-- no job more is done; and so it is, but a job's place is torn; or its bytes are written there, and it is done
pub data Change (jobs : Jobs) (old : State) (hand : Hand) (new : State) : Type 0 where
  Alike : IsAlike old new → Change jobs old hand new
  Torn : (t : Ticket) (bytes : List ℕ) (files : Files) → hand ≡ Made t bytes → is_current old.board t ≡ true
      → Puts (IsTorn (jobs.at t.job) (length bytes)) jobs.name t.job old.files files
      → IsAlike (record old { files = files }) new → Change jobs old hand new
  Placed : (t : Ticket) (bytes : List ℕ) → hand ≡ Made t bytes → is_current old.board t ≡ true
      → Puts (IsWritten (jobs.at t.job) bytes) jobs.name t.job old.files new.files
      → new.board ≡ accepted old.board t.job → (old.ended ≡ None → HasFailed new.board new.ended)
      → Change jobs old hand new

-- a delivery
change-deliver : {marks : Bool} {jobs : Jobs} {old new : State} {hand now : Hand}
    → DeliverStep marks jobs old hand new now → Change jobs old hand new
change-deliver (Delivers t bytes files h cur puts n m) = rw n (Placed t bytes h cur puts refl (λ none job e. cc))
change-deliver {old = old} (CantWrite t bytes files failures h cur puts r n m) =
    rw n (Torn t bytes files h cur puts (alike-fault (record old { files = files; bench_failures = failures }) t))
change-deliver (CantMark t bytes files failures on h cur puts r n m) =
    rw n (Placed t bytes h cur puts refl (λ none job e. cc))
change-deliver (IsStale t bytes h cur n m) = rw n (Alike alike-none)
change-deliver (HasNoBytes h n m) = Alike (alike-is n)

-- each event
pub change-of : (marks : Bool) (jobs : Jobs) (old : World) (event : BoardEvent) (new : World)
    → BoardStep marks jobs old event new → (v : ℕ) × Change jobs old.state (old.hands v) new.state
change-of marks jobs old (Give v) new s = (v, Alike (alike-give s.1))
change-of marks jobs old (Work v) new s = (v, Alike (alike-work s.1))
change-of marks jobs old (Deliver v) new s = (v, change-deliver s.1)
change-of marks jobs old (Fault v) new s = (v, Alike (alike-failed old.state new.state (old.hands v) s.0 s.1))
change-of marks jobs old (Lose v) new s = (v, Alike (alike-is s.1.0))
change-of marks jobs old (Reclaim k) new s = (0, Alike (alike-reclaimed old.state k new.state s.0))

-- what is done stays done
pub change-keeps : {jobs : Jobs} {old new : State} {hand : Hand} → Change jobs old hand new → (j : ℕ)
    → done_of old.board j ≡ true → done_of new.board j ≡ true
change-keeps (Alike a) j on = a.done j ∙ on
change-keeps (Torn t bytes files h cur puts a) j on = a.done j ∙ on
change-keeps {old = old} {new = new} (Placed t bytes h cur puts is failed) j on =
    sym (done-accepted old.board new.board t cur is j) ∙ go (j == t.job)
  where
    go : (b : Bool) → cond b true (done_of old.board j) ≡ true
    go true = refl
    go false = on

-- what is given up failed three times
pub change-failed : {jobs : Jobs} {old new : State} {hand : Hand} → Change jobs old hand new → old.ended ≡ None
    → HasFailed new.board new.ended
change-failed (Alike a) none = a.failed none
change-failed (Torn t bytes files h cur puts a) none = a.failed none
change-failed (Placed t bytes h cur puts is failed) none = failed none

-- ---- what holds of each hand still does, if it does of what an event leaves in one

module _ (P : Hand → Type 0) where
  -- this is what one worker has now
  each-hand : (old new : ℕ → Hand) (number : ℕ) (now : Hand) → new ≡ with_hand old number now → P now
      → ((v : ℕ) → P (old v)) → (v : ℕ) → P (new v)
  each-hand old new number now is good all v = rw is (go (v == number))
    where
      go : (b : Bool) → P (cond b now (old v))
      go true = good
      go false = all v

  -- a worker is given a job
  pub hand-given : {old new : State} {hand now : Hand} → ((k : ℕ) → can_give old.board k ≡ true
      → P (Holds (ticket_of old.board k))) → GiveStep old hand new now → P hand → P now
  hand-given given (Gives k h can n m) good = rw m (given k can)
  hand-given given (NoneLeft h none n m) good = rw m good
  hand-given given (w.Busy h n m) good = rw m good

module _ (P : Hand → Type 0) (none : P Nothing) (marks : Bool) (jobs : Jobs)
    (made : (t : Ticket) → P (Holds t) → P (Made t (jobs.bytes t.job))) where
  -- it makes the bytes
  hand-worked : {old new : State} {hand now : Hand} → WorkStep jobs old hand new now → P hand → P now
  hand-worked (Makes t h n m) good = rw m (made t (rw h at good))
  hand-worked (CantMake t failures h r n m) good = rw m none
  hand-worked (HasNoJob h n m) good = rw m good

  -- it delivers them
  hand-delivered : {old new : State} {hand now : Hand} → DeliverStep marks jobs old hand new now → P hand → P now
  hand-delivered (HasNoBytes h n m) good = rw m good
  hand-delivered (Delivers t bytes files h cur puts n m) good = rw m none
  hand-delivered (CantWrite t bytes files failures h cur puts r n m) good = rw m none
  hand-delivered (CantMark t bytes files failures on h cur puts r n m) good = rw m none
  hand-delivered (IsStale t bytes h cur n m) good = rw m none

  -- what it holds fails
  hand-failed : (old new : State) (hand now : Hand) → w.FaultStep old hand new now → P now
  hand-failed old new Nothing now s = rw s.1 none
  hand-failed old new _ now s = rw s.1 none

  -- and so along each event
  pub hands-hold : (old : World) (event : BoardEvent) (new : World)
      → ((k : ℕ) → can_give old.state.board k ≡ true → P (Holds (ticket_of old.state.board k)))
      → BoardStep marks jobs old event new → ((v : ℕ) → P (old.hands v)) → (v : ℕ) → P (new.hands v)
  hands-hold old (Give n) new given s all =
      each-hand P old.hands new.hands n s.0 s.2 (hand-given P given s.1 (all n)) all
  hands-hold old (Work n) new given s all =
      each-hand P old.hands new.hands n s.0 s.2 (hand-worked s.1 (all n)) all
  hands-hold old (Deliver n) new given s all =
      each-hand P old.hands new.hands n s.0 s.2 (hand-delivered s.1 (all n)) all
  hands-hold old (Fault n) new given s all =
      each-hand P old.hands new.hands n s.0 s.2 (hand-failed old.state new.state (old.hands n) s.0 s.1) all
  hands-hold old (Lose n) new given s all = each-hand P old.hands new.hands n s.0 s.2 (rw s.1.1 none) all
  hands-hold old (Reclaim k) new given s all = rw s.1 all
