-- One run after another.
use Rattle.std.proofs.Common.{ℕ, List, [], ◌∷◌, ◌++◌, refl, ap, ◌≡◌, ◌∙◌, ◌<◌, ◌≤◌, Bool, IsTrue, Option, Some, None, Err, cond, length, take, get_or, ◌+◌, subst, arith, eq-eqb}
use mathlib.Core.Path.{fun_ext, subst₂}
use Rattle.job_terms.specs.declared.BoardEvent.{BoardEvent}
use Rattle.job_terms.specs.Board.{Board, is_out, job_at, reopened}
use Rattle.job_terms.specs.Workers.{Busy, GiveStep, Gives, Hand, Holds, Made, NoneLeft, Nothing, State, BoardStep, End, HandStep, Jobs, MarkFailed, World}
use Rattle.execution.specs.EventRun.{event_of, ActionStep, EventRun, IsConfined, MarkFails, Performed, Snapshot, WorkerStep, jobs_of, marking_of, snapshot_of, state_at}
use Rattle.execution.specs.Turns.{ActionTurn, FindsNone, Gets, GiveTurn, Turns}
use Rattle.execution.specs.declared.action.Action.{Action}
use Rattle.execution.specs.declared.action.Action.TheVariants.{Lose}
use Rattle.std.proofs.lemmas.List.{append-nil, take_more}
use Rattle.std.specs.Prelude.{IsErrOf}
use Rattle.work_terms.specs.Disk.{Files}
use Rattle.devices.specs.ViewLaws.{reads_none, reads_then, writes_none, writes_then}
use Rattle.devices.specs.Views.{OutputView, Reads, SourceView}
use Rattle.job_terms.specs.declared.BoardEvent.TheVariants as event
use Rattle.execution.specs.declared.fault.JobFault.{JobFault}
use Rattle.execution.specs.declared.fault.JobFault.TheVariants as job_fault
use Rattle.execution.specs.declared.fault.ExecutionFault.{ExecutionFault}
use Rattle.execution.specs.declared.fault.ExecutionFault.TheVariants as fault
use Rattle.execution.specs.Ends.{NeedsPlace, NeedsRoom, StopsBefore, end_of, ended_of, events_of, fault_of}
use Rattle.execution.specs.Marking.{done_of}
use Rattle.execution.specs.Plan.{JobPlan, Stays}
use Rattle.execution.proofs.Changes.{alike-reclaimed, reclaim-step}
use Rattle.execution.proofs.Firsts.{rises-after}
use Rattle.execution.proofs.MarkSteps.{IsUpToDate, marks-quiet, moments-then}
use Rattle.execution.proofs.Runs.{TurnsHand, hand-step, leads-at, leads-of, leads-one, run-append, world_of}
use Rattle.execution.proofs.Sound.{leads-keeps, leads-right}

-- ---- turns

-- a worker that is given a job
pub given-turn : {s n : State} (hand : Hand) {now : Hand} → GiveStep s hand n now → GiveTurn s.board hand n.board now
given-turn Nothing (Gives k h can is m) = Gets k can (ap (λ (x : State). x.board) is) m
given-turn Nothing (NoneLeft h none is m) = FindsNone none (ap (λ (x : State). x.board) is) m
given-turn Nothing (Busy busy is m) = absurd (busy refl)
given-turn (Holds t) step = tt
given-turn (Made t bytes) step = tt

-- one turn
pub turns-one : (action : Action) (number : ℕ) (board new : Board) (had has : ℕ → Hand)
    → ActionTurn action board (had number) new (has number) → Turns (event_of action number ∷ []) board had new has
turns-one Lose number board new had has turn = (new, has, tt, (refl, λ w. refl))
turns-one _ number board new had has turn = (new, has, turn, (refl, λ w. refl))

-- turns, and then others
pub turns-then : (events more : List BoardEvent) (a b c : Board) (ha hb hc : ℕ → Hand) → Turns events a ha b hb
    → Turns more b hb c hc → Turns (events ++ more) a ha c hc
turns-then [] more a b c ha hb hc first rest =
    subst₂ (λ x h. Turns more x h c hc) first.0 (fun_ext first.1) rest
turns-then (e ∷ events) more a b c ha hb hc first rest =
    (first.0, first.1, first.2, turns-then events more first.0 b c first.1 hb hc first.3 rest)

-- ---- snapshots

-- a failure at the marks, from an earlier moment on
pub mark-since : (plan : JobPlan) (a b c : OutputView) → a.failures ≤ b.failures → MarkFails plan b c
    → MarkFails plan a c
mark-since plan a b c later m =
    record { has_marks = m.has_marks; rose = rises-after _ _ _ later m.rose; failed = m.failed }

-- nothing was written
confined-quiet : (a : Snapshot) (p : JobPlan) (board : Board) (stale : ℕ) (s : SourceView) (e : Option End)
    → p ≡ a.plan → length board.jobs ≡ length a.board.jobs → Reads a.source s → (e ≡ Some MarkFailed → ⊥)
    → IsConfined a (snapshot_of p board stale s a.output) e
confined-quiet a p board stale s e plan size reads no_mark = record {
  plan = plan;
  size = size;
  source = reads;
  output = writes_none (Stays a.plan) a.output;
  mark = λ is. absurd (no_mark is);
}

-- no event
pub run-none : {a : Snapshot} {had has : ℕ → Hand} → IsUpToDate a.output → ((v : ℕ) → has v ≡ had v)
    → EventRun a had [] a has None
run-none {a = a} only same = record {
  kept = confined-quiet a a.plan a.board a.stale a.source None refl refl (reads_none a.source) (λ e. cc);
  turned = λ none. (refl, same);
  run = λ honest whole. leads-of (ap (world_of (state_at a None)) (fun_ext same));
  marks = λ honest whole right run. marks-quiet only (λ e. cc) (λ k. refl) run;
}

-- events, and then others: by the plan and the files of the first snapshot
pub run-then : {a b c : Snapshot} {ha hb hc : ℕ → Hand} {es fs : List BoardEvent} {e : Option End}
    → EventRun a ha es b hb None → EventRun b hb fs c hc e → EventRun a ha (es ++ fs) c hc e
run-then {a = a} {b = b} {c = c} {ha = ha} {hb = hb} {hc = hc} {es = es} {fs = fs} {e = e} g h = record {
  kept = record {
    plan = planned.kept.plan;
    size = planned.kept.size ∙ g.kept.size;
    source = reads_then {mid = b.source} g.kept.source planned.kept.source;
    output = writes_then {mid = b.output} g.kept.output planned.kept.output;
    mark = λ is. mark-since a.plan a.output b.output c.output g.kept.output.later (planned.kept.mark is);
  };
  turned = λ none. turns-then es fs a.board b.board c.board ha hb hc (g.turned refl) (h.turned none);
  run = λ honest whole. leads-of (run-append a.plan.marks (jobs_of a) es fs _ _ _ (leads-at (g.run honest whole))
      refl (leads-at (next.run (there honest) (out whole))));
  marks = λ honest whole right run.
      let one = g.marks honest whole right run in
      let held = leads-right a.plan.marks (jobs_of a) es (g.run honest whole) right in
      let two = next.marks (there honest) (out whole) held one.now in record {
        now = two.now;
        moments = moments-then (marking_of a) (done_of a.board) (done_of b.board) (done_of c.board) a.output b.output
            c.output (leads-keeps a.plan.marks (jobs_of a) es (g.run honest whole))
            (leads-keeps a.plan.marks (jobs_of a) fs (next.run (there honest) (out whole))) one.moments two.moments;
      };
}
  where
    there : IsTrue a.source.honest → IsTrue b.source.honest
    there honest = rw g.kept.source.same_honest honest

    out : IsTrue a.output.honest → IsTrue b.output.honest
    out whole = rw g.kept.output.same_honest whole

    planned : EventRun (record b { plan = a.plan }) hb fs c hc e
    planned = subst (λ (p : JobPlan). EventRun (record b { plan = p }) hb fs c hc e) g.kept.plan h

    next : EventRun (record b { plan = a.plan; source = record b.source { files = a.source.files } }) hb fs c hc e
    next = subst (λ (f : Files). EventRun (record b { plan = a.plan; source = record b.source { files = f } }) hb fs c
        hc e) g.kept.source.same planned

-- ---- one worker's step is one event

-- an action is the event of its name
acts : (action : Action) (marks : Bool) (jobs : Jobs) (number : ℕ) (old new : World)
    → HandStep (ActionStep marks jobs action) old number new → BoardStep marks jobs old (event_of action number) new
acts Lose marks jobs number old new step = step
acts _ marks jobs number old new step = step

-- whose events are a run of one
pub run-step : {a b : Snapshot} {had has : ℕ → Hand} {hand now : Hand} {e : Option End} (action : Action) (number : ℕ)
    → TurnsHand had number hand now has
    → WorkerStep (ActionStep a.plan.marks (jobs_of a) action) (ActionTurn action) a hand b now e
    → EventRun a had (event_of action number ∷ []) b has e
run-step {a = a} {b = b} {had = had} {has = has} {e = e} action number turned h = record {
  kept = h.kept;
  turned = λ none. turns-one action number a.board b.board had has
      (rw (← turned.was, turned.after number, eq-eqb number number refl) (h.turned none));
  run = λ honest whole. leads-one a.plan.marks (jobs_of a) (event_of action number) refl (acts action _ _ number _ _
      (hand-step (ActionStep a.plan.marks (jobs_of a) action) (state_at a None) (state_at b e) turned
      (h.taken honest whole)));
  marks = λ honest whole right run. h.marks honest whole (rw turned.was (right number)) run;
}

-- a step that writes nothing
pub step-quiet : {by : State → Hand → State → Hand → Type 0} {turn : Board → Hand → Board → Hand → Type 0}
    {a : Snapshot} {p : JobPlan} {board : Board} {stale : ℕ} {s : SourceView} {hand now : Hand} {e : Option End}
    → p ≡ a.plan → length board.jobs ≡ length a.board.jobs → Reads a.source s → IsUpToDate a.output
    → (e ≡ Some MarkFailed → ⊥)
    → (IsTrue a.source.honest → by (state_at a None) hand (state_at (snapshot_of p board stale s a.output) e) now)
    → (by (state_at a None) hand (state_at (snapshot_of p board stale s a.output) e) now
    → (k : ℕ) → done_of board k ≡ done_of a.board k)
    → (e ≡ None → turn a.board hand board now)
    → WorkerStep by turn a hand (snapshot_of p board stale s a.output) now e
step-quiet {a = a} {p = p} {board = board} {stale = stale} {s = s} {e = e} plan size reads only no_mark step done turned
    = record {
      turned = turned;
      kept = confined-quiet a p board stale s e plan size reads no_mark;
      taken = λ honest whole. step honest;
      marks = λ honest whole right run. marks-quiet only no_mark (done (step honest)) run;
    }

-- how a step of one worker ends is how the run of events does
pub run-outcome : (f : JobFault) {a b : Snapshot} {had has : ℕ → Hand} {event : BoardEvent}
    → EventRun a had (event ∷ []) b has (ended_of {X = Unit {0}} (Err f))
    → EventRun a had (events_of {X = Unit {0}} (Err (fault_of f)) event) b has
    (end_of {X = Unit {0}} (Err (fault_of f)))
run-outcome (job_fault.GivenUp k) r = r
run-outcome job_fault.Mark r = r

-- a job is open again
pub run-reclaim : {a : Snapshot} {board : Board} {had : ℕ → Hand} (k : ℕ) → IsUpToDate a.output
    → board ≡ cond (is_out (job_at a.board k).standing) (reopened a.board k) a.board
    → EventRun a had (event.Reclaim k ∷ []) (record a { board = board }) had None
run-reclaim {a = a} {board = board} {had = had} k only is =
    let step = reclaim-step (state_at a None) k board is in
    let alike = alike-reclaimed (state_at a None) k (state_at (record a { board = board }) None) step in record {
      turned = λ none. (board, had, tt, (refl, λ w. refl));
      kept = confined-quiet a a.plan board a.stale a.source None refl alike.size (reads_none a.source) (λ e. cc);
      run = λ honest whole. leads-one a.plan.marks (jobs_of a) (event.Reclaim k) refl (step, refl);
      marks = λ honest whole right run. marks-quiet only (λ e. cc) alike.done run;
    }

-- ---- a list of events, of which this one comes next

module _ (events : List BoardEvent) (i : ℕ) (this : BoardEvent) (lt : i < length events)
    (is : this ≡ get_or events i (event.Lose 0)) {a b : Snapshot} {ha hb : ℕ → Hand}
    (ran : EventRun a ha (take i events) b hb None) where
  -- it is done
  pub run-next : {c : Snapshot} {hc : ℕ → Hand} {e : Option End} → EventRun b hb (this ∷ []) c hc e
      → EventRun a ha (take (i + 1) events) c hc e
  run-next next = rw (take_more events i (event.Lose 0) lt, ← is) (run-then ran next)

  -- where this fault ended the events, so many of them were done
  ended-by : {in_rounds : Bool} (stale : ℕ) (f : ExecutionFault) {c : ℕ → Snapshot} {hc : ℕ → Hand} (count : ℕ)
      → count ≤ length events → EventRun a ha (take count events) (c stale) hc (end_of {X = Unit {0}} (Err f))
      → StopsBefore events count f → Performed in_rounds events a ha c hc (Err f)
  ended-by stale f count few ended stops =
      record { count = count; few = few; stale = stale; ran = ended; stops = stops }

  -- it ended the run, or wasn't done since no memory was left
  pub performed-ended : {in_rounds : Bool} (stale : ℕ) (f : ExecutionFault) {c : ℕ → Snapshot} {hc : ℕ → Hand}
      → EventRun b hb (events_of {X = Unit {0}} (Err f) this) (c stale) hc (end_of {X = Unit {0}} (Err f))
      → (IsErrOf {T = Unit {0}} (Err f) fault.Memory → NeedsPlace this)
      → (IsErrOf {T = Unit {0}} (Err f) fault.JobMemory → NeedsRoom this)
      → ((file : ℕ) → IsErrOf {T = Unit {0}} (Err f) (fault.Output file) → ⊥)
      → Performed in_rounds events a ha c hc (Err f)
  performed-ended stale fault.Memory r place room none = ended-by stale fault.Memory i (omega (arith, lt))
      (rw append-nil at (run-then ran r)) (lt, rw is at (place refl))
  performed-ended stale fault.JobMemory r place room none = ended-by stale fault.JobMemory i (omega (arith, lt))
      (rw append-nil at (run-then ran r)) (lt, rw is at (room refl))
  performed-ended stale (fault.GivenUp job) r place room none =
      ended-by stale (fault.GivenUp job) (i + 1) (omega (arith, lt)) (run-next r) tt
  performed-ended stale fault.Mark r place room none =
      ended-by stale fault.Mark (i + 1) (omega (arith, lt)) (run-next r) tt
  performed-ended stale (fault.Output file) r place room none = absurd (none file refl)
