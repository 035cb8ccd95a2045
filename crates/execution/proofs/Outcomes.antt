-- A work that is laid out, done and finished.
use Rattle.std.proofs.Common.{◌≡◌, ◌∙◌, ℕ, ◌<◌, ◌≤◌, Bool, true, false, IsTrue, Option, Some, None, Result, Ok, Err, List, length, take, refl, sym, ap, subst, inl, inr, arith}
use Rattle.work_terms.specs.Disk.{Files}
use Rattle.devices.specs.Views.{CrashesLeave, OutputView, SourceView, Writes}
use Rattle.devices.specs.ViewLaws.{crashes_then, crashes_weaker, reads_none, writes_then, writes_wider}
use Rattle.job_terms.specs.declared.BoardEvent.{BoardEvent}
use Rattle.job_terms.specs.declared.Progress.{Progress}
use Rattle.job_terms.specs.Board.{Board, is_finished}
use Rattle.job_terms.specs.Workers.{End, Hand, Jobs, MarkFailed, jobs_over}
use Rattle.execution.specs.BoardLaws.{finished_done}
use Rattle.execution.specs.Ends.{end_of}
use Rattle.execution.specs.EventRun.{MarkFails, Performed, Snapshot, snapshot_of, state_at}
use Rattle.execution.specs.Filled.{AreApart, AreFilled, IsGood}
use Rattle.execution.specs.Marking.{LaysBy, LeavesBy, Marking, MarksOn, done_of, settled}
use Rattle.execution.specs.Maker.{Finishes, LaysOut}
use Rattle.execution.specs.Outcome.{EventsDone, Executed, Finished, HasFailed, HasFinished, IsMarked, IsResting, NotFinished, NotLaidOut, Outcome, OutputFails, Resumed, SetsBy, Stopped, StopsWith}
use Rattle.execution.specs.Plan.{AreBlank, IsForeign, JobPlan, SourcesFit, Stays}
use Rattle.execution.specs.declared.fault.ExecutionFault.{ExecutionFault}
use Rattle.execution.specs.declared.fault.ExecutionFault.TheVariants as fault
use Rattle.execution.specs.declared.fault.OutputFault.{OutputFault}
use Rattle.execution.proofs.EventRuns.{mark-since}
use Rattle.execution.proofs.Fills.{filled-whole}
use Rattle.execution.proofs.Firsts.{rises-after}
use Rattle.execution.proofs.LastRounds.{AreTurns, all-events}
use Rattle.execution.proofs.MarkSteps.{leaves-wider, moments-then}
use Rattle.execution.proofs.Sound.{laws-kept, leads-good, leads-keeps}

-- what stays of the work is foreign to it
foreign : (p : JobPlan) {old new : OutputView} → Writes (Stays p) old new → Writes (IsForeign p) old new
foreign p writes = writes_wider (Stays p) (IsForeign p) (λ n f. f.stays) writes

-- a failure since a later moment is one since an earlier one
fails-since : (p : JobPlan) (o o1 o2 : OutputView) (file : ℕ) → o.failures ≤ o1.failures → OutputFails p file o1 o2
    → OutputFails p file o o2
fails-since p o o1 o2 file later h =
    record { rose = rises-after _ _ _ later h.rose; failed = h.failed }

-- ---- events on outputs as they are

module _ {in_rounds : Bool} {events : List BoardEvent} {p p2 : JobPlan} {board board2 : Board} {s s2 : SourceView}
    {o o2 : OutputView} {had has : ℕ → Hand} {result : Result Progress ExecutionFault}
    (h : Performed in_rounds events (snapshot_of p board 0 s o) had
    (λ stale. snapshot_of p2 board2 stale s2 o2) has result) (size : length board.jobs ≡ p.jobs.count) where
  -- what the events did
  events-done : IsTrue s.honest → IsTrue o.honest → SourcesFit p s.files → AreApart (jobs_over p.jobs s.files)
      → IsResting (snapshot_of p board 0 s o) had
      → EventsDone (λ laid. laid ≡ o.files) events (snapshot_of p board 0 s o) had board2 o2.files s2.failures
      o2.failures h.stale h.count (end_of result)
  events-done honest whole fit separate resting =
      let jobs = jobs_over p.jobs s.files in
      let lead = h.ran.run honest whole in
      let good : IsGood jobs (p.whole s.files) (state_at (snapshot_of p board 0 s o) None) =
      record { board = size; filled = resting.filled } in
      let after = leads-good p.marks jobs (take h.count events) lead (p.whole s.files) fit.parts resting.marked.idle
      good in record {
        laid = o.files;
        begins = refl;
        few = h.few;
        hands = has;
        run = lead;
        filled = after.filled;
        complete = λ finished k lt. filled-whole jobs (jobs.name k) (p.whole s.files (jobs.name k)) (done_of board2)
            (o2.files (jobs.name k))
            (λ j below. finished_done board2 finished j (omega (arith, below, size, h.ran.kept.size)))
            (after.filled.each k lt);
        laws = laws-kept jobs (p.whole s.files) fit.parts separate p.marks events (take h.count events) lead
            resting.marked.idle refl good;
      }

  -- what the marks are after the events, and were at each moment of them
  events-marked : IsTrue s.honest → IsTrue o.honest → IsMarked (snapshot_of p board 0 s o) had
      → MarksOn (p.marking s.files) (done_of board) o (done_of board2) o2 (end_of result)
  events-marked honest whole marked = h.ran.marks honest whole (λ w. rw (marked.idle w) tt) marked.running

  -- which file failed
  has-failed : (r : Result Progress ExecutionFault) → StopsWith events h.count board2 h.stale r
      → (end_of r ≡ Some MarkFailed → MarkFails p o o2) → HasFailed p o o2 r
  has-failed (Err fault.Mark) stops mark = mark refl
  has-failed (Err (fault.Output file)) stops mark = absurd stops
  has-failed _ stops mark = tt

  -- jobs are left, or the call ended early
  unfinished : (r : Result Progress ExecutionFault) → StopsWith events h.count board2 h.stale r → HasFinished r → ⊥
  unfinished (Ok progress) stops finished = cc (ap (λ (x : Progress). x.finished) stops.0, stops.1)
  unfinished (Err e) stops finished = finished

  -- the events ended, or jobs are left
  pub stopped : StopsWith events h.count board2 h.stale result
      → Resumed events (snapshot_of p board 0 s o) had (snapshot_of p2 board2 0 s2 o2) result
  stopped stops = record {
    bounded = record {
      plan = h.ran.kept.plan;
      size = h.ran.kept.size;
      source = h.ran.kept.source;
      output = foreign p h.ran.kept.output;
      failed = has-failed result stops h.ran.kept.mark;
      order = λ honest i last stays before. h.ran.kept.output.others honest (p.output i) stays;
      durable = λ honest finished. absurd (unfinished result stops finished);
    };
    outcome = λ honest whole fit separate resting. Stopped h.stale h.count
        (events-done honest whole fit separate resting) stops h.ran.kept.output
        (events-marked honest whole resting.marked).now;
    moments = λ honest whole marked. (events-marked honest whole marked).moments;
  }

-- ---- all events, or what comes last

module _ {in_rounds : Bool} {events : List BoardEvent} {p p2 : JobPlan} {board board2 : Board} {s s2 : SourceView}
    {o o2 : OutputView} {had has : ℕ → Hand} {progress : Progress}
    (h : Performed in_rounds events (snapshot_of p board 0 s o) had (λ stale. snapshot_of p2 board2 stale s2 o2) has
    (Ok progress)) (size : length board.jobs ≡ p.jobs.count) (turns : in_rounds ≡ true → AreTurns events) where
  -- whether all jobs are done is what is reported
  reported : is_finished board2 ≡ progress.finished
  reported = ap (λ (x : Progress). x.finished) (sym h.stops.0)

  -- all jobs are done, and so are all events: rounds after the last job change nothing
  whole-done : progress.finished ≡ true → IsTrue s.honest → IsTrue o.honest → SourcesFit p s.files
      → AreApart (jobs_over p.jobs s.files) → IsResting (snapshot_of p board 0 s o) had
      → EventsDone (λ laid. laid ≡ o.files) events (snapshot_of p board 0 s o) had board2 o2.files s2.failures
      o2.failures h.stale (length events) None
  whole-done finished honest whole fit separate resting =
      all-events (events-done h size honest whole fit separate resting) (reported ∙ finished) (resting.marked.idle 1)
      (elim h.stops.1 [
        | inl all ↦ inl all
        | inr done ↦ inr (turns done.0)
      ])

  -- jobs are left
  pub stopped-early : progress.finished ≡ false
      → Resumed events (snapshot_of p board 0 s o) had (snapshot_of p2 board2 0 s2 o2) (Ok progress)
  stopped-early left = stopped h size (
    h.stops.0,
    reported ∙ left,
    elim h.stops.1 [
      | inl all ↦ all
      | inr done ↦ cc (reported ∙ left, done.1)
    ],
  )

  on : IsTrue o.honest → IsTrue o2.honest
  on whole = rw h.ran.kept.output.same_honest whole

  -- what a crash leaves at the moments of both
  moments-on : (o3 : OutputView) (r : Result (Unit {0}) OutputFault) → Finishes p o2 o3 r → IsTrue s.honest
      → IsTrue o.honest → IsMarked (snapshot_of p board 0 s o) had
      → CrashesLeave (LeavesBy (p.marking s.files) (done_of board) (done_of board2)) o o3
  moments-on o3 r fin honest whole before =
      let marked = events-marked h size honest whole before in
      moments-then (p.marking s.files) (done_of board) (done_of board2) (done_of board2) o o2 o3
      (leads-keeps p.marks (jobs_over p.jobs s.files) (take h.count events) (h.ran.run honest whole))
      (λ k is. is) marked.moments (fin.any_moment (on whole) s.files (done_of board2) marked.now)

  -- all is done
  pub finished-all : {p3 : JobPlan} {o3 : OutputView} → progress.finished ≡ true → p3 ≡ p2 → Finishes p2 o2 o3 (Ok tt)
      → Writes (IsForeign p2) o2 o3 → o3.failures ≡ o2.failures
      → Resumed events (snapshot_of p board 0 s o) had (snapshot_of p3 board2 0 s2 o3) (Ok progress)
  finished-all {o3 = o3} finished same fin2 writes quiet =
      let fin = rw h.ran.kept.plan at fin2 in record {
        bounded = record {
          plan = same ∙ h.ran.kept.plan;
          size = h.ran.kept.size;
          source = h.ran.kept.source;
          output = writes_then {mid = o2} (foreign p h.ran.kept.output) (rw h.ran.kept.plan at writes);
          failed = tt;
          order = λ honest i last stays before. cc (before, finished);
          durable = λ whole _. record { outputs = fin.durable (on whole); marks = fin.marks_durable (on whole) };
        };
        outcome = λ honest whole fit separate resting.
            let did = whole-done finished honest whole fit separate resting in
            Finished h.stale o2.files (rw quiet did) (reported ∙ finished)
            (ap {B = Result Progress ExecutionFault} (λ (x : Progress). Ok x) h.stops.0) (fin.stays (on whole))
            (fin.last (on whole) s.files (did.complete (reported ∙ finished))) (fin.durable (on whole))
            (fin.marks (on whole) s.files (done_of board2) (events-marked h size honest whole resting.marked).now);
        moments = λ honest whole marked. moments-on o3 (Ok tt) fin honest whole marked;
      }

  -- all jobs are done, and an output failed
  pub finish-failed : {p3 : JobPlan} {o3 : OutputView} → progress.finished ≡ true → p3 ≡ p2 → (f : OutputFault)
      → Finishes p2 o2 o3 (Err f) → Writes (IsForeign p2) o2 o3 → OutputFails p2 f.file o2 o3
      → Resumed events (snapshot_of p board 0 s o) had (snapshot_of p3 board2 0 s2 o3) (Err (fault.Output f.file))
  finish-failed {o3 = o3} finished same f fin2 writes failed2 =
      let fin = rw h.ran.kept.plan at fin2 in
      let failed = rw h.ran.kept.plan at failed2 in record {
        bounded = record {
          plan = same ∙ h.ran.kept.plan;
          size = h.ran.kept.size;
          source = h.ran.kept.source;
          output = writes_then {mid = o2} (foreign p h.ran.kept.output) (rw h.ran.kept.plan at writes);
          failed = fails-since p o o2 o3 f.file h.ran.kept.output.later failed;
          order = λ whole i last stays before. fin.in_order (on whole) i last before
              ∙ h.ran.kept.output.others whole (p.output i) stays;
          durable = λ whole ended. absurd ended;
        };
        outcome = λ honest whole fit separate resting. NotFinished f.file h.stale o2.failures o2.files
            (whole-done finished honest whole fit separate resting) (reported ∙ finished) refl (fin.stays (on whole))
            (fin.before (on whole) s.files ((whole-done finished honest whole fit separate resting).complete
            (reported ∙ finished))) failed.rose (fails-since p o o2 o3 f.file h.ran.kept.output.later failed)
            (fin.marks (on whole) s.files (done_of board2) (events-marked h size honest whole resting.marked).now);
        moments = λ honest whole marked. moments-on o3 (Err f) fin honest whole marked;
      }

-- ---- outputs that are laid out first

-- what is laid out is filled by no job
blank-filled : (jobs : Jobs) (whole : List ℕ → List ℕ) (done : ℕ → Bool) (files : Files)
    → ((k : ℕ) → k < jobs.count → done k ≡ false) → AreBlank jobs whole files → AreFilled jobs whole done files
blank-filled jobs whole done files none blank = record {
  each = λ j lt. let b = blank.each j lt in record {
    bytes = b.bytes;
    there = b.there;
    size = b.size;
    same = λ i fixed. b.outside i (λ k below named from to. cc (none k below, fixed k below named from to));
  };
}

-- marks between two moments, and while files are laid out, are set only for what is done later
leaves-sets : (m : Option Marking) (before after : ℕ → Bool) (c : Files) → LeavesBy m before after c → SetsBy m after c
leaves-sets None before after c l = tt
leaves-sets (Some m) before after c l = λ started. leaves-wider m (settled m before) (settled m after) (λ _. false)
    (settled m after) c (λ k e. cc) (λ k on. on) l

lays-sets : (m : Option Marking) (after : ℕ → Bool) (c : Files) → LaysBy m c → SetsBy m after c
lays-sets None after c h = tt
lays-sets (Some m) after c h = λ started. leaves-wider m (λ _. false) (λ _. false) (λ _. false) (settled m after) c
    (λ k on. on) (λ k e. cc) (h started)

-- no output was laid out
pub not-laid : {p p1 : JobPlan} {board : Board} {s : SourceView} {o o1 : OutputView} {had : ℕ → Hand}
    {events : List BoardEvent} {untouched : Type 0} → p1 ≡ p → (f : OutputFault) → LaysOut p o o1 (Err f)
    → Writes (Stays p) o o1 → OutputFails p f.file o o1 → untouched
    → Executed events (snapshot_of p board 0 s o) had (snapshot_of p1 board 0 s o1) untouched
    (Err (fault.Output f.file))
not-laid {p = p} {board = board} {s = s} same f lay writes failed un = record {
  bounded = record {
    plan = same;
    size = refl;
    source = reads_none s;
    output = foreign p writes;
    failed = failed;
    order = λ whole i last stays before. writes.others whole (p.output i) stays;
    durable = λ whole ended. absurd ended;
  };
  outcome = λ honest whole fit separate fresh. NotLaidOut f.file un refl refl refl writes (lay.left whole s.files)
      (record {
        at = failed;
        early = lay.early;
        before = lay.before whole s.files fit;
        after = λ still. lay.after whole;
        blank = lay.blank whole s.files fit;
      });
  moments = λ honest whole fresh. crashes_weaker _ _ (lays-sets (p.marking s.files) (done_of board))
      (lay.any_moment whole s.files fresh.unstarted);
}

-- the events that follow what was laid out began before it
module _ {events : List BoardEvent} {p : JobPlan} {board : Board} {s : SourceView} {o o1 : OutputView} {had : ℕ → Hand}
    (blank : AreBlank (jobs_over p.jobs s.files) (p.whole s.files) o1.files) (quiet : o1.failures ≡ o.failures) where
  since : {board2 : Board} {files : Files} {a b stale count : ℕ} {e : Option End}
      → EventsDone (λ laid. laid ≡ o1.files) events (snapshot_of p board 0 s o1) had board2 files a b stale count e
      → EventsDone (AreBlank (jobs_over p.jobs s.files) (p.whole s.files)) events (snapshot_of p board 0 s o) had board2
      files a b stale count e
  since {board2 = board2} {files = files} {a = a} {b = b} {stale = stale} {count = count} {e = e} d =
      subst (λ (n : ℕ). EventsDone (AreBlank (jobs_over p.jobs s.files) (p.whole s.files)) events
      (snapshot_of p board 0 s (record o { failures = n })) had board2 files a b stale count e) quiet (record {
        laid = d.laid;
        begins = rw d.begins blank;
        few = d.few;
        hands = d.hands;
        run = d.run;
        filled = d.filled;
        complete = d.complete;
        laws = d.laws;
      })

  -- and so the whole outcome
  outcome-since : {c : Snapshot} {untouched : Type 0} {result : Result Progress ExecutionFault} → Writes (Stays p) o o1
      → Outcome (λ laid. laid ≡ o1.files) events (snapshot_of p board 0 s o1) had c ⊥ result
      → Outcome (AreBlank (jobs_over p.jobs s.files) (p.whole s.files)) events (snapshot_of p board 0 s o) had c
      untouched result
  outcome-since lay (NotLaidOut file un is same quiet writes laid layout) = absurd un
  outcome-since lay (Stopped stale count did stops writes runs) =
      Stopped stale count (since did) stops (writes_then {mid = o1} lay writes) runs
  outcome-since lay (NotFinished file stale failures files did all is own before rose at runs) =
      NotFinished file stale failures files (since did) all is own before rose (fails-since p o o1 _ file lay.later at)
      runs
  outcome-since lay (Finished stale files did all is own last durable runs) =
      Finished stale files (since did) all is own last durable runs

-- a failure since then is one since before
has-failed-since : (p : JobPlan) (o o1 o2 : OutputView) (result : Result Progress ExecutionFault)
    → Writes (Stays p) o o1 → HasFailed p o1 o2 result → HasFailed p o o2 result
has-failed-since p o o1 o2 (Err fault.Mark) lay h = mark-since p o o1 o2 lay.later h
has-failed-since p o o1 o2 (Err (fault.Output file)) lay h =
    fails-since p o o1 o2 file lay.later h
has-failed-since p o o1 o2 _ lay h = tt

-- laid out, and then done
pub laid-then : {events : List BoardEvent} {p : JobPlan} {board : Board} {c : Snapshot} {s : SourceView}
    {o o1 : OutputView} {had : ℕ → Hand} {untouched : Type 0} {result : Result Progress ExecutionFault}
    → LaysOut p o o1 (Ok tt) → Writes (Stays p) o o1 → o1.failures ≡ o.failures → length board.jobs ≡ p.jobs.count
    → Resumed events (snapshot_of p board 0 s o1) had c result
    → Executed events (snapshot_of p board 0 s o) had c untouched result
laid-then {p = p} {board = board} {c = c} {s = s} {o = o} {o1 = o1} {result = result} lay writes quiet size rest
    = record {
      bounded = record {
        plan = rest.bounded.plan;
        size = rest.bounded.size;
        source = rest.bounded.source;
        output = writes_then {mid = o1} (foreign p writes) rest.bounded.output;
        failed = has-failed-since p o o1 c.output result writes rest.bounded.failed;
        order = λ whole i last stays before. rest.bounded.order (on whole) i last stays before
            ∙ writes.others whole (p.output i) stays;
        durable = λ whole ended. rest.bounded.durable (on whole) ended;
      };
      outcome = λ honest whole fit separate fresh.
          let none = rw size at fresh.none in
          outcome-since (lay.laid whole s.files fit) quiet writes (rest.outcome honest (on whole) fit separate (record {
            filled = blank-filled (jobs_over p.jobs s.files) (p.whole s.files) (done_of board) o1.files none
                (lay.laid whole s.files fit);
            marked = record { idle = fresh.idle; running = lay.marks whole s.files (done_of board) none };
          }));
      moments = λ honest whole fresh. crashes_then {mid = o1}
          (crashes_weaker _ _ (lays-sets (p.marking s.files) (done_of c.board))
          (lay.any_moment whole s.files fresh.unstarted))
          (crashes_weaker _ _ (leaves-sets (p.marking s.files) (done_of board) (done_of c.board))
          (rest.moments honest (on whole) (record {
            idle = fresh.fresh.idle;
            running = lay.marks whole s.files (done_of board) (rw size at fresh.fresh.none);
          })));
    }
  where
    on : IsTrue o.honest → IsTrue o1.honest
    on whole = rw writes.same_honest whole
