-- Marks: the moments of one step, and of one after another.
use Rattle.std.proofs.Common.{◌≡◌, ℕ, Bool, true, Option, Some, None, Result, refl, subst}
use mathlib.Core.Path.{fun_ext}
use Rattle.work_terms.specs.Disk.{Files}
use Rattle.job_terms.specs.Workers.{End, GivenUp, MarkFailed}
use Rattle.devices.specs.ViewLaws.{crashes_none, crashes_then, crashes_weaker}
use Rattle.devices.specs.Views.{CrashesLeave, OutputView}
use Rattle.execution.specs.MarkingLaws.{leaves_now}
use Rattle.execution.specs.declared.fault.PlaceFault.{PlaceFault}
use Rattle.execution.specs.Marking.{IsRunningBy, Leaves, LeavesBy, Marking, Marks, MarksOn, RunsOn, done_by, settled}
use Rattle.execution.specs.TogetherLaws.{settled_more}

-- between moments that are further apart
pub leaves-wider : (m : Marking) (before after earlier later : ℕ → Bool) (c : Files)
    → ((k : ℕ) → earlier k ≡ true → before k ≡ true) → ((k : ℕ) → after k ≡ true → later k ≡ true)
    → Leaves m before after c → Leaves m earlier later c
leaves-wider m before after earlier later c e l r = record {
  marks = r.marks;
  there = r.there;
  ours = r.ours;
  still = λ job b lt from to on. r.still job b lt from to (e job on);
  only = λ job b lt from to on. l job (r.only job b lt from to on);
  wave = r.wave;
}

pub leaves-wider-by : (m : Option Marking) (before after earlier later : ℕ → Bool) (c : Files)
    → ((k : ℕ) → earlier k ≡ true → before k ≡ true) → ((k : ℕ) → after k ≡ true → later k ≡ true)
    → LeavesBy m before after c → LeavesBy m earlier later c
leaves-wider-by None before after earlier later c e l r = tt
leaves-wider-by (Some m) before after earlier later c e l r = leaves-wider m (settled m before) (settled m after)
    (settled m earlier) (settled m later) c (settled_more m earlier before e) (settled_more m after later l) r

-- one stretch of moments after another, along which what is done stays done
pub moments-then : (m : Option Marking) (first mid last : ℕ → Bool) (a b c : OutputView)
    → ((k : ℕ) → first k ≡ true → mid k ≡ true) → ((k : ℕ) → mid k ≡ true → last k ≡ true)
    → CrashesLeave (LeavesBy m first mid) a b → CrashesLeave (LeavesBy m mid last) b c
    → CrashesLeave (LeavesBy m first last) a c
moments-then m first mid last a b c on after one two = crashes_then {mid = b}
    (crashes_weaker _ _ (λ f. leaves-wider-by m first mid first last f (λ k h. h) after) one)
    (crashes_weaker _ _ (λ f. leaves-wider-by m mid last first last f on (λ k h. h)) two)

-- an end that is no failed mark
pub runs-ended : (ended : Option End) (m : Option Marking) (done : ℕ → Bool) (o : OutputView)
    → (ended ≡ Some MarkFailed → ⊥) → IsRunningBy m done o → RunsOn m done o ended
runs-ended None m done o no_mark h = h
runs-ended (Some (GivenUp job)) m done o no_mark h = h
runs-ended (Some MarkFailed) m done o no_mark h = absurd (no_mark refl)

-- a crash leaves nothing now that it may not leave
abbrev pub IsUpToDate : OutputView → Type 0
IsUpToDate o = (c : Files) → o.left_since o.moment c → o.may_leave c

-- nothing was written, and as much is done
pub marks-quiet : {m : Option Marking} {done now : ℕ → Bool} {o : OutputView} {ended : Option End} → IsUpToDate o
    → (ended ≡ Some MarkFailed → ⊥) → ((k : ℕ) → now k ≡ done k) → IsRunningBy m done o
    → MarksOn m done o now o ended
marks-quiet {m = m} {done = done} {o = o} {ended = ended} only no_mark same run = rw (fun_ext same) (record {
  now = runs-ended ended m done o no_mark run;
  moments = crashes_none (LeavesBy m done done) o (λ c l. leaves_now m done o c run (only c l));
})

-- a job was placed, or couldn't be, in one of these ways
pub marks-placed : {m : Option Marking} {done now : ℕ → Bool} {job : ℕ} {old new : OutputView}
    {result : Result (Unit {0}) PlaceFault} {ended : Option End} → ((k : ℕ) → done_by done job result k ≡ now k)
    → RunsOn m (done_by done job result) new ended → Marks m done job old new result
    → MarksOn m done old now new ended
marks-placed {m = m} {done = done} {old = old} {new = new} {ended = ended} same runs h =
    subst (λ d. MarksOn m done old d new ended) (fun_ext same) (record { now = runs; moments = h.moments })
