-- What follows from marks and their output between two events.
use Rattle.std.proofs.Common.{◌∙◌, ℕ, Bool, Option, None, Some, sym}
use Rattle.work_terms.specs.Disk.{Files}
use Rattle.job_terms.specs.Workers as words
use Rattle.job_terms.specs.Workers.{End}
use Rattle.devices.specs.Views.{OutputView}
use Rattle.execution.specs.Marking.{AreTrueOfAllBy, IsBrokenBy, IsRunning, IsRunningBy, Leaves, LeavesBy, Marking, RunsOn, settled}

pub running_true : (m : Option Marking) (done : ℕ → Bool) (view : OutputView)
    → IsRunningBy m done view → AreTrueOfAllBy m view.may_leave
running_true None done view runs = tt
running_true (Some m) done view runs = λ c d at other. record {
  marks = runs.marks;
  there = runs.kept c at;
  ours = runs.ours;
  sound = runs.wave d other;
}

pub broken_true : (m : Option Marking) (done : ℕ → Bool) (outcomes : Files → Type 0)
    → IsBrokenBy m done outcomes → AreTrueOfAllBy m outcomes
broken_true None done outcomes broken = tt
broken_true (Some m) done outcomes broken = broken.true_of_all

-- however the run ended
pub runs_true : (ended : Option End) (m : Option Marking) (done : ℕ → Bool) (view : OutputView)
    → RunsOn m done view ended → AreTrueOfAllBy m view.may_leave
runs_true None m done view runs = running_true m done view runs
runs_true (Some (words.GivenUp job)) m done view runs = running_true m done view runs
runs_true (Some words.MarkFailed) m done view runs = broken_true m done view.may_leave runs

module _ (m : Marking) (done : ℕ → Bool) (files : Files) (outcomes : Files → Type 0)
    (runs : IsRunning m done files outcomes) where
  -- where nothing was written: fewer outcomes, or each of them
  pub running_fewer : (fewer : Files → Type 0) → ((c : Files) → fewer c → outcomes c) → IsRunning m done files fewer
  running_fewer fewer inside = record {
    marks = runs.marks;
    ours = runs.ours;
    tell = runs.tell;
    kept = λ c at. runs.kept c (inside c at);
    wave = λ c at. runs.wave c (inside c at);
    stands = runs.stands;
  }

  pub running_leaves : (c : Files) → outcomes c → Leaves m (settled m done) (settled m done) c
  running_leaves c at = record {
    marks = runs.marks;
    there = runs.kept c at;
    ours = runs.ours;
    still = λ job b lt from to on. runs.tell job b lt from to ∙ on;
    only = λ job b lt from to on. sym (runs.tell job b lt from to) ∙ on;
    wave = runs.wave c at;
  }

pub leaves_now : (m : Option Marking) (done : ℕ → Bool) (view : OutputView) (c : Files) → IsRunningBy m done view
    → view.may_leave c → LeavesBy m done done c
leaves_now None done view c runs at = tt
leaves_now (Some m) done view c runs at = running_leaves m done view.files view.may_leave runs c at
