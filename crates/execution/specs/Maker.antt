-- What a work leaves of its outputs before its first job and after its last.
use Rattle.std.specs.Prelude.{◌≡◌, ℕ, ◌<◌, Bool, false, IsTrue, List, Result, Some, IfErr, OnErr, OnOk}
use Rattle.work_terms.specs.Disk.{Files, IsDurable}
use Rattle.devices.specs.Views.{CrashesLeave, OutputView}
use Rattle.job_terms.specs.Workers.{jobs_over}
use Rattle.execution.specs.Marking.{AreLeftBy, IsRunningBy, LaysBy, LeavesBy, Marking, NoneStartedBy}
use Rattle.execution.specs.Plan.{AreBlank, AreBlankBefore, AreDurable, AreKeptAfter, HoldBefore, HoldJobs, HoldLast, IsLast, IsOwn, JobPlan, SourcesFit, StartBlankBy}
use Rattle.execution.specs.declared.fault.OutputFault.{OutputFault}

-- each output of a job is laid out, and its marks are fresh; where no outcome had marks that are started, a crash leaves
-- none that aren't true
pub record LaysOut (plan : JobPlan) (old new : OutputView) (result : Result (Unit {0}) OutputFault) : Type 0 where
  pub laid : IsTrue old.honest → (sources : Files) → SourcesFit plan sources
      → OnOk result (AreBlank (jobs_over plan.jobs sources) (plan.whole sources) new.files)
  pub marks : IsTrue old.honest → (sources : Files) → (done : ℕ → Bool) → ((k : ℕ) → k < plan.jobs.count → done k ≡ false)
      → OnOk result (IsRunningBy (plan.marking sources) done new)
  pub any_moment : IsTrue old.honest → (sources : Files) → NoneStartedBy (plan.marking sources) old.may_leave
      → CrashesLeave (LaysBy (plan.marking sources)) old new
  pub left : IsTrue old.honest → (sources : Files) → NoneStartedBy (plan.marking sources) old.may_leave
      → OnErr result (AreLeftBy (plan.marking sources) new.may_leave)
  -- outputs are laid out in the order of their numbers, and those that come last aren't
  pub early : IfErr result (λ fault. fault.file < plan.last)
  pub before : IsTrue old.honest → (sources : Files) → SourcesFit plan sources
      → IfErr result (λ fault. AreBlankBefore plan sources fault.file new.files)
  pub after : IsTrue old.honest → IfErr result (λ fault. AreKeptAfter plan fault.file old.files new.files)
  -- marks are started once all else is laid out
  pub blank : IsTrue old.honest → (sources : Files) → SourcesFit plan sources
      → NoneStartedBy (plan.marking sources) old.may_leave
      → OnErr result (StartBlankBy (plan.marking sources) (jobs_over plan.jobs sources) (plan.whole sources)
      new.may_leave)

-- the outputs of jobs and the marks stay as they are, and become durable; what comes last is written in its order, once
-- the jobs' outputs hold their bytes
pub record Finishes (plan : JobPlan) (old new : OutputView) (result : Result (Unit {0}) OutputFault) : Type 0 where
  pub stays : IsTrue old.honest → (n : List ℕ) → IsOwn plan n → new.files n ≡ old.files n
  pub last : IsTrue old.honest → (sources : Files) → HoldJobs plan sources old.files
      → OnOk result (HoldLast plan sources new.files)
  pub in_order : IsTrue old.honest → IfErr result (λ fault. (i : ℕ) → IsLast plan i → fault.file < i
      → new.files (plan.output i) ≡ old.files (plan.output i))
  pub before : IsTrue old.honest → (sources : Files) → HoldJobs plan sources old.files
      → IfErr result (λ fault. HoldBefore plan fault.file sources new.files)
  pub durable : IsTrue old.honest → OnOk result (AreDurable plan new.files new.may_leave)
  pub marks_durable : IsTrue old.honest → (sources : Files) (m : Marking) → plan.marking sources ≡ Some m
      → OnOk result (IsDurable m.marks new.files new.may_leave)
  pub marks : IsTrue old.honest → (sources : Files) (done : ℕ → Bool)
      → IsRunningBy (plan.marking sources) done old → IsRunningBy (plan.marking sources) done new
  pub any_moment : IsTrue old.honest → (sources : Files) (done : ℕ → Bool)
      → IsRunningBy (plan.marking sources) done old
      → CrashesLeave (LeavesBy (plan.marking sources) done done) old new
