-- What follows from how a work came out.
use Rattle.std.proofs.Common.{◌≡◌, ◌∙◌, ℕ, true, Result, Ok, List, refl, sym}
use Rattle.std.proofs.lemmas.Bool.{false≢true}
use Rattle.work_terms.specs.Disk.{Files}
use Rattle.job_terms.specs.declared.BoardEvent.{BoardEvent}
use Rattle.job_terms.specs.declared.Progress.{Progress}
use Rattle.job_terms.specs.Board.{is_finished}
use Rattle.job_terms.specs.Workers.{Hand}
use Rattle.execution.specs.Ends.{end_of}
use Rattle.execution.specs.EventRun.{Snapshot, marking_of}
use Rattle.execution.specs.Marking.{AreLeftBy, AreTrueOfAllBy, IsRunningBy, Marking, NoneStartedBy, done_of}
use Rattle.execution.specs.MarkingLaws.{running_true, runs_true}
use Rattle.execution.specs.Outcome.{Finished, NotFinished, NotLaidOut, Outcome, Stopped}
use Rattle.execution.specs.Plan.{HoldJobs, HoldLast, OfJob}
use Rattle.execution.specs.declared.fault.ExecutionFault.{ExecutionFault}
use Rattle.std.specs.Prelude.{Option, None, Some}

-- where it is told that all is done, all jobs are, every output is whole, and the marks are set for just these
pub finished_all : {Begins : Files → Type 0} {events : List BoardEvent} {old new : Snapshot} {had : ℕ → Hand}
    {untouched : Type 0} {progress : Progress} → Outcome Begins events old had new untouched (Ok progress)
    → progress.finished ≡ true
    → (is_finished new.board ≡ true) × HoldJobs old.plan old.source.files new.output.files
    × HoldLast old.plan old.source.files new.output.files
    × IsRunningBy (marking_of old) (done_of new.board) new.output
finished_all (NotLaidOut file un is same quiet writes laid layout) done = absurd (cc)
finished_all (Stopped stale count did stops writes runs) done =
    absurd (false≢true (sym stops.1 ∙ (rw stops.0 at done)))
finished_all (NotFinished file stale failures files did all is own before rose at runs) done = absurd (cc)
finished_all {old = old} (Finished stale files did all is own last durable runs) done =
    (all, λ k lt. own (old.plan.jobs.name k) (OfJob k lt refl) ∙ did.complete all k lt, last, runs)

left_of_all : (m : Option Marking) (outcomes : Files → Type 0) → AreTrueOfAllBy m outcomes → AreLeftBy m outcomes
left_of_all None outcomes all = tt
left_of_all (Some m) outcomes all = λ c d at other started. all c d at other

-- however it ends, the marks that a crash leaves are true of what it leaves of the output
pub leaves_marks : (Begins : Files → Type 0) (events : List BoardEvent) (old : Snapshot) (had : ℕ → Hand)
    (new : Snapshot) (untouched : Type 0) (result : Result Progress ExecutionFault)
    → Outcome Begins events old had new untouched result
    → (untouched → NoneStartedBy (marking_of old) old.output.may_leave) → AreLeftBy (marking_of old) new.output.may_leave
leaves_marks Begins events old had new untouched result (NotLaidOut file un is same quiet writes laid layout) none =
    laid (none un)
leaves_marks Begins events old had new untouched result (Stopped stale count did stops writes runs) none =
    left_of_all (marking_of old) new.output.may_leave
    (runs_true (end_of result) (marking_of old) (done_of new.board) new.output runs)
leaves_marks Begins events old had new untouched result (NotFinished file stale failures files did all is own before
    rose at runs) none = left_of_all (marking_of old) new.output.may_leave
    (running_true (marking_of old) (done_of new.board) new.output runs)
leaves_marks Begins events old had new untouched result (Finished stale files did all is own last durable runs)
    none = left_of_all (marking_of old) new.output.may_leave
    (running_true (marking_of old) (done_of new.board) new.output runs)
