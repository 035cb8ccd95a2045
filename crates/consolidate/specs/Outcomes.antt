-- How the jobs of a command came out: all of it, at every end.
use Rattle.std.specs.Prelude.{◌≡◌, ⊤, true, IsTrue, IsErrAnd, IsOkAnd, Result, Ok, Err}
use Rattle.devices.specs.declared.source.Shelf as source
use Rattle.devices.specs.Views.{SourceView}
use Rattle.job_terms.specs.declared.Progress.{Progress}
use Rattle.execution.specs.declared.fault.ExecutionFault.{ExecutionFault}
use Rattle.consolidate.specs.Fault.{refusal_of}
use Rattle.consolidate.specs.declared.fault.Fault.{Fault}

-- the first write was reached: nothing was refused before it
abbrev pub HasBegun : {X : Type 0} → Result X Fault → Type 0
HasBegun (Ok answer) = ⊤
HasBegun (Err fault) = IsTrue (refusal_of fault).late

-- what a call answers, by how its execution ended: the fault that stands for its fault, or what is reported of it
abbrev pub AnswersAs : {X : Type 0} → (ExecutionFault → Fault) → (X → Progress → Type 0) → Result X Fault
    → Result Progress ExecutionFault → Type 0
AnswersAs fault_for Reports (Ok answer) ended = IsOkAnd ended (Reports answer)
AnswersAs fault_for Reports (Err fault) ended = IsErrAnd ended (λ cause. fault ≡ fault_for cause)

-- the sources as far as an outcome speaks of them: what they hold, and how often their device failed
abbrev pub read_view : {S : Type 0} → source.Ghosts S → S → SourceView
read_view shelf now = record {
  files = shelf.stored now;
  honest = true;
  failures = shelf.failures now;
  failed_at = λ _. ⊥;
}

-- all is done
abbrev pub IsAllDone : Progress → Type 0
IsAllDone progress = IsTrue progress.finished
