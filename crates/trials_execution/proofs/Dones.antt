-- Results of an execution of this run.
use Rattle.std.proofs.Common.{◌≡◌, ◌∙◌, ℕ, ◌+◌, ◌<◌, false, Err, List, [], ◌∷◌, ◌≢◌, codes, length, get_or, replicate, refl, sym, ap, subst, inl, inr, arith}
use Rattle.std.proofs.lemmas.Bool.{cases_lt}
use Rattle.std.proofs.lemmas.List.{get_or-replicate, length-replicate}
use Rattle.work_terms.specs.Disk.{Files}
use Rattle.devices.specs.Views.{OutputView}
use Rattle.job_terms.specs.Board.{Board, fresh_job}
use Rattle.job_terms.specs.Workers.{jobs_over}
use Rattle.execution.specs.Boards.{fresh_board}
use Rattle.execution.specs.Filled.{AreApart}
use Rattle.execution.specs.Marking.{done_of}
use Rattle.execution.specs.Outcome.{HasFailed, IsBefore}
use Rattle.execution.specs.Plan.{SourcesFit, Stays}
use Rattle.execution.specs.declared.fault.ExecutionFault.{ExecutionFault}
use Rattle.execution.specs.declared.fault.ExecutionFault.TheVariants as fault
use Rattle.trials_execution.specs.Listed.{plan_of}

pub sources-fit : (sources : Files) → SourcesFit plan_of sources
sources-fit sources = record {
  sized = λ k lt. refl;
  parts = λ k lt. record {
    inside = omega (arith, lt);
    part = λ i below. only i below k lt;
  };
}
  where
    only : (i : ℕ) → i < 1 → (k : ℕ) → k < 64 → ◌≡◌ {A = ℕ} (get_or (7 ∷ []) i 0) (get_or (replicate 64 7) (k + i) 0)
    only i below k lt = let first : i ≡ 0 = omega (arith, below) in
        ap {B = ℕ} (λ (j : ℕ). get_or (7 ∷ []) j 0) first ∙ sym (get_or-replicate 64 (k + i) 7 0 (omega (arith, below, lt)))

pub are-apart : (sources : Files) → AreApart (jobs_over plan_of.jobs sources)
are-apart sources j k there also other same = elim (cases_lt j k) [
  | inl less ↦ inl (omega (arith, less))
  | inr ge ↦ inr (omega (arith, ge, other))
]

-- no job of a new board is done
pub none-yet : (board : Board) (order : List ℕ) → board ≡ fresh_board 64 order
    → ((k : ℕ) → k < 64 → done_of board k ≡ false) → (k : ℕ) → k < length board.jobs → done_of board k ≡ false
none-yet board order is none k lt = none k (subst (λ (n : ℕ). k < n) (ap (λ (b : Board). length b.jobs) is
    ∙ length-replicate 64 fresh_job) lt)

pub list-stays : Stays plan_of (codes "list")
list-stays = record { jobs = λ k lt e. cc; marks = λ sources m is. cc }

-- an execution that fails on another file than the list ended before the list
pub is-before : (o o2 : OutputView) (f : ExecutionFault) → HasFailed plan_of o o2 (Err f) → f ≢ fault.Output 1
    → IsBefore (Err f) 1
is-before o o2 fault.Memory failed other = tt
is-before o o2 fault.JobMemory failed other = tt
is-before o o2 (fault.GivenUp job) failed other = tt
is-before o o2 fault.Mark failed other = tt
is-before o o2 (fault.Output file) failed other = elim (cases_lt file 1) [
  | inl less ↦ less
  | inr ge ↦ absurd (other (ap {B = ExecutionFault} (λ (n : ℕ). fault.Output n) (omega (arith, ge, failed.failed.0))))
]
