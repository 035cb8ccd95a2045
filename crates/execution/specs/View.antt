-- What a clause sees of a run.
use Rattle.std.specs.Prelude.{◌≡◌, ◌==◌, ℕ, true, cond, List, Result, OnOk}
use Rattle.std.specs.BTreeMap.{is_at}
use Rattle.std.specs.Map.{lookup}
use Rattle.std.specs.Ordering.{nat_cmp}
use Rattle.work_terms.specs.Disk.{Files}
use Rattle.devices.specs.Views.{OutputView, SourceView}
use Rattle.job_terms.specs.Board.{Board, is_finished}
use Rattle.job_terms.specs.Workers.{Hand, Nothing}
use Rattle.execution.specs.Alone.{AtRest}
use Rattle.execution.specs.Desks.{Desk, held}
use Rattle.execution.specs.EventRun.{Snapshot, snapshot_of}
use Rattle.execution.specs.Noted.{StaysNoted}
use Rattle.execution.specs.Plan.{JobPlan}

-- a work, its board, and what its workers hold, the first and the others by their numbers
pub record ExecutionView (W : Type 0) : Type 0 where
  pub work : W
  pub board : Board
  pub first : Desk
  pub others : List (ℕ × Desk)

abbrev pub hands_at : {W : Type 0} → ExecutionView W → ℕ → Hand
hands_at run w = cond (w == 1) run.first.hand (held (lookup (is_at (nat_cmp w)) run.others))

-- no worker holds anything
abbrev pub IsIdle : {W : Type 0} → ExecutionView W → Type 0
IsIdle run = (w : ℕ) → hands_at run w ≡ Nothing

-- nothing is under way: as between two rounds of a worker that was alone from the start
abbrev pub IsResting : {W : Type 0} → ExecutionView W → Type 0
IsResting run = AtRest run.board

-- from there on it does all jobs where it answers Ok
abbrev pub DoesAll : {W X E : Type 0} → ExecutionView W → ExecutionView W → Result X E → Type 0
DoesAll old new result = AtRest old.board → hands_at old 1 ≡ Nothing → OnOk result (is_finished new.board ≡ true)

-- all of it but what its workers hold, with both stores
abbrev pub run_at : {W : Type 0} → (W → JobPlan) → ExecutionView W → SourceView → OutputView → Snapshot
run_at plan run source output = snapshot_of (plan run.work) run.board 0 source output

-- its work loses nothing that it has noted
abbrev pub RunStaysNoted : {W : Type 0} → (W → W → Type 0) → (W → Files → ℕ → Type 0) → SourceView → ExecutionView W
    → ExecutionView W → Type 0
RunStaysNoted remains noted source old new =
    StaysNoted remains noted source old.work old.board (hands_at old) new.work new.board (hands_at new)
