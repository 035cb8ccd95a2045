-- A workshop at the moments of a run.
use Rattle.std.specs.Prelude.{ℕ, Option, List}
use Rattle.work_terms.specs.Disk.{Files}
use Rattle.devices.specs.Views.{OutputView, SourceView}
use Rattle.job_terms.specs.declared.BoardEvent.{BoardEvent}
use Rattle.job_terms.specs.Workers.{End}
use Rattle.execution.specs.EventRun.{EventRun, Snapshot, snapshot_of}
use Rattle.execution.specs.Held.{hands_in}
use Rattle.execution.specs.Noted.{StaysNoted}
use Rattle.execution.specs.Plan.{JobPlan}
use Rattle.execution.specs.declared.workshop.Workshop.{Workshop}

-- all of it but what its workers hold, with both stores
abbrev pub shop_at : {W : Type 0} → (W → JobPlan) → Workshop W → ℕ → SourceView → OutputView → Snapshot
shop_at plan shop stale source output = snapshot_of (plan shop.work) shop.board stale source output

-- these events lead from one to the other
abbrev pub ShopRuns : {W : Type 0} → (W → JobPlan) → List BoardEvent → Option End → Workshop W → ℕ → SourceView
    → OutputView → Workshop W → ℕ → SourceView → OutputView → Type 0
ShopRuns plan events ended old stale source output new next read written = EventRun (shop_at plan old stale source output)
    (hands_in old.hands) events (shop_at plan new next read written) (hands_in new.hands) ended

-- its work loses nothing that it has noted
abbrev pub ShopStaysNoted : {W : Type 0} → (W → W → Type 0) → (W → Files → ℕ → Type 0) → SourceView → Workshop W
    → Workshop W → Type 0
ShopStaysNoted remains noted source old new =
    StaysNoted remains noted source old.work old.board (hands_in old.hands) new.work new.board (hands_in new.hands)
