-- A store at one moment as one record, and what calls leave of it: relations that compose.
use Rattle.std.specs.Prelude.{◌≡◌, ◌⊎◌, ℕ, ◌≤◌, Bool, IsTrue, List}
use Rattle.work_terms.specs.Disk.{Files, IsDurable}
use Rattle.devices.specs.declared.source.Shelf as source
use Rattle.devices.specs.declared.bench.Bench as output

-- files that are read
pub record SourceView : Type 1 where
  pub files : Files
  pub honest : Bool
  pub failures : ℕ
  pub failed_at : List ℕ → Type 0

-- files that are written, with what a crash may leave of them, now and since each moment
pub record OutputView : Type 1 where
  pub files : Files
  pub honest : Bool
  pub failures : ℕ
  pub failed_at : List ℕ → Type 0
  pub may_leave : Files → Type 0
  pub moment : ℕ
  pub left_since : ℕ → Files → Type 0

-- a shelf as it is
abbrev pub source_view : {S : Type 0} → source.Ghosts S → S → SourceView
source_view ghosts shelf = record {
  files = ghosts.stored shelf;
  honest = ghosts.honest shelf;
  failures = ghosts.failures shelf;
  failed_at = ghosts.failed_at shelf;
}

-- a bench as it is
abbrev pub output_view : {B : Type 0} → output.Ghosts B → B → OutputView
output_view ghosts bench = record {
  files = ghosts.stored bench;
  honest = ghosts.honest bench;
  failures = ghosts.failures bench;
  failed_at = ghosts.failed_at bench;
  may_leave = ghosts.may_leave bench;
  moment = ghosts.moment bench;
  left_since = ghosts.left_since bench;
}

-- nothing was written, and each failure is remembered
pub record Reads (old new : SourceView) : Type 0 where
  pub same : new.files ≡ old.files
  pub same_honest : new.honest ≡ old.honest
  pub later : old.failures ≤ new.failures
  pub keeps : (name : List ℕ) → old.failed_at name → new.failed_at name

-- the files that stay are as they were, and as durable
pub record Writes (stays : List ℕ → Type 0) (old new : OutputView) : Type 0 where
  pub same_honest : new.honest ≡ old.honest
  pub later : old.failures ≤ new.failures
  pub keeps : (name : List ℕ) → old.failed_at name → new.failed_at name
  pub others : IsTrue old.honest → (name : List ℕ) → stays name → new.files name ≡ old.files name
  pub durable : IsTrue old.honest → (name : List ℕ) → stays name → IsDurable name old.files old.may_leave
      → IsDurable name new.files new.may_leave

-- a crash at any moment since old leaves files that have P
pub record CrashesLeave (P : Files → Type 0) (old new : OutputView) : Type 0 where
  pub later : old.moment ≤ new.moment
  pub each : (c : Files) → new.left_since old.moment c → P c
  -- for calls that began earlier
  pub before : (t : ℕ) (c : Files) → t ≤ old.moment → new.left_since t c → old.left_since t c ⊎ P c
