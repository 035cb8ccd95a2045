-- A stretch of blocks with its bytes.
use Rattle.std.specs.Prelude.{◌≡◌, ℕ, ◌+◌, ◌<◌, ◌≤◌, Bool, false, List, Option, Some, Result, Ok, Err, IsTrue, OnErr, OnOk, length, slice_index_or, ⊤}
use Rattle.work_terms.specs.Disk.{Files, Changes, IsTorn, IsWritten, LeavesOnly}
use Rattle.devices.specs.Frame.{OnlyWrites}
use Rattle.devices.specs.Views.{output_view}
use Rattle.devices.specs.declared.bench.Bench as output
use Rattle.devices.specs.declared.fault.DeviceFault.{DeviceFault}
use Rattle.markfile.specs.Format.{marks_name, sound_name}
use Rattle.execution.specs.declared.fault.PlaceFault.{PlaceFault}
use Rattle.execution.specs.declared.fault.PlaceFault.TheVariants.{Mark, Write}
use Rattle.execution.specs.Marking.{IsRunning, Marking, Marks, settled}
use Rattle.execution.specs.Together.{with_done}
use Rattle.rendering.specs.declared.stretch.Stretch.{Stretch}
use Rattle.rendering.specs.Cut.{IsLastWith, group_at, stretch_at}
use Rattle.rendering.specs.Marked.{IsOther}
use Rattle.rendering.specs.Written.{WritesRendering}

-- the bytes of a job at their position in the output, which are just those of its blocks
pub record IsStretchOf (m : Marking) (job at : ℕ) (bytes : List ℕ) : Type 0 where
  pub there : job < m.jobs
  pub right : (i : ℕ) → i < length bytes → slice_index_or bytes i 0 ≡ slice_index_or m.whole (at + i) 0
  pub own : (b : ℕ) → m.from job ≤ b → b < m.end job → (at ≤ m.first b) × (m.last b ≤ at + length bytes)
  pub cover : (i : ℕ) → at ≤ i → i < at + length bytes
      → (b : ℕ) × (b < m.count) × (m.from job ≤ b) × (b < m.end job) × (m.first b ≤ i) × (i < m.last b)

-- the blocks of the jobs that are marked together with this one; each block is a job's
pub record AreBlocksWith (m : Marking) (job first end : ℕ) : Type 0 where
  pub inside : end ≤ m.count
  pub few : (j b : ℕ) → j < m.jobs → b < m.end j → b < m.count
  pub own : (j b : ℕ) → j < m.jobs → m.from j ≤ b → b < m.end j → first ≤ b → b < end
      → m.group j ≡ m.group job
  pub all : (j b : ℕ) → j < m.jobs → m.from j ≤ b → b < m.end j → m.group j ≡ m.group job
      → (first ≤ b) × (b < end)

-- the blocks from one on up to, and without, another, not too many of them
pub record AreFewBlocks (first end : ℕ) : Type 0 where
  pub order : first ≤ end
  pub few : end ≤ first + 2048

-- the blocks of all stretches that are marked together with one, from one on up to, and without, another
pub record AreMarkedWith (stretches : List Stretch) (k from to : ℕ) : Type 0 where
  pub last : ℕ
  pub is_last : IsLastWith stretches k last
  pub first : from ≡ (stretch_at stretches (group_at stretches k)).first
  pub end : to ≡ (stretch_at stretches last).end
  pub few : AreFewBlocks from to

-- an outcome of before with one file torn
abbrev pub IsTornFrom : (Files → Type 0) → List ℕ → (at n : ℕ) → Files → Type 0
IsTornFrom outcomes name at n c = (d : Files) × outcomes d × Changes (IsTorn at n) name d c

-- the bytes are written to the rendered file from this position on: whether they stand there, and what a crash leaves
pub record WritesSound {B : Type 0} (bench : output.Ghosts B) (old new : B) (at : ℕ) (bytes : List ℕ)
    (result : Result ⊤ DeviceFault) : Type 0 where
  pub written : IsTrue (bench.honest old)
      → OnOk result (Changes (IsWritten at bytes) sound_name (bench.stored old) (bench.stored new))
  pub unsure : IsTrue (bench.honest old)
      → OnErr result (Changes (IsTorn at (length bytes)) sound_name (bench.stored old) (bench.stored new))
  pub torn : (c : Files) → bench.may_leave new c → IsTornFrom (bench.may_leave old) sound_name at (length bytes) c
  pub moments : LeavesOnly bench.moment bench.left_since old new
      (IsTornFrom (bench.may_leave old) sound_name at (length bytes))
  pub only_writes : WritesRendering bench old new result (λ _. ⊤)

-- the bytes stand at this position, or are torn where they weren't written
abbrev pub HasPlaced : {X : Type 0} → (at : ℕ) (bytes : List ℕ) (old new : Option (List ℕ)) → Result X PlaceFault
    → Type 0
HasPlaced at bytes old new (Ok _) = IsWritten at bytes old new
HasPlaced at bytes old new (Err Write) = IsTorn at (length bytes) old new
HasPlaced at bytes old new (Err Mark) = IsWritten at bytes old new

-- a job that isn't done yet is placed while a run goes on; it is the last, or not, of those that are marked together
abbrev pub PlacesJob : {B : Type 0} → output.Ghosts B → B → B → Marking → (ℕ → Bool) → (job : ℕ) → (last : Bool)
    → (at : ℕ) → List ℕ → Result ⊤ PlaceFault → Type 0
PlacesJob bench old new m done job last at bytes result =
    IsStretchOf m job at bytes → done job ≡ false → settled m (with_done done job) job ≡ last
    → IsRunning m done (bench.stored old) (bench.may_leave old)
    → Marks (Some m) done job (output_view bench old) (output_view bench new) result

-- a call that writes the rendered file and its marks alone, and tells where a mark failed
abbrev pub WritesJob : {B : Type 0} → output.Ghosts B → B → B → Result ⊤ PlaceFault → Type 0
WritesJob bench old new result =
    OnlyWrites bench IsOther old new result (λ _. ⊤) (λ fault failed. fault ≡ Mark → failed marks_name)
