-- What a call leaves of a shelf or of a bench, said once for all callers.
use Rattle.std.specs.Prelude.{ℕ, ⊤, List, Result}
use Rattle.work_terms.specs.Disk as disk
use Rattle.devices.specs.declared.fault.DeviceFault.{DeviceFault}
use Rattle.devices.specs.declared.source.Shelf as source
use Rattle.devices.specs.declared.bench.Bench as output

-- a call that only reads sources: these faults tell that the device failed, at a file that has one of these names
abbrev pub OnlyReads : {S X E : Type 0} → source.Ghosts S → S → S → Result X E → (E → Type 0)
    → (E → (List ℕ → Type 0) → Type 0) → Type 0
OnlyReads shelf = disk.ReadsTo shelf.stored shelf.honest shelf.failures shelf.failed_at

-- nothing has failed so far, and nothing was written
abbrev pub IsQuiet : {S : Type 0} → source.Ghosts S → S → S → Type 0
IsQuiet shelf = disk.IsKept shelf.stored shelf.honest shelf.failures shelf.failed_at

-- a call that changes no file that stays, and leaves it as durable: these faults tell that the device failed, at a file
-- that has one of these names
abbrev pub OnlyWrites : {B X E : Type 0} → output.Ghosts B → (List ℕ → Type 0) → B → B → Result X E → (E → Type 0)
    → (E → (List ℕ → Type 0) → Type 0) → Type 0
OnlyWrites bench = disk.WritesTo bench.stored bench.honest bench.failures bench.failed_at bench.may_leave

-- nothing has failed so far, and every file that stays is as it was
abbrev pub IsBuilding : {B : Type 0} → output.Ghosts B → (List ℕ → Type 0) → B → B → Type 0
IsBuilding bench = disk.IsExtended bench.stored bench.honest bench.failures bench.failed_at bench.may_leave

-- a text was added at the end of a file, be it in pieces
abbrev pub Appends : {B : Type 0} → output.Ghosts B → (name text : List ℕ) → B → B → Result ⊤ DeviceFault → Type 0
Appends bench name text old new result =
    disk.HasAppended bench.stored bench.honest bench.failures bench.failed_at bench.may_leave bench.moment
    bench.left_since name text old new result

-- what a crash leaves while the text is added
abbrev pub MayBeTorn : {B : Type 0} → output.Ghosts B → (name text : List ℕ) → B → disk.Files → Type 0
MayBeTorn bench name text old c =
    disk.MayBeTorn bench.stored bench.honest bench.failures bench.failed_at bench.may_leave bench.moment
    bench.left_since name text old c
