-- A shelf's faults, and their numbers.
use Rattle.std.specs.Prelude.{ℕ, Result, IsErrOf}
use Rattle.devices.specs.declared.fault.ShelfFault.{ShelfFault}
use Rattle.devices.specs.declared.fault.ShelfFault.TheVariants.{NotFound, Device}

-- the number of the refusal
abbrev pub number_of : ShelfFault → ℕ
number_of NotFound = 21
number_of Device = 22

-- whatever else is wrong, it isn't that no file has the name
abbrev pub IsThere : {X : Type 0} → Result X ShelfFault → Type 0
IsThere result = IsErrOf result NotFound → ⊥
