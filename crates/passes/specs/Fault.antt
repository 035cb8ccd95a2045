-- Refusal numbers of the errors of passes.
use Rattle.std.specs.Prelude.{◌≡◌, ℕ}
use Rattle.passes.specs.declared.fault.PassFault.{PassFault}
use Rattle.passes.specs.declared.fault.PassFault.TheVariants.{Memory, Device}

-- the refusal number of an error
abbrev pub number_of : PassFault → ℕ
number_of Memory = 51
number_of (Device file) = 52

-- out of memory
abbrev pub WantsMemory : PassFault → Type 0
WantsMemory fault = fault ≡ Memory
