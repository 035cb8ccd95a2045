-- Refusal numbers.
use Rattle.std.specs.Prelude.{ℕ}
use Rattle.relink.specs.declared.fault.RelinkFault.{RelinkFault}
use Rattle.relink.specs.declared.fault.RelinkFault.TheVariants.{TooManyEntries, Memory}

-- The refusal number of a fault.
abbrev pub number_of : RelinkFault → ℕ
number_of TooManyEntries = 55
number_of Memory = 56
