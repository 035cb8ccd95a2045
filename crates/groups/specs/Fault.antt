-- Refusal numbers of the errors on intervals.
use Rattle.std.specs.Prelude.{ℕ}
use Rattle.groups.specs.declared.fault.IntervalFault.{IntervalFault}
use Rattle.groups.specs.declared.fault.IntervalFault.TheVariants.{Memory}

-- the refusal number of an error
abbrev pub number_of : IntervalFault → ℕ
number_of Memory = 47
