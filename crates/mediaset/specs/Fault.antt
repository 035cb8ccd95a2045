-- Refusal numbers.
use Rattle.std.specs.Prelude.{ℕ}
use Rattle.mediaset.specs.declared.fault.RunFault.{RunFault}
use Rattle.mediaset.specs.declared.fault.RunFault.TheVariants.{TooManyRuns, Memory}

-- The refusal number of a fault.
abbrev pub number_of : RunFault → ℕ
number_of TooManyRuns = 53
number_of Memory = 54
