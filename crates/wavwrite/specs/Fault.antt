-- Numbers of the errors of making a header.
use Rattle.std.specs.Prelude.{ℕ}
use Rattle.wavwrite.specs.declared.fault.HeaderFault.{HeaderFault}
use Rattle.wavwrite.specs.declared.fault.HeaderFault.TheVariants.{TooLong, Memory}

-- number of the refusal
abbrev pub number_of : HeaderFault → ℕ
number_of TooLong = 61
number_of Memory = 63
