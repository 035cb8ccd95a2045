-- Numbers of the faults of sound files.
use Rattle.std.specs.Prelude.{ℕ}
use Rattle.sound_terms.specs.declared.SoundFault.{SoundFault}
use Rattle.sound_terms.specs.declared.SoundFault.TheVariants.{NotWave, NoFormat, NoData, Truncated, BadFormat, BadDs64, WrongRate}

-- number of the refusal
abbrev pub number_of : SoundFault → ℕ
number_of NotWave = 23
number_of NoFormat = 24
number_of NoData = 25
number_of Truncated = 26
number_of BadFormat = 27
number_of BadDs64 = 28
number_of WrongRate = 29
