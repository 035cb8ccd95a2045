-- Bits per sample.
use Rattle.std.specs.Prelude.{ℕ}
use Rattle.sound_terms.specs.declared.Depth.{Depth}
use Rattle.sound_terms.specs.declared.Depth.TheVariants.{Sixteen, TwentyFour, ThirtyTwo}

-- number of bits per sample
abbrev pub bits_of : Depth → ℕ
bits_of Sixteen = 16
bits_of TwentyFour = 24
bits_of ThirtyTwo = 32
