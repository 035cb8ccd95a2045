-- Valid numbers of channels of a file.
use Rattle.std.specs.Prelude.{ℕ, ◌&&◌, nat_le, Bool, true, Option, None, Some}

-- no number is given, or it is 1 to 64
abbrev pub are_few : Option ℕ → Bool
are_few None = true
are_few (Some channels) = nat_le 1 channels && nat_le channels 64
