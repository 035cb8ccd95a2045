-- Number of channels of a file.
use Rattle.std.specs.Prelude.{◌≤◌}
use Rattle.sound_terms.specs.declared.Format.{Format}

-- the format has 1 to 64 channels
abbrev pub HasFewChannels : Format → Type 0
HasFewChannels format = (1 ≤ format.channels) × (format.channels ≤ 64)
