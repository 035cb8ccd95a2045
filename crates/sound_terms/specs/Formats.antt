-- Contents of the `fmt ` chunk (RIFF WAVE, including WAVE_FORMAT_EXTENSIBLE).
use Rattle.std.specs.Prelude.{ℕ, ◌*◌, ◌/◌, ◌==◌, ◌&&◌, ◌||◌, nat_le, Bool, List, [], ◌∷◌, length, Option, None, Some, Result, Ok, Err, if◌then◌else◌}
use Rattle.sound_terms.specs.declared.Depth.{Depth}
use Rattle.sound_terms.specs.declared.Depth.TheVariants.{Sixteen, TwentyFour, ThirtyTwo}
use Rattle.sound_terms.specs.declared.Format.{Format}
use Rattle.sound_terms.specs.declared.SoundFault.{SoundFault}
use Rattle.sound_terms.specs.declared.SoundFault.TheVariants.{BadFormat, WrongRate}
use Rattle.sound_terms.specs.Depth.{bits_of}
use Rattle.sound_terms.specs.Chunks.{number_at, stands_at}

-- depth with the given number of bits, or None if unsupported
abbrev pub depth_of : ℕ → Option Depth
depth_of bits =
    if bits == 16 then Some Sixteen else (if bits == 24 then Some TwentyFour
    else (if bits == 32 then Some ThirtyTwo else None))

-- PCM according to the format tag, or to the sub-format of WAVE_FORMAT_EXTENSIBLE
abbrev pub is_pcm : List ℕ → Bool
is_pcm format = nat_le 16 (length format) && (number_at 2 0 format == 1
    || (nat_le 40 (length format) && (number_at 2 0 format == 65534 && (number_at 2 16 format == 22
    && stands_at (1 ∷ 0 ∷ 0 ∷ 0 ∷ 0 ∷ 0 ∷ 16 ∷ 0 ∷ 128 ∷ 0 ∷ 0 ∷ 170 ∷ 0 ∷ 56 ∷ 155 ∷ 113 ∷ []) 24 format))))

-- linear PCM of 1 to 64 channels at 48,000 samples per second, with no padding in the sample frames
abbrev pub format_of : List ℕ → Result Format SoundFault
format_of format = formed (depth_of (number_at 2 14 format)) where
  formed : Option Depth → Result Format SoundFault
  formed None = Err BadFormat
  formed (Some depth) =
      let channels = number_at 2 2 format in
      if is_pcm format && (nat_le 1 channels && (nat_le channels 64
      && number_at 2 12 format == channels * (bits_of depth / 8)))
      then (if number_at 4 4 format == 48000 then Ok (record { channels = channels; depth = depth }) else Err WrongRate)
      else Err BadFormat
