-- A crossfade of a sound with itself gives the sound unchanged.
use Rattle.std.specs.Prelude.{◌≡◌, ℕ, ◌+◌, ◌-◌, ◌^◌, ◌<◌, ◌≤◌, ℤ, pos, ◌+ℤ◌, ◌*ℤ◌}
use Rattle.sound_terms.specs.declared.Depth.{Depth}
use Rattle.sound_terms.specs.Depth.{bits_of}
use Rattle.sound_terms.specs.Mix.{fade_fraction, full_scale, quantized, share_of}
use Rattle.pcm.specs.Samples.{FitsDepth}

-- If a fade-out and a fade-in of the same length n overlap completely, the two shares of a sample add up, at this
-- depth, to the sample of a source that is no deeper. The ending entry has `before` samples, the beginning one
-- `behind`.
abbrev pub IsCrossfadeExact : Depth → Type 0
IsCrossfadeExact depth =
    (source : Depth) (n i rise before fall behind : ℕ) (x : ℤ) → bits_of source ≤ bits_of depth
    → FitsDepth (bits_of source) x
    → i < n → rise + n ≤ before → n + fall ≤ behind
    → quantized (bits_of depth)
    (share_of (full_scale (bits_of source) x) (fade_fraction rise n before (before - n + i))
    +ℤ share_of (full_scale (bits_of source) x) (fade_fraction n fall behind i))
    ≡ x *ℤ pos (2 ^ (bits_of depth - bits_of source))
