-- Sample frames with a fade applied.
use Rattle.std.specs.Prelude.{◌≡◌, ℕ, ◌*◌, ◌/◌, ◌<◌, ◌≤◌, ℤ, pos, List, All, length, slice_index_or}
use Rattle.sound_terms.specs.declared.piece.Shape.{Shape}
use Rattle.sound_terms.specs.Groups.{IsRamp, fraction_of}
use Rattle.sound_terms.specs.Mix.{full_scale, quantized, share_of}
use Rattle.pcm.specs.Samples.{FitsDepth}

-- interleaved samples of a depth, under a fade of the same length
pub record AreFrames (shape : Shape) (depth frames channels : ℕ) (samples : List ℤ) : Type 0 where
  pub whole : length samples ≡ frames * channels
  pub fit : All (FitsDepth depth) samples
  pub ramp : IsRamp shape frames
  pub some_frames : 1 ≤ frames
  pub some_channels : 1 ≤ channels

-- each sample is the given fraction of the old one, rounded to the depth
abbrev pub HasFadedBy : (fraction : ℕ × ℕ) → (depth : ℕ) → (old new : List ℤ) → Type 0
HasFadedBy fraction depth old new = (k : ℕ) → k < length old → slice_index_or new k (pos 0)
    ≡ quantized depth (share_of (full_scale depth (slice_index_or old k (pos 0))) fraction)

-- each sample is the old one times the gain of the shape at its sample frame, rounded to the depth
abbrev pub HasFaded : Shape → (channels depth : ℕ) → (old new : List ℤ) → Type 0
HasFaded shape channels depth old new = (k : ℕ) → k < length old → slice_index_or new k (pos 0)
    ≡ quantized depth (share_of (full_scale depth (slice_index_or old k (pos 0))) (fraction_of shape (k / channels)))
