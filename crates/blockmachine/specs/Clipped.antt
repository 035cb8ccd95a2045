-- Samples that aren't clipped, and the clipped sums of a block.
use Rattle.std.specs.Prelude.{◌≡◌, ℕ, ◌-◌, ◌*◌, ◌^◌, ℤ, pos, neg_ℤ, ◌<ℤ◌, List, length}
use Rattle.sound_terms.specs.declared.Depth.{Depth}
use Rattle.sound_terms.specs.Depth.{bits_of}
use Rattle.sound_terms.specs.Blocks.{block_samples}
use Rattle.clipping.specs.declared.tally.Clips.{Clips}
use Rattle.clipping.specs.Clips.{IsClippingOf, block_sums}
use Rattle.blockmachine.specs.Sums.{AreSums, BlockSums}

-- the sample is neither the minimum nor the maximum of the depth
abbrev pub IsBetween : ℕ → ℤ → Type 0
IsBetween depth sample = (neg_ℤ (pos (2 ^ (depth - 1))) <ℤ sample) × (sample <ℤ pos (2 ^ (depth - 1) - 1))

-- `clips` describes the sums of the first sample frames that were clipped when emitted as `samples`
abbrev pub TellsClips : Depth → BlockSums → (samples : List ℤ) → Clips → Type 0
TellsClips depth kept samples clips = (all : ℕ → ℕ → ℤ) → AreSums kept all → (frames : ℕ)
    → length samples ≡ frames * kept.extent.channels
    → samples ≡ block_samples (bits_of depth) all kept.extent.channels 0 frames
    → IsClippingOf (bits_of depth) kept.extent.channels (block_sums all kept.extent.channels 0 frames) clips
