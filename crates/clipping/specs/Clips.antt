-- Sums that are clipped at a depth.
use Rattle.std.specs.Prelude.{◌≡◌, ◌↔◌, ℕ, zero, suc, ◌+◌, ◌-◌, ◌*◌, ◌^◌, ◌<◌, ◌||◌, max, Bool, IsTrue, ℤ, pos, neg_ℤ, ◌+ℤ◌, int_lt, unsigned_abs, List, [], ◌∷◌, ◌++◌, length, slice_index_or, if◌then◌else◌}
use Rattle.std.specs.Int.{IsBitSet, int_div_euclid}
use Rattle.std.specs.List.{filter, position}
use Rattle.clipping.specs.declared.tally.Clips.{Clips}

-- a sum at full scale (48 bits) rounded to a depth, halves up
abbrev pub rounded : ℕ → ℤ → ℤ
rounded depth sum = int_div_euclid (sum +ℤ pos (2 ^ (47 - depth))) (pos (2 ^ (48 - depth)))

-- the rounded sum is outside the range of the depth
abbrev pub is_clipped : ℕ → ℤ → Bool
is_clipped depth sum =
    int_lt (rounded depth sum) (neg_ℤ (pos (2 ^ (depth - 1)))) || int_lt (pos (2 ^ (depth - 1) - 1)) (rounded depth sum)

-- sums of n channels from `channel` on at sample i of a block
abbrev pub frame_sums : (ℕ → ℕ → ℤ) → (i channel n : ℕ) → List ℤ
frame_sums sums i channel zero = []
frame_sums sums i channel (suc n) = sums i channel ∷ frame_sums sums i (suc channel) n

-- interleaved sums of n sample frames from sample i on
abbrev pub block_sums : (ℕ → ℕ → ℤ) → (channels i n : ℕ) → List ℤ
block_sums sums channels i zero = []
block_sums sums channels i (suc n) = frame_sums sums i 1 channels ++ block_sums sums channels (suc i) n

-- one of the interleaved sums on this channel, counted from 0, is clipped
pub record IsClippedOn (depth channels : ℕ) (sums : List ℤ) (channel : ℕ) : Type 0 where
  pub is_channel : channel < channels
  pub frame : ℕ
  pub within : frame * channels + channel < length sums
  pub clipped : IsTrue (is_clipped depth (slice_index_or sums (frame * channels + channel) (pos 0)))

-- greatest distance of a clipped sum from zero, or 0 if none is clipped
abbrev pub loudest : ℕ → List ℤ → ℕ
loudest depth [] = 0
loudest depth (sum ∷ sums) = max (if is_clipped depth sum then unsigned_abs sum else 0) (loudest depth sums)

-- the tally has the number, the first index, the peak and the channels of the clipped sums
pub record IsClippingOf (depth channels : ℕ) (sums : List ℤ) (clips : Clips) : Type 0 where
  pub samples : clips.samples ≡ length (filter (is_clipped depth) sums)
  pub first : clips.first ≡ position (is_clipped depth) sums
  pub peak : clips.peak ≡ loudest depth sums
  pub on_channels : (channel : ℕ) → IsBitSet clips.channels channel ↔ IsClippedOn depth channels sums channel
