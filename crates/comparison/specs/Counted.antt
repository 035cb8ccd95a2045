-- Numbers of differing samples of two projects.
use Rattle.std.specs.Prelude.{◌≡◌, ℕ, zero, suc, ◌+◌, ◌*◌, ◌<◌, ◌≤◌, min, max, ℤ, pos, List, length, slice_index_or, if◌then◌else◌}
use Rattle.std.specs.Ordering.{int_eq}
use Rattle.comparison.specs.Range.{Extent}

-- the number of differences among the first n sums
abbrev pub differing : (sums others : ℕ → ℤ) → ℕ → ℕ
differing sums others zero = 0
differing sums others (suc n) = differing sums others n + (if int_eq (sums n) (others n) then 0 else 1)

-- the number of differing samples of each channel, among n times from `from` on
abbrev pub AreCounts : (mix other : ℕ → ℕ → ℤ) → (from n : ℕ) → List ℕ → Type 0
AreCounts mix other from n counts = (k : ℕ) → k < length counts
    → slice_index_or counts k 0 ≡ differing (λ i. mix (k + 1) (from + i)) (λ i. other (k + 1) (from + i)) n

-- the number of differing samples was added to each channel's count
abbrev pub HasCounted : (mix other : ℕ → ℕ → ℤ) → (from n : ℕ) → (old new : List ℕ) → Type 0
HasCounted mix other from n old new = (k : ℕ) → k < length new → slice_index_or new k 0
    ≡ slice_index_or old k 0 + differing (λ i. mix (k + 1) (from + i)) (λ i. other (k + 1) (from + i)) n

-- no count exceeds the number of samples of a day
abbrev pub AreInDay : List ℕ → Type 0
AreInDay counts = (c : ℕ) → slice_index_or counts c 0 ≤ 4147200000

-- the sums of a channel (from 0) among the interleaved sums of a block
abbrev pub of_channel : (channels channel : ℕ) → List ℤ → ℕ → ℤ
of_channel channels channel sums i = slice_index_or sums (i * channels + channel) (pos 0)

-- the part of an extent of at most `frames` samples from a time on
abbrev pub stretch_in : Extent → (from frames : ℕ) → Extent
stretch_in extent from frames = record {
  from = max extent.from from;
  to = min extent.to (from + frames);
  channels = extent.channels;
}
