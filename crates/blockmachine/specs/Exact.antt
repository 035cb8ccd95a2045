-- The exact sums of a block, as emitted.
use Rattle.std.specs.Prelude.{◌≡◌, ℕ, ◌+◌, ◌-◌, ◌*◌, ◌<◌, ◌≤◌, ℤ, pos, List, slice_index_or}

-- the values are the sums of the first sample frames, interleaved
abbrev pub AreSumsOf : (frames channels : ℕ) → List ℤ → (ℕ → ℕ → ℤ) → Type 0
AreSumsOf frames channels values sums = (i channel : ℕ) → i < frames → 1 ≤ channel → channel ≤ channels
    → slice_index_or values (i * channels + (channel - 1)) (pos 0) ≡ sums i channel
