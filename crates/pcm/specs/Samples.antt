-- Samples of RIFF WAVE PCM: two's complement in depth / 8 bytes, little endian.
use Rattle.std.specs.Prelude.{ℕ, zero, suc, ◌-◌, ◌/◌, ◌^◌, ℤ, pos, neg_ℤ, ◌+ℤ◌, ◌≤ℤ◌, ◌<ℤ◌, List, [], ◌∷◌, drop}
use Rattle.sound_terms.specs.Waves.{sample_of}

-- the first n samples in the bytes
abbrev pub samples_in : ℕ → ℕ → List ℕ → List ℤ
samples_in depth zero bytes = []
samples_in depth (suc n) bytes = sample_of depth bytes ∷ samples_in depth n (drop (depth / 8) bytes)

-- the sample is in the range of the depth
abbrev pub FitsDepth : ℕ → ℤ → Type 0
FitsDepth depth sample = (neg_ℤ (pos (2 ^ (depth - 1))) ≤ℤ sample) × (sample <ℤ pos (2 ^ (depth - 1)))

-- sums with one sample added to each, as long as there are samples; further sums are unchanged
abbrev pub summed : (sums samples : List ℤ) → List ℤ
summed [] samples = []
summed (sum ∷ sums) [] = sum ∷ sums
summed (sum ∷ sums) (sample ∷ samples) = (sum +ℤ sample) ∷ summed sums samples
