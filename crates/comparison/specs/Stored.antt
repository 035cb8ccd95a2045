-- Equality of stored samples, and its effect on the sums of two blocks.
use Rattle.std.specs.Prelude.{◌≡◌, ℕ, ◌+◌, ◌-◌, ◌*◌, ◌/◌, ◌^◌, ◌<◌, ◌≤◌, ℤ, pos, neg_ℤ, ◌≤ℤ◌, List, Some, length, map, slice_get, slice_index_or}
use Rattle.sound_terms.specs.declared.block.Stretch.{Stretch}
use Rattle.sound_terms.specs.declared.block.Instruction.{Instruction}
use Rattle.sound_terms.specs.Blocks.{BlockState, IsFull, PlaysFull, executed}
use Rattle.sound_terms.specs.Depth.{bits_of}
use Rattle.sound_terms.specs.Mix.{Reading, full_scale}
use Rattle.sound_terms.specs.Sounds.{SoundFacts}
use Rattle.pcm.specs.Samples.{samples_in}
use Rattle.comparison.specs.declared.counterparts.Counterparts.{Counterparts}
use Rattle.comparison.specs.declared.matches.Match.{Match}
use Rattle.comparison.specs.Matched.{LieInBoth}

-- the first n stored samples of this depth, at full scale
abbrev pub full_samples : (depth n : ℕ) → List ℕ → List ℤ
full_samples depth n bytes = map (full_scale depth) (samples_in depth n bytes)

-- the samples of both depths are equal at full scale
abbrev pub SoundSame : Counterparts → Type 0
SoundSame pair =
    full_samples (bits_of pair.depth) pair.count pair.bytes.now ≡ full_samples (bits_of pair.other) pair.count pair.others.now

-- the bytes have the length of whole sample frames of an open file, from this one on
pub record AreFrames (sounds : List SoundFacts) (file from : ℕ) (bytes : List ℕ) : Type 0 where
  pub facts : SoundFacts
  pub there : slice_get sounds file ≡ Some facts
  pub n : ℕ
  pub whole : length bytes ≡ n * facts.channels * (bits_of facts.depth / 8)
  pub inside : from + n ≤ facts.frames

-- the bytes are the n sample frames of a file from this one on, and all samples are within full scale
abbrev pub HoldFrames : Reading → (channels depth file from n : ℕ) → List ℕ → Type 0
HoldFrames reading channels depth file from n bytes = (channel i : ℕ) → 1 ≤ channel → channel ≤ channels → i < n
    → (reading file channel (from + i)
    ≡ slice_index_or (full_samples depth (n * channels) bytes) (i * channels + (channel - 1)) (pos 0))
    × (neg_ℤ (pos (2 ^ 47)) ≤ℤ reading file channel (from + i))
    × (reading file channel (from + i) ≤ℤ pos (2 ^ 47))

-- the ranges of two stretches that cover the same samples and channels of a block, with all channels of their files
pub record IsMatchOf (sounds others : List SoundFacts) (stretch part : Stretch) (found : Match) : Type 0 where
  pub layout : part ≡ record stretch { file = part.file; frame = part.frame }
  pub from_one : 1 ≤ stretch.first
  pub file : found.file ≡ stretch.file
  pub frame : found.frame ≡ stretch.frame
  pub end : found.end ≡ stretch.frame + stretch.length
  pub other_file : found.other_file ≡ part.file
  pub other_frame : found.other_frame ≡ part.frame
  pub wide : stretch.first + stretch.width ≤ found.channels + 1
  pub lies : LieInBoth sounds others found

-- two stretches of the same samples and channels of a block play equal samples, all within full scale
pub record PlayAlike (reading other : Reading) (stretch part : Stretch) : Type 0 where
  pub layout : part ≡ record stretch { file = part.file; frame = part.frame }
  pub samples : (j i : ℕ) → j < stretch.width → i < stretch.length
      → reading stretch.file (stretch.first + j) (stretch.frame + i)
      ≡ other part.file (part.first + j) (part.frame + i)
  pub full : IsFull reading stretch
  pub other_full : IsFull other part

-- two instructions turn equal sums into equal sums, and play only samples within full scale
pub record AddAlike (reading other : Reading) (line counterpart : Instruction) : Type 0 where
  pub sums : (channels : ℕ) (before after : BlockState)
      → ((i channel : ℕ) → before.sums i channel ≡ after.sums i channel) → (i channel : ℕ)
      → (executed reading channels line before).sums i channel
      ≡ (executed other channels counterpart after).sums i channel
  pub full : PlaysFull reading line
  pub other_full : PlaysFull other counterpart

-- two programs of equal length whose instructions add the same, pair by pair
pub record SumAlike (reading other : Reading) (lines counterparts : List Instruction) : Type 0 where
  pub alike_many : length lines ≡ length counterparts
  pub each : (k : ℕ) (d : Instruction) → k < length lines
      → AddAlike reading other (slice_index_or lines k d) (slice_index_or counterparts k d)
