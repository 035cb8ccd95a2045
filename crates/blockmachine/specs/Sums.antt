-- The sums of a block as the machine stores them, interleaved.
use Rattle.std.specs.Prelude.{◌≡◌, ◌⊎◌, ℕ, ◌+◌, ◌-◌, ◌*◌, ◌<◌, ◌≤◌, Bool, true, ℤ, pos, ◌+ℤ◌, List, All, IsTrue, length, map, slice_index_or, if◌then◌else◌}
use Rattle.sound_terms.specs.declared.Depth.{Depth}
use Rattle.sound_terms.specs.declared.block.Stretch.{Stretch}
use Rattle.sound_terms.specs.declared.piece.Shape.{Shape}
use Rattle.sound_terms.specs.declared.piece.Shape.TheVariants.{Flat}
use Rattle.sound_terms.specs.Depth.{bits_of}
use Rattle.sound_terms.specs.Mix.{Reading, full_scale, quantized, share_of}
use Rattle.sound_terms.specs.Blocks.{FitsBlock, held, sums_with}
use Rattle.pcm.specs.Samples.{FitsDepth}
use Rattle.soundlaw.specs.Sums.{IsWithin}
use Rattle.blockmachine.specs.Playing.{Plays}

-- the capacity of a machine in sample frames and channels
pub record Extent : Type 0 where
  pub frames : ℕ
  pub channels : ℕ

-- the sums of a block, interleaved
pub record BlockSums : Type 0 where
  pub extent : Extent
  pub values : List ℤ

-- a block of these sums
abbrev pub block_of : (frames channels : ℕ) → List ℤ → BlockSums
block_of frames channels values = record { extent = record { frames = frames; channels = channels }; values = values }

-- the stored sums equal the function `sums` of sample and channel
abbrev pub AreSums : BlockSums → (ℕ → ℕ → ℤ) → Type 0
AreSums kept sums = (i channel : ℕ) → i < kept.extent.frames → 1 ≤ channel → channel ≤ kept.extent.channels
    → slice_index_or kept.values (i * kept.extent.channels + (channel - 1)) (pos 0) ≡ sums i channel

-- sums kept at a depth, converted to full scale
abbrev pub widened : (depth : ℕ) → List ℤ → List ℤ
widened depth sums = map (full_scale depth) sums

-- the sums at full scale, from either form of storage
abbrev pub kept_sums : (at_depth : Bool) → (depth : ℕ) → (layers values : List ℤ) → List ℤ
kept_sums at_depth depth layers values = if at_depth then widened depth layers else values

-- both forms of storage have the same length, and all sums are zero if nothing was added
pub record CanWiden (at_depth is_clear : Bool) (depth : ℕ) (layers values : List ℤ) : Type 0 where
  pub each : length layers ≡ length values
  pub clear : IsTrue is_clear → All (IsWithin 0) (kept_sums at_depth depth layers values)

-- no sum exceeds `most` samples at full scale, or `most - 1` from index k on
abbrev pub AreFew : (most k : ℕ) → List ℤ → Type 0
AreFew most k sums = All (IsWithin most) sums
    × ((n : ℕ) → k ≤ n → n < length sums → IsWithin (most - 1) (slice_index_or sums n (pos 0)))

-- `more` bounds the additions after a stretch at `at`, if `most` bounded them before and `most - 1` from `fewer_from`
-- on
abbrev pub Counts : (most fewer_from at more : ℕ) → Type 0
Counts most fewer_from at more = (more ≡ most + 1) ⊎ ((more ≡ most) × (1 ≤ most) × (fewer_from ≤ at))

-- the maximum number of samples whose sum can't overflow 64 bits
abbrev pub few_additions : ℕ
few_additions = 32767

-- one sample for each sum; if the sums are small, none exceeds `most` samples at full scale
pub record TakeSamples (samples most : ℕ) (is_small : Bool) (kept full : List ℤ) : Type 0 where
  pub each : samples ≡ length kept
  pub small : IsTrue is_small → All (IsWithin most) full

-- the stretch is within the block; if the sums are small, none exceeds `most` samples at full scale
pub record TakeStretch (frames channels most : ℕ) (is_small : Bool) (stretch : Stretch) (kept full : List ℤ)
    : Type 0 where
  pub whole : length kept ≡ frames * channels
  pub inside : FitsBlock frames channels stretch
  pub small : IsTrue is_small → All (IsWithin most) full

-- the stretch is within the block, and there is room for its samples with all `source` channels of the file
pub record TakeStored (extent : Extent) (stretch : Stretch) (source samples : ℕ) : Type 0 where
  pub inside : FitsBlock extent.frames extent.channels stretch
  pub room : stretch.length * source ≤ samples

-- rows of the given width can be added to the sums, and unchanged only if the shape is flat
pub record TakeRows (frames channels : ℕ) (is_flat is_small : Bool) (width : ℕ) (stretch : Stretch) (shape : Shape)
    (kept : List ℤ) : Type 0 where
  pub flat : IsTrue is_flat → shape ≡ Flat
  pub wide : width ≡ stretch.width
  pub takes : TakeStretch frames channels 32766 is_small stretch kept kept

-- an unfaded stretch of all channels of its file on all channels of the block, at no more than `depth`, at most 24
-- bits
pub record IsLayer (stretch : Stretch) (shape : Shape) (source channels bits depth : ℕ) : Type 0 where
  pub flat : shape ≡ Flat
  pub wide : stretch.width ≡ channels
  pub alike : source ≡ channels
  pub no_deeper : bits ≤ depth
  pub shallow : depth ≤ 24

-- a sample can be added to a sum of few samples
pub record TakeSample (source depth : ℕ) (sum sample : ℤ) : Type 0 where
  pub small : IsWithin 254 (full_scale depth sum)
  pub fit : FitsDepth source sample

-- a layer can be added to sums of few samples
pub record TakeLayer (frames channels : ℕ) (stretch : Stretch) (shape : Shape) (source bits depth : ℕ)
    (kept : List ℤ) : Type 0 where
  pub layer : IsLayer stretch shape source channels bits depth
  pub takes : TakeStretch frames channels 254 true stretch kept (widened depth kept)

-- the given share of one sample was added to each of the first n sums, and the others are unchanged
abbrev pub HasAddedTo : ℕ → (fraction : ℕ × ℕ) → (depth : ℕ) → (samples old new : List ℤ) → Type 0
HasAddedTo n fraction depth samples old new =
    ((k : ℕ) → k < n → slice_index_or new k (pos 0) ≡ held (slice_index_or old k (pos 0)
    +ℤ share_of (full_scale depth (slice_index_or samples k (pos 0))) fraction))
    × ((k : ℕ) → n ≤ k → slice_index_or new k (pos 0) ≡ slice_index_or old k (pos 0))

-- the given share of one sample was added to every sum
abbrev pub HasAdded : (fraction : ℕ × ℕ) → (depth : ℕ) → (samples old new : List ℤ) → Type 0
HasAdded fraction depth samples old new = (k : ℕ) → k < length new
    → slice_index_or new k (pos 0) ≡ held (slice_index_or old k (pos 0)
    +ℤ share_of (full_scale depth (slice_index_or samples k (pos 0))) fraction)

-- the samples of a stretch were added under a shape
abbrev pub HasPlayed : Stretch → Shape → (source depth : ℕ) → (frames : List ℤ) → (old new : BlockSums) → Type 0
HasPlayed stretch shape source depth frames old new =
    (reading : Reading) → Plays reading stretch source depth frames → (before : ℕ → ℕ → ℤ) → AreSums old before
    → AreSums new (sums_with reading stretch shape before)

-- every sum is zero
abbrev pub AreZero : List ℤ → Type 0
AreZero sums = (k : ℕ) → slice_index_or sums k (pos 0) ≡ pos 0

-- the samples are the first sums, rounded and clipped to a depth
abbrev pub Emits : Depth → (sums samples : List ℤ) → Type 0
Emits depth sums samples = (k : ℕ) → k < length samples
    → slice_index_or samples k (pos 0) ≡ quantized (bits_of depth) (slice_index_or sums k (pos 0))

-- the samples are the first sums, kept at one depth, rounded and clipped to another
abbrev pub EmitsAt : (kept depth : Depth) → (sums samples : List ℤ) → Type 0
EmitsAt kept depth sums samples = (k : ℕ) → k < length samples → slice_index_or samples k (pos 0)
    ≡ quantized (bits_of depth) (full_scale (bits_of kept) (slice_index_or sums k (pos 0)))
