-- A block filled by one file: its output, and the absence of clipping.
use Rattle.std.proofs.Common.{◌≡◌, ◌≤◌, ◌<◌, ℕ, zero, suc, ◌+◌, ◌-◌, ◌*◌, ◌/◌, ◌%◌, ◌^◌, true, false, All, List, [], ◌∷◌, ◌++◌, length, get_or, refl, sym, ap, ◌∙◌, arith, zero-add}
use Rattle.std.specs.Prelude.{ℤ, pos, neg_ℤ, ◌+ℤ◌, ◌||◌, int_lt, nat_le, nat_lt}
use Rattle.std.specs.Int.{saturate_to_bits}
use Rattle.std.proofs.lemmas.Bool.Decides.{nat_tests}
use Rattle.std.proofs.lemmas.Int.{ints}
use Rattle.std.proofs.lemmas.List.{get_or-append_right, get_or_append_left}
use Rattle.std.proofs.Math.Nat.{div-add-mod, lt_of_mul-lt-mul_left, mul-le-mul_right, mul-zero}
use Rattle.sound_terms.specs.declared.Depth.{Depth}
use Rattle.sound_terms.specs.declared.Depth.TheVariants.{Sixteen, TwentyFour, ThirtyTwo}
use Rattle.sound_terms.specs.declared.block.Stretch.{Stretch}
use Rattle.sound_terms.specs.declared.block.Instruction.TheVariants.{Start, Emit}
use Rattle.sound_terms.specs.declared.piece.Shape.{Shape}
use Rattle.sound_terms.specs.declared.piece.Shape.TheVariants.{Flat, Rise, Fall}
use Rattle.sound_terms.specs.Depth.{bits_of}
use Rattle.sound_terms.specs.Groups.{IsRamp, fraction_of}
use Rattle.sound_terms.specs.Mix.{Reading, full_scale, quantized, share_of}
use Rattle.sound_terms.specs.Blocks.{BlockState, adding, block_samples, executed_all, held, sums_with}
use Rattle.sound_terms.specs.BlockLaws.{executed-adding}
use Rattle.clipping.specs.Clips.{block_sums, frame_sums, is_clipped}
use Rattle.clipping.specs.Laws.{all_block, length-block_sums, length-frame_sums}
use Rattle.pcm.specs.Samples.{FitsDepth}
use Rattle.soundlaw.specs.Laws.{floor_whole, kept_inside, share_fits}
use Rattle.blockmachine.specs.Alone.{filling}
use Rattle.blockmachine.specs.Fading.{HasFaded}
use Rattle.blockmachine.specs.Playing.{Plays}
use Rattle.blockmachine.specs.Sums.{AreSums, block_of, widened}
use Rattle.blockmachine.proofs.Added.{flat_share}
use Rattle.blockmachine.proofs.AtDepth.{get_or-widened}
use Rattle.soundlaw.specs.SumLaws.{held_few, share_within}
use Rattle.blockmachine.proofs.Emitted.{by_sums}
use Rattle.blockmachine.proofs.Full.{full_sample}

-- a sample at full scale, rounded to its own depth, is unchanged
same_depth : (depth : Depth) (x : ℤ) → FitsDepth (bits_of depth) x
    → quantized (bits_of depth) (full_scale (bits_of depth) x) ≡ x
same_depth Sixteen x fits =
    ap (saturate_to_bits 15) (floor_whole x (2 ^ 31) (2 ^ 32) (omega arith)) ∙ kept_inside 15 x fits.0 fits.1
same_depth TwentyFour x fits =
    ap (saturate_to_bits 23) (floor_whole x (2 ^ 23) (2 ^ 24) (omega arith)) ∙ kept_inside 23 x fits.0 fits.1
same_depth ThirtyTwo x fits =
    ap (saturate_to_bits 31) (floor_whole x (2 ^ 15) (2 ^ 16) (omega arith)) ∙ kept_inside 31 x fits.0 fits.1

-- a sample within its depth isn't clipped
within_15 : (r : ℤ) → FitsDepth 16 r → (int_lt r (neg_ℤ (pos (2 ^ 15))) || int_lt (pos (2 ^ 15 - 1)) r) ≡ false
within_15 r fits = grind (arith, ints, nat_tests)

within_23 : (r : ℤ) → FitsDepth 24 r → (int_lt r (neg_ℤ (pos (2 ^ 23))) || int_lt (pos (2 ^ 23 - 1)) r) ≡ false
within_23 r fits = grind (arith, ints, nat_tests)

within_31 : (r : ℤ) → FitsDepth 32 r → (int_lt r (neg_ℤ (pos (2 ^ 31))) || int_lt (pos (2 ^ 31 - 1)) r) ≡ false
within_31 r fits = grind (arith, ints, nat_tests)

share_unclipped : (depth : Depth) (x : ℤ) (num den : ℕ) → FitsDepth (bits_of depth) x → num ≤ den → 0 < den
    → is_clipped (bits_of depth) (share_of (full_scale (bits_of depth) x) (num, den)) ≡ false
share_unclipped Sixteen x num den fits le some = within_15 _ (share_fits Sixteen x num den fits le some)
share_unclipped TwentyFour x num den fits le some = within_23 _ (share_fits TwentyFour x num den fits le some)
share_unclipped ThirtyTwo x num den fits le some = within_31 _ (share_fits ThirtyTwo x num den fits le some)

-- the gain of a ramp is at most one
some_fraction : (shape : Shape) (n i : ℕ) → IsRamp shape n → i < n
    → ((fraction_of shape i).0 ≤ (fraction_of shape i).1) × (0 < (fraction_of shape i).1)
some_fraction Flat n i ramp below = (omega arith, omega arith)
some_fraction (Rise offset den) n i ramp below = (omega (arith, ramp.0), omega (arith, ramp.0))
some_fraction (Fall offset den) n i ramp below = (omega (arith, ramp.0), omega (arith, ramp.0))

some_channels : (frames channels k : ℕ) → k < frames * channels → 0 < channels
some_channels frames zero k below = absurd (omega (arith, below, mul-zero frames))
some_channels frames (suc channels) k below = omega arith

none_more : (z : ℤ) → pos 0 +ℤ z ≡ z
none_more z = omega (arith, ints)

-- a sum of a block by its index
module _ (sums : ℕ → ℕ → ℤ) (d : ℤ) where
  frame_at : (i channel n j : ℕ) → j < n → get_or (frame_sums sums i channel n) j d ≡ sums i (channel + j)
  frame_at i channel zero j below = absurd (omega (arith, below))
  frame_at i channel (suc n) zero below = ap (sums i) (omega arith)
  frame_at i channel (suc n) (suc j) below =
      frame_at i (suc channel) n j (omega (arith, below)) ∙ ap (sums i) (omega arith)

  block_at : (channels i n k j : ℕ) → k < n → j < channels
      → get_or (block_sums sums channels i n) (k * channels + j) d ≡ sums (i + k) (1 + j)
  block_at channels i zero k j below on = absurd (omega (arith, below))
  block_at channels i (suc n) zero j below on =
      let place : 0 * channels + j ≡ j = omega arith in
      let here : i ≡ i + 0 = omega arith in
      ap (λ m. get_or (block_sums sums channels i (suc n)) m d) place
      ∙ get_or_append_left (frame_sums sums i 1 channels) (block_sums sums channels (suc i) n) d j
      (omega (arith, on, length-frame_sums sums i 1 channels))
      ∙ frame_at i 1 channels j on ∙ ap (λ m. sums m (1 + j)) here
  block_at channels i (suc n) (suc k) j below on =
      let place : suc k * channels + j - channels ≡ k * channels + j = omega arith in
      let here : suc i + k ≡ i + suc k = omega arith in
      get_or-append_right (frame_sums sums i 1 channels) (block_sums sums channels (suc i) n) channels
      (suc k * channels + j) d
      (length-frame_sums sums i 1 channels) (omega arith)
      ∙ ap (λ m. get_or (block_sums sums channels (suc i) n) m d) place
      ∙ block_at channels (suc i) n k j (omega (arith, below)) on ∙ ap (λ m. sums m (1 + j)) here

-- the effect of a program with one stretch
pub alone_executed : (reading : Reading) (channels frames : ℕ) (stretch : Stretch) (shape : Shape) (depth : Depth)
    (start : BlockState)
    → executed_all reading channels (Start frames ∷ ((adding stretch shape ∷ []) ++ Emit depth ∷ [])) start
    ≡ executed_all reading channels (Emit depth ∷ []) (record start {
      frames = frames;
      sums = sums_with reading stretch shape (λ i channel. pos 0);
    })
alone_executed reading channels frames stretch shape depth start =
    ap (executed_all reading channels (Emit depth ∷ []))
    (executed-adding reading channels stretch shape
    (record start { frames = frames; sums = λ i channel. pos 0 }))

module _ (reading : Reading) (file frame frames channels : ℕ) (depth : Depth) (shape : Shape) (stored : List ℤ)
    (plays : Plays reading (filling file frame frames channels) channels (bits_of depth) stored)
    (fit : All (FitsDepth (bits_of depth)) stored) (long : length stored ≡ frames * channels)
    (ramp : IsRamp shape frames)
  where
    abbrev sums : ℕ → ℕ → ℤ
    sums = sums_with reading (filling file frame frames channels) shape (λ i channel. pos 0)

    abbrev bits : ℕ
    bits = bits_of depth

    abbrev share : (i k : ℕ) → ℤ
    share i k = share_of (full_scale bits (get_or stored k (pos 0))) (fraction_of shape i)

    -- a sum of this program
    sum_at : (i j : ℕ) → i < frames → j < channels → sums i (1 + j) ≡ share i (i * channels + j)
    sum_at i j below on =
        let low : nat_le 1 (1 + j) ≡ true = grind (arith, nat_tests) in
        let high : nat_lt (1 + j) (1 + channels) ≡ true = grind (arith, nat_tests) in
        let begun : nat_le 0 i ≡ true = grind (arith, nat_tests) in
        let ends : nat_lt i (0 + frames) ≡ true = grind (arith, nat_tests) in
        let row : suc i * channels ≤ frames * channels = mul-le-mul_right channels below in
        let within : i * channels + j < length stored = omega (arith, row, on, long) in
        let channel : 1 + (1 + j - 1) ≡ 1 + j = omega arith in
        let place : i - 0 ≡ i = omega arith in
        let same : 1 - 1 + j ≡ j = omega arith in
        let part = some_fraction shape frames i ramp below in
        let x = get_or stored (i * channels + j) (pos 0) in
        let full = full_sample depth x (fit (i * channels + j) (pos 0) within) in
        let small = share_within (full_scale bits x) (fraction_of shape i).0 (fraction_of shape i).1
        full part.0 part.1 in
        rw (low, high, begun, ends, channel, place)
        (ap (λ z. held (pos 0 +ℤ share_of z (fraction_of shape i)))
        (sym (plays i j below on)
        ∙ ap (λ m. full_scale bits (get_or stored (i * channels + m) (pos 0))) same)
        ∙ ap held (none_more (share i (i * channels + j)))
        ∙ held_few 1 _ (omega arith) small)

    -- the sample frame and the channel of a sample
    frame_of : (k : ℕ) → k < frames * channels
        → (k / channels < frames) × ((k % channels < channels) × (k / channels * channels + k % channels ≡ k))
    frame_of k below =
        let some : 0 < channels = some_channels frames channels k below in
        let parts = div-add-mod k channels in
        let rest : k % channels < channels = omega (arith, some) in
        let inside : channels * (k / channels) < channels * frames = omega (arith, parts, below) in
        (lt_of_mul-lt-mul_left channels inside, (rest, omega (arith, parts)))

    -- the faded samples are the output of the block
    pub fades_itself_out : (out : List ℤ) → length out ≡ length stored → HasFaded shape channels bits stored out
        → out ≡ block_samples bits sums channels 0 frames
    fades_itself_out out whole faded =
        let each = length-block_sums sums channels 0 frames in
        by_sums bits sums channels frames out (block_sums sums channels 0 frames) refl
        (omega (arith, whole, long, each))
        (λ k below.
        let parts = frame_of k (omega (arith, below, whole, long)) in
        let i = k / channels in
        let j = k % channels in
        let there : k ≡ i * channels + j = sym parts.1.1 in
        faded k (omega (arith, below, whole))
        ∙ ap (quantized bits) (ap (share i) there ∙ sym (sum_at i j parts.0 parts.1.0)
        ∙ sym (ap (λ m. get_or (block_sums sums channels 0 frames) m (pos 0)) there
        ∙ block_at sums (pos 0) channels 0 frames i j parts.0 parts.1.0 ∙ ap (λ m. sums m (1 + j)) (zero-add i))))

    -- no sum of the block is clipped
    pub fades_unclipped : All (λ sum. is_clipped bits sum ≡ false) (block_sums sums channels 0 frames)
    fades_unclipped =
        all_block (λ sum. is_clipped bits sum ≡ false) sums channels 0 frames (λ i c begun below first last.
        let j = c - 1 in
        let channel : c ≡ 1 + j = omega (arith, first) in
        let inside : i < frames = omega (arith, below) in
        let on : j < channels = omega (arith, first, last) in
        let row : suc i * channels ≤ frames * channels = mul-le-mul_right channels inside in
        let within : i * channels + j < length stored = omega (arith, row, on, long) in
        let part = some_fraction shape frames i ramp inside in
        ap (is_clipped bits) (ap (sums i) channel ∙ sum_at i j inside on)
        ∙ share_unclipped depth (get_or stored (i * channels + j) (pos 0)) (fraction_of shape i).0
        (fraction_of shape i).1 (fit (i * channels + j) (pos 0) within) part.0 part.1)

-- unfaded samples are unchanged
pub itself : (channels : ℕ) (depth : Depth) (stored : List ℤ) → All (FitsDepth (bits_of depth)) stored
    → HasFaded Flat channels (bits_of depth) stored stored
itself channels depth stored fit = λ k below.
    sym (ap (quantized (bits_of depth)) (flat_share (full_scale (bits_of depth) (get_or stored k (pos 0))))
    ∙ same_depth depth (get_or stored k (pos 0)) (fit k (pos 0) below))

-- the samples of a layer are its sums
pub layer_sums : (reading : Reading) (file frame frames channels : ℕ) (depth : Depth) (stored : List ℤ)
    → Plays reading (filling file frame frames channels) channels (bits_of depth) stored
    → All (FitsDepth (bits_of depth)) stored → length stored ≡ frames * channels
    → AreSums (block_of frames channels (widened (bits_of depth) stored))
    (sums_with reading (filling file frame frames channels) Flat (λ i channel. pos 0))
layer_sums reading file frame frames channels depth stored plays fit long = λ i channel near low high.
    let j = channel - 1 in
    let is : channel ≡ 1 + j = omega (arith, low) in
    let on : j < channels = omega (arith, low, high) in
    let row : suc i * channels ≤ frames * channels = mul-le-mul_right channels near in
    let sums : ℕ → ℕ → ℤ = sums_with reading (filling file frame frames channels) Flat (λ i channel. pos 0) in
    get_or-widened (bits_of depth) stored (i * channels + j) (omega (arith, row, on, long))
    ∙ sym (ap (sums i) is
    ∙ sum_at reading file frame frames channels depth Flat stored plays fit long tt i j near on
    ∙ flat_share (full_scale (bits_of depth) (get_or stored (i * channels + j) (pos 0))))
