-- Samples emitted from sums.
use Rattle.std.proofs.Common.{◌≡◌, ◌⊎◌, inl, inr, ◌≤◌, ◌<◌, ℕ, zero, suc, ◌+◌, ◌-◌, ◌*◌, Bool, true, false, List, [], ◌∷◌, ◌++◌, length, map, take, get_or, refl, sym, ap, ◌∙◌, subst, arith, zero-add}
use Rattle.std.specs.Prelude.{ℤ, pos}
use Rattle.std.proofs.lemmas.List.{append-nil, append_assoc, ext_get_or, get_or-map, get_or-take, length-map, length-take-le, map-append, take_more}
use Rattle.std.proofs.Math.Nat.{mul-le-mul_right}
use Rattle.std.proofs.lemmas.Bool.{cases_lt}
use Rattle.sound_terms.specs.Mix.{full_scale, quantized}
use Rattle.sound_terms.specs.Blocks.{block_samples, frame_samples}
use Rattle.clipping.specs.Clips.{block_sums, frame_sums}
use Rattle.blockmachine.specs.Lines.{FillFrames}
use Rattle.blockmachine.specs.Sums.{AreSums, BlockSums, block_of, kept_sums}

-- the samples of a block are its sums, rounded to the depth
module _ (depth : ℕ) (sums : ℕ → ℕ → ℤ) where
  frame_mapped : (i c n : ℕ) → frame_samples depth sums i c n ≡ map (quantized depth) (frame_sums sums i c n)
  frame_mapped i c zero = refl
  frame_mapped i c (suc n) = ap (λ (l : List ℤ). quantized depth (sums i c) ∷ l) (frame_mapped i (suc c) n)

  pub block_mapped : (channels i n : ℕ)
      → block_samples depth sums channels i n ≡ map (quantized depth) (block_sums sums channels i n)
  block_mapped channels i zero = refl
  block_mapped channels i (suc n) =
      rw (frame_mapped i 1 channels, block_mapped channels (suc i) n)
      (sym (map-append (quantized depth) (frame_sums sums i 1 channels) (block_sums sums channels (suc i) n)))

module _ (sums : ℕ → ℕ → ℤ) where
  -- one more channel
  frame_more : (i c n : ℕ) → frame_sums sums i c (n + 1) ≡ frame_sums sums i c n ++ sums i (c + n) ∷ []
  frame_more i c zero = let here : c + 0 ≡ c = omega arith in rw here refl
  frame_more i c (suc n) =
      let more : suc n + 1 ≡ suc (n + 1) = omega arith in
      let place : c + suc n ≡ suc c + n = omega arith in
      rw (more, place, frame_more i (suc c) n) refl

  -- one more sample frame
  block_more : (channels i n : ℕ) → block_sums sums channels i (n + 1)
      ≡ block_sums sums channels i n ++ frame_sums sums (i + n) 1 channels
  block_more channels i zero = let here : i + 0 ≡ i = omega arith in
      rw here (append-nil (frame_sums sums i 1 channels))
  block_more channels i (suc n) =
      let more : suc n + 1 ≡ suc (n + 1) = omega arith in
      let place : i + suc n ≡ suc i + n = omega arith in
      rw (more, place, block_more channels (suc i) n) (sym (append_assoc (frame_sums sums i 1 channels) _ _))

-- values that equal the sums one by one are the sums of the block
module _ (sums : ℕ → ℕ → ℤ) (channels frames : ℕ) (values : List ℤ) (long : frames * channels ≤ length values)
    (sum_at : (i j : ℕ) → i < frames → j < channels → sums i (1 + j) ≡ get_or values (i * channels + j) (pos 0)) where
  -- the first sums of a sample frame
  frame_taken : (i j : ℕ) → i < frames → j ≤ channels
      → take (i * channels + j) values ≡ take (i * channels) values ++ frame_sums sums i 1 j
  frame_taken i zero below on =
      let same : i * channels + 0 ≡ i * channels = omega arith in
      rw same (sym (append-nil (take (i * channels) values)))
  frame_taken i (suc j) below on =
      let row : suc i * channels ≤ frames * channels = mul-le-mul_right channels below in
      let more : i * channels + suc j ≡ i * channels + j + 1 = omega arith in
      let count : suc j ≡ j + 1 = omega arith in
      ap (λ (n : ℕ). take n values) more
      ∙ take_more values (i * channels + j) (pos 0) (omega arith)
      ∙ ap (λ (l : List ℤ). l ++ get_or values (i * channels + j) (pos 0) ∷ []) (frame_taken i j below (omega arith))
      ∙ append_assoc (take (i * channels) values) _ _
      ∙ ap (λ z. take (i * channels) values ++ (frame_sums sums i 1 j ++ z ∷ [])) (sym (sum_at i j below (omega arith)))
      ∙ ap (λ (l : List ℤ). take (i * channels) values ++ l)
      (sym (frame_more sums i 1 j) ∙ ap (frame_sums sums i 1) (sym count))

  -- the first sample frames
  pub frames_taken : (i : ℕ) → i ≤ frames → take (i * channels) values ≡ block_sums sums channels 0 i
  frames_taken zero below = let none : 0 * channels ≡ 0 = omega arith in ap (λ (n : ℕ). take n values) none
  frames_taken (suc i) below =
      let more : suc i * channels ≡ i * channels + channels = omega arith in
      let count : suc i ≡ i + 1 = omega arith in
      ap (λ (n : ℕ). take n values) more
      ∙ frame_taken i channels (omega arith) (omega arith)
      ∙ ap (λ (l : List ℤ). l ++ frame_sums sums i 1 channels) (frames_taken i (omega arith))
      ∙ ap (λ m. block_sums sums channels 0 i ++ frame_sums sums m 1 channels) (sym (zero-add i))
      ∙ sym (block_more sums channels 0 i)
      ∙ ap (block_sums sums channels 0) (sym count)

-- a sample of the first frames is within the capacity
pub near : (i frames few most channels j : ℕ) → j < channels → few ≤ most → i < frames → few * channels ≡ frames * channels
    → i < most
near i frames few most channels j some small below same = by_place (cases_lt i most) where
  by_place : (i < most) ⊎ (most ≤ i) → i < most
  by_place (inl low) = low
  by_place (inr high) =
      let row : (most + 1) * channels ≤ frames * channels = mul-le-mul_right channels (omega (arith, high, below)) in
      let room : few * channels ≤ most * channels = mul-le-mul_right channels small in
      absurd (omega (arith, row, room, same, some))

-- fewer frames have no more samples
pub room : (n few most channels : ℕ) → few ≤ most → n ≡ few * channels → n ≤ most * channels
room n few most channels small is =
    let row : few * channels ≤ most * channels = mul-le-mul_right channels small in omega arith

-- both forms of storage have the same length
length-kept : (at_depth : Bool) (depth n : ℕ) (layers values : List ℤ) → length layers ≡ n → length values ≡ n
    → length (kept_sums at_depth depth layers values) ≡ n
length-kept true depth n layers values a b = length-map layers (full_scale depth) ∙ a
length-kept false depth n layers values a b = b

-- the machine stores one sum for each sample
pub each_kept : (at_depth : Bool) (depth frames channels : ℕ) (layers values : List ℤ) (kept : BlockSums)
    → block_of frames channels (kept_sums at_depth depth layers values) ≡ kept → length layers ≡ frames * channels
    → length values ≡ frames * channels → length kept.values ≡ kept.extent.frames * kept.extent.channels
each_kept at_depth depth frames channels layers values kept view a b =
    subst (λ (s : BlockSums). length s.values ≡ s.extent.frames * s.extent.channels) view
    (length-kept at_depth depth (frames * channels) layers values a b)

-- there is a sum for each sample to be emitted
pub enough : (frames channels sums : ℕ) (values out : List ℤ) (kept : BlockSums) → block_of frames channels values ≡ kept
    → FillFrames kept.extent out → sums ≡ frames * channels → length out ≤ sums
enough frames channels sums values out kept view fills long =
    let same = ap (λ (s : BlockSums). s.extent.frames * s.extent.channels) view in
    let most = room (length out) fills.0 kept.extent.frames kept.extent.channels fills.1 fills.2 in
    omega (arith, most, long, same)

-- the first frames of the stored sums are the sums of the block
pub block_taken : (kept : BlockSums) (all : ℕ → ℕ → ℤ) → AreSums kept all
    → length kept.values ≡ kept.extent.frames * kept.extent.channels → (frames given : ℕ) → given ≤ kept.extent.frames
    → frames * kept.extent.channels ≡ given * kept.extent.channels
    → take (frames * kept.extent.channels) kept.values ≡ block_sums all kept.extent.channels 0 frames
block_taken kept all are whole frames given few count =
    let extent = kept.extent in
    let channels = extent.channels in
    let most = room (frames * channels) given extent.frames channels few count in
    frames_taken all channels frames kept.values (omega (arith, most, whole)) (λ i j below on.
    let same : 1 + j - 1 ≡ j = omega arith in
    sym (are i (1 + j) (near i frames given extent.frames channels j on few below (sym count))
    (omega arith) (omega (arith, on)))
    ∙ ap (λ n. get_or kept.values (i * channels + n) (pos 0)) same) frames (omega arith)

-- samples that equal the rounded sums one by one are the samples of the block
pub by_sums : (depth : ℕ) (sums : ℕ → ℕ → ℤ) (channels frames : ℕ) (out values : List ℤ)
    → values ≡ block_sums sums channels 0 frames → length out ≡ length values
    → ((k : ℕ) → k < length out → get_or out k (pos 0) ≡ quantized depth (get_or values k (pos 0)))
    → out ≡ block_samples depth sums channels 0 frames
by_sums depth sums channels frames out values are long each =
    let rounded = length-map values (quantized depth) in
    ext_get_or (pos 0) out (map (quantized depth) values) (long ∙ sym rounded)
    (λ k below. each k below ∙ sym (get_or-map (quantized depth) values k (pos 0) (pos 0) (omega (arith, below, long))))
    ∙ ap (map (quantized depth)) are ∙ sym (block_mapped depth sums channels 0 frames)

-- samples that equal the rounded stored sums one by one are the samples of the block
pub handed_out : (depth : ℕ) (all : ℕ → ℕ → ℤ) (kept : BlockSums) (frames : ℕ) (out : List ℤ) → AreSums kept all
    → length kept.values ≡ kept.extent.frames * kept.extent.channels → FillFrames kept.extent out
    → length out ≡ frames * kept.extent.channels
    → ((k : ℕ) → k < length out → get_or out k (pos 0) ≡ quantized depth (get_or kept.values k (pos 0)))
    → out ≡ block_samples depth all kept.extent.channels 0 frames
handed_out depth all kept frames out are whole fills long each =
    let n = frames * kept.extent.channels in
    let most = room (length out) fills.0 kept.extent.frames kept.extent.channels fills.1 fills.2 in
    let taken = block_taken kept all are whole frames fills.0 fills.1 (sym long ∙ fills.2) in
    by_sums depth all kept.extent.channels frames out (take n kept.values) taken
    (long ∙ sym (length-take-le n kept.values (omega (arith, most, whole, long))))
    (λ k below. each k below
    ∙ ap (quantized depth) (sym (get_or-take n kept.values k (pos 0) (omega (arith, below, long)))))

-- samples emitted one by one from sums kept at a depth are all the rounded sums
pub each_handed_out : (depth : ℕ) (sums out : List ℤ) → length out ≡ length sums
    → ((k : ℕ) → k < length out
    → get_or out k (pos 0) ≡ quantized depth (full_scale depth (get_or sums k (pos 0))))
    → out ≡ map (quantized depth) (map (full_scale depth) sums)
each_handed_out depth sums out long each =
    let full = length-map sums (full_scale depth) in
    let rounded = length-map (map (full_scale depth) sums) (quantized depth) in
    ext_get_or (pos 0) out (map (quantized depth) (map (full_scale depth) sums)) (long ∙ sym (rounded ∙ full))
    (λ k below. each k below
    ∙ ap (quantized depth) (sym (get_or-map (full_scale depth) sums k (pos 0) (pos 0) (omega (arith, below, long))))
    ∙ sym (get_or-map (quantized depth) (map (full_scale depth) sums) k (pos 0) (pos 0)
    (omega (arith, below, long, full))))
