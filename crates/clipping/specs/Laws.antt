-- Laws of interleaved sums.
use Rattle.std.specs.Prelude.{◌≡◌, ℕ, zero, suc, ◌+◌, ◌*◌, ◌<◌, ◌≤◌, ℤ, ◌++◌, length, refl, false, pos, List}
use Rattle.std.specs.List.{All}
use Rattle.std.proofs.Common.{sym, ap, ◌∙◌, arith, length-append}
use Rattle.std.proofs.lemmas.List.{append_assoc}
use Rattle.std.proofs.lemmas.List.Elements.{All-append, All-cons, All-nil}
use Rattle.sound_terms.specs.declared.Depth.{Depth}
use Rattle.sound_terms.specs.declared.Depth.TheVariants.{Sixteen, TwentyFour, ThirtyTwo}
use Rattle.sound_terms.specs.Depth.{bits_of}
use Rattle.clipping.specs.Clips.{block_sums, frame_sums, is_clipped}

module _ (sums : ℕ → ℕ → ℤ) where
  -- sums of n + m sample frames are the sums of the first n and of the next m
  pub block_sums-append : (channels i n m : ℕ) → block_sums sums channels i (n + m)
      ≡ block_sums sums channels i n ++ block_sums sums channels (i + n) m
  block_sums-append channels i zero m =
      let none : 0 + m ≡ m = omega arith in
      let here : i + 0 ≡ i = omega arith in
      rw (none, here) refl
  block_sums-append channels i (suc n) m =
      let more : suc n + m ≡ suc (n + m) = omega arith in
      let place : i + suc n ≡ suc i + n = omega arith in
      rw (more, place, block_sums-append channels (suc i) n m) (sym (append_assoc (frame_sums sums i 1 channels) _ _))

  pub length-frame_sums : (i channel n : ℕ) → length (frame_sums sums i channel n) ≡ n
  length-frame_sums i channel zero = refl
  length-frame_sums i channel (suc n) = omega (arith, length-frame_sums i (suc channel) n)

  pub length-block_sums : (channels i n : ℕ) → length (block_sums sums channels i n) ≡ n * channels
  length-block_sums channels i zero = omega arith
  length-block_sums channels i (suc n) =
      omega (
        arith,
        length-append (frame_sums sums i 1 channels) (block_sums sums channels (suc i) n),
        length-frame_sums i 1 channels,
        length-block_sums channels (suc i) n,
      )

-- equal sums from sample i on are equal one by one
module _ (a b : ℕ → ℕ → ℤ) (shift : ℕ) where
  frame_alike : (i channel n : ℕ) → ((c : ℕ) → channel ≤ c → c < channel + n → a i c ≡ b (shift + i) c)
      → frame_sums a i channel n ≡ frame_sums b (shift + i) channel n
  frame_alike i channel zero same = refl
  frame_alike i channel (suc n) same =
      rw (
        same channel (omega arith) (omega arith),
        frame_alike i (suc channel) n (λ c low high. same c (omega arith) (omega arith)),
      ) refl

  -- the sums of `a` from i on equal the sums of `b` from shift + i on
  pub block_sums-alike : (channels i n : ℕ)
      → ((k c : ℕ) → i ≤ k → k < i + n → 1 ≤ c → c ≤ channels → a k c ≡ b (shift + k) c)
      → block_sums a channels i n ≡ block_sums b channels (shift + i) n
  block_sums-alike channels i zero same = refl
  block_sums-alike channels i (suc n) same =
      let next : shift + suc i ≡ suc (shift + i) = omega arith in
      rw (
        frame_alike i 1 channels (λ c low high. same i c (omega arith) (omega arith) low (omega arith)),
        block_sums-alike channels (suc i) n (λ k c low high. same k c (omega arith) (omega arith)),
        next,
      ) refl

-- a sum of zero is not clipped
zero_at : (depth : Depth) → is_clipped (bits_of depth) (pos 0) ≡ false
zero_at Sixteen = refl
zero_at TwentyFour = refl
zero_at ThirtyTwo = refl

pub zero_unclipped : (depth : Depth) (sums : List ℤ) → All (λ sum. sum ≡ pos 0) sums
    → All (λ sum. is_clipped (bits_of depth) sum ≡ false) sums
zero_unclipped depth sums zeros = λ k d below. ap (is_clipped (bits_of depth)) (zeros k d below) ∙ zero_at depth

-- a property of each sum of a block holds for all of them
module _ (P : ℤ → Type 0) (sums : ℕ → ℕ → ℤ) where
  all_frame : (i channel n : ℕ) → ((c : ℕ) → channel ≤ c → c < channel + n → P (sums i c))
      → All P (frame_sums sums i channel n)
  all_frame i channel zero each = All-nil P
  all_frame i channel (suc n) each =
      All-cons P (sums i channel) (frame_sums sums i (suc channel) n) (each channel (omega arith) (omega arith))
      (all_frame i (suc channel) n (λ c low high. each c (omega arith) (omega arith)))

  pub all_block : (channels i n : ℕ)
      → ((k c : ℕ) → i ≤ k → k < i + n → 1 ≤ c → c ≤ channels → P (sums k c))
      → All P (block_sums sums channels i n)
  all_block channels i zero each = All-nil P
  all_block channels i (suc n) each =
      All-append P (frame_sums sums i 1 channels) (block_sums sums channels (suc i) n)
      (all_frame i 1 channels (λ c low high. each i c (omega arith) (omega arith) low (omega arith)))
      (all_block channels (suc i) n (λ k c low high. each k c (omega arith) (omega arith)))
