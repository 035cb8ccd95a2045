-- Sums kept at the depth of their block.
use Rattle.std.proofs.Common.{◌≡◌, ◌⊎◌, inl, inr, ℕ, suc, All, ◌+◌, ◌-◌, ◌*◌, ◌^◌, ◌<◌, ◌≤◌, List, ◌++◌, length, map, take, drop, set, get_or, refl, sym, ap, ◌∙◌, subst, arith, length-append}
use Rattle.std.specs.Prelude.{ℤ, pos, negsuc, ◌+ℤ◌, ◌*ℤ◌}
use Rattle.std.specs.Int.{saturate_to_bits}
use Rattle.std.proofs.lemmas.Int.{ints}
use Rattle.std.proofs.lemmas.Bool.{cases_lt}
use Rattle.std.proofs.lemmas.List.{drop-map, ext_get_or, get_or_default, get_or-map, get_or-set_other, get_or-set_same, get_or-take, get_or_append_left, length-map, length-take-le, map-append, take-map}
use Rattle.std.proofs.Math.Nat.{mul-le-mul_right}
use Rattle.std.proofs.Math.IntN.{pos-*ℤ-pos}
use borrow.Rule.Slice.PartMut.{post_of, put_mid}
use mir.Syntax.{w32}
use mir.Val.{SFits}
use Rattle.sound_terms.specs.declared.Depth.{Depth}
use Rattle.sound_terms.specs.declared.Depth.TheVariants.{Sixteen, TwentyFour, ThirtyTwo}
use Rattle.sound_terms.specs.Depth.{bits_of}
use Rattle.sound_terms.specs.Mix.{full_scale, quantized}
use Rattle.sound_terms.specs.Blocks.{held}
use Rattle.pcm.specs.Samples.{FitsDepth}
use Rattle.soundlaw.specs.Laws.{floor_whole}
use Rattle.soundlaw.specs.Sums.{IsWithin}
use Rattle.blockmachine.specs.Sums.{AreFew, AreSums, AreZero, block_of, widened}
use Rattle.soundlaw.specs.SumLaws.{held_few, within_add}
use Rattle.blockmachine.proofs.Full.{full_sample}

-- ---- offsets

pub get_or-widened : (depth : ℕ) (sums : List ℤ) (k : ℕ) → k < length sums
    → get_or (widened depth sums) k (pos 0) ≡ full_scale depth (get_or sums k (pos 0))
get_or-widened depth sums k below = get_or-map (full_scale depth) sums k (pos 0) (pos 0) below

pub widened-part : (depth a k : ℕ) (sums : List ℤ)
    → widened depth (take k (drop a sums)) ≡ take k (drop a (widened depth sums))
widened-part depth a k sums =
    sym (ap (λ (l : List ℤ). take k l) (drop-map (full_scale depth) a sums)
    ∙ take-map (full_scale depth) k (drop a sums))

pub widened-put : (depth a k : ℕ) (old new : List ℤ)
    → widened depth (put_mid a k old new) ≡ put_mid a k (widened depth old) (widened depth new)
widened-put depth a k old new =
    map-append (full_scale depth) (take a old) (new ++ post_of a k old)
    ∙ ap (λ (l : List ℤ). map (full_scale depth) (take a old) ++ l)
    (map-append (full_scale depth) new (post_of a k old))
    ∙ rw (
      sym (take-map (full_scale depth) a old),
      drop-map (full_scale depth) a old,
      drop-map (full_scale depth) k (drop a old),
    ) refl

full_zero : (depth : ℕ) → full_scale depth (pos 0) ≡ pos 0
full_zero depth = pos-*ℤ-pos 0 (2 ^ (48 - depth)) ∙ ap pos (omega arith)

pub length-front : (n : ℕ) (new rest : List ℤ) → n ≤ length new → length (take n (new ++ rest)) ≡ n
length-front n new rest room = length-take-le n (new ++ rest) (omega (arith, length-append new rest))

-- zeros written over all sums
zero_at : (depth n : ℕ) (new rest : List ℤ) → AreZero new → length new ≡ n
    → (k : ℕ) → k < n → get_or (widened depth (take n (new ++ rest))) k (pos 0) ≡ pos 0
zero_at depth n new rest zero long k below =
    let inside : k < length (take n (new ++ rest)) = omega (arith, length-front n new rest (omega (arith, long)), below) in
    get_or-widened depth (take n (new ++ rest)) k inside
    ∙ ap (full_scale depth) (get_or-take n (new ++ rest) k (pos 0) below
    ∙ get_or_append_left new rest (pos 0) k (omega (arith, long, below)) ∙ zero k)
    ∙ full_zero depth

pub cleared_few : (depth n from : ℕ) (new rest : List ℤ) → AreZero new → length new ≡ n
    → AreFew 0 from (widened depth (take n (new ++ rest)))
cleared_few depth n from new rest zero long =
    let front = length-front n new rest (omega (arith, long)) in
    let wide = length-map (take n (new ++ rest)) (full_scale depth) in
    let nothing : (k : ℕ) → k < length (widened depth (take n (new ++ rest)))
    → IsWithin 0 (get_or (widened depth (take n (new ++ rest))) k (pos 0)) = λ k below.
    subst (IsWithin 0) (sym (zero_at depth n new rest zero long k (omega (arith, below, front, wide))))
    (omega (arith, ints), omega (arith, ints)) in (
      λ k d below. subst (IsWithin 0) (sym (get_or_default _ k d (pos 0) below)) (nothing k below),
      λ k later below. nothing k below,
    )

-- samples taken as sums are small
pub samples_few : (depth : Depth) (samples : List ℤ) (n : ℕ) → length samples ≡ n
    → All (FitsDepth (bits_of depth)) samples → AreFew 1 n (widened (bits_of depth) samples)
samples_few depth samples n long fit =
    let bits = bits_of depth in
    let wide = length-map samples (full_scale bits) in (
      λ k d below.
          let inside : k < length samples = omega (arith, below, wide) in
          subst (IsWithin 1) (sym (get_or_default (widened bits samples) k d (pos 0) below ∙ get_or-widened bits samples k inside))
          (full_sample depth (get_or samples k (pos 0)) (fit k (pos 0) inside)),
      λ k later below. absurd (omega (arith, later, below, wide, long)),
    )

pub cleared_sums : (depth n frames channels : ℕ) (new rest : List ℤ) → AreZero new → length new ≡ n
    → n ≡ frames * channels
    → AreSums (block_of frames channels (widened depth (take n (new ++ rest)))) (λ _ _. pos 0)
cleared_sums depth n frames channels new rest zero long whole = λ i channel near low high.
    let row : suc i * channels ≤ frames * channels = mul-le-mul_right channels near in
    zero_at depth n new rest zero long (i * channels + (channel - 1)) (omega (arith, row, whole, low, high))

no_sum : (z : ℤ) → IsWithin 0 z → z ≡ pos 0
no_sum (pos n) within = ap pos (omega (arith, ints, within))
no_sum (negsuc n) within = absurd (omega (arith, ints, within))

-- zeros are the sums of nothing
pub zeros_widened : (depth : ℕ) (sums zeros : List ℤ) → length sums ≡ length zeros
    → ((k : ℕ) → get_or zeros k (pos 0) ≡ pos 0) → All (IsWithin 0) (widened depth sums) → zeros ≡ widened depth sums
zeros_widened depth sums zeros each zero clear =
    let long = length-map sums (full_scale depth) in
    ext_get_or (pos 0) zeros (widened depth sums) (sym (long ∙ each))
    (λ k below. zero k ∙ sym (no_sum _ (clear k (pos 0) (omega (arith, below, long, each)))))

-- ---- one sum

-- a 16-bit sample at 24 bits
pub wider_sample : (x : ℤ) → full_scale 24 (x *ℤ pos 256) ≡ full_scale 16 x
wider_sample (pos n) = omega (arith, ints)
wider_sample (negsuc n) = omega (arith, ints)

spread : (depth : Depth) (x y : ℤ)
    → full_scale (bits_of depth) (x +ℤ y) ≡ full_scale (bits_of depth) x +ℤ full_scale (bits_of depth) y
spread Sixteen x y = omega (arith, ints)
spread TwentyFour x y = omega (arith, ints)
spread ThirtyTwo x y = omega (arith, ints)

pub layer_fits : (depth : Depth) (sum x : ℤ) → bits_of depth ≤ 24 → IsWithin 254 (full_scale (bits_of depth) sum)
    → FitsDepth (bits_of depth) x → SFits w32 (sum +ℤ x)
layer_fits Sixteen sum x shallow small fit = omega (arith, ints, small, fit)
layer_fits TwentyFour sum x shallow small fit = omega (arith, ints, small, fit)
layer_fits ThirtyTwo sum x shallow small fit = absurd (omega arith)

pub layer_sum : (depth : Depth) (sum x : ℤ) → IsWithin 254 (full_scale (bits_of depth) sum)
    → FitsDepth (bits_of depth) x
    → full_scale (bits_of depth) (sum +ℤ x) ≡ held (full_scale (bits_of depth) sum +ℤ full_scale (bits_of depth) x)
layer_sum depth sum x small fit =
    spread depth sum x
    ∙ sym (held_few 255 _ (omega arith) (within_add 254 1 _ _ small (full_sample depth x fit)))

-- ---- emission

pub quantized_layer : (depth : Depth) (z : ℤ)
    → quantized (bits_of depth) (full_scale (bits_of depth) z) ≡ saturate_to_bits (bits_of depth - 1) z
quantized_layer Sixteen z = ap (saturate_to_bits 15) (floor_whole z (2 ^ 31) (2 ^ 32) (omega arith))
quantized_layer TwentyFour z = ap (saturate_to_bits 23) (floor_whole z (2 ^ 23) (2 ^ 24) (omega arith))
quantized_layer ThirtyTwo z = ap (saturate_to_bits 31) (floor_whole z (2 ^ 15) (2 ^ 16) (omega arith))

-- ---- one more entry

pub entry_more : (P : ℕ → ℤ → Type 0) (n : ℕ) (l : List ℤ) (v : ℤ) → n < length l
    → ((k : ℕ) → k < n → P k (get_or l k (pos 0))) → P n v
    → (k : ℕ) → k < n + 1 → P k (get_or (set l n v) k (pos 0))
entry_more P n l v inside before here k below = by_place (cases_lt k n) where
  by_place : (k < n) ⊎ (n ≤ k) → P k (get_or (set l n v) k (pos 0))
  by_place (inl early) =
      subst (P k) (sym (get_or-set_other l n k v (pos 0) (λ same. absurd (omega arith)))) (before k early)
  by_place (inr late) =
      let same : n ≡ k = omega arith in
      subst (λ m. P m (get_or (set l n v) m (pos 0))) same
      (subst (P n) (sym (get_or-set_same l n v (pos 0) inside)) here)

-- one more sum emitted at another depth
pub rounded_more : (kept depth : Depth) (sums out : List ℤ) (n : ℕ) (z : ℤ) → n < length out
    → ((k : ℕ) → k < n → get_or out k (pos 0)
    ≡ quantized (bits_of depth) (full_scale (bits_of kept) (get_or sums k (pos 0))))
    → z ≡ quantized (bits_of depth) (full_scale (bits_of kept) (get_or sums n (pos 0)))
    → (k : ℕ) → k < n + 1 → get_or (set out n z) k (pos 0)
    ≡ quantized (bits_of depth) (full_scale (bits_of kept) (get_or sums k (pos 0)))
rounded_more kept depth sums out n z =
    entry_more (λ k z. z ≡ quantized (bits_of depth) (full_scale (bits_of kept) (get_or sums k (pos 0)))) n out z
