-- Laws of rounded sums and shares.
use Rattle.std.proofs.Common.{◌≡◌, ℕ, zero, suc, ◌+◌, ◌-◌, ◌*◌, ◌/◌, ◌%◌, ◌<◌, ◌≤◌, ◌^◌, ap, ◌∙◌, refl, arith}
use Rattle.std.specs.Prelude.{ℤ, pos, negsuc, neg_ℤ, ◌+ℤ◌, ◌-ℤ◌, ◌*ℤ◌, ◌≤ℤ◌, ◌<ℤ◌}
use Rattle.std.specs.Int.{int_div_euclid, saturate_to_bits}
use Rattle.std.proofs.lemmas.Int.{ints}
use Rattle.std.proofs.lemmas.Nat.{div-mul-add}
use Rattle.std.proofs.Math.IntN.{negsuc-*ℤ-pos, pos-*ℤ-pos}
use Rattle.std.proofs.Math.Nat.{div-add-mod, div-le_of_le-mul, div-lt_iff_lt-mul, lt_of_mul-lt-mul_left, mul-le-mul_left}
use Rattle.sound_terms.specs.declared.Depth.{Depth}
use Rattle.sound_terms.specs.declared.Depth.TheVariants.{Sixteen, TwentyFour, ThirtyTwo}
use Rattle.sound_terms.specs.Depth.{bits_of}
use Rattle.sound_terms.specs.Mix.{full_scale, share_of}
use Rattle.pcm.specs.Samples.{FitsDepth}

-- floor of a multiple plus a remainder
pub floor_whole : (y : ℤ) (r step : ℕ) → r < step → int_div_euclid (y *ℤ pos step +ℤ pos r) (pos step) ≡ y
floor_whole (pos m) r step small = ap pos (div-mul-add m step r small)
floor_whole (negsuc k) r step small =
    let product = negsuc-*ℤ-pos k step in
    let turned : negsuc k *ℤ pos step +ℤ pos r ≡ negsuc (k * step + (step - r - 1)) = omega (arith, ints, product) in
    ap (λ z. int_div_euclid z (pos step)) turned ∙ ap negsuc (div-mul-add k step (step - r - 1) (omega arith))

-- a quotient whose remainder is from 0 up to the divisor is the floor
pub floor_by : (z q r : ℤ) (den : ℕ) → r ≡ z -ℤ (q *ℤ pos den) → pos 0 ≤ℤ r → r <ℤ pos den
    → int_div_euclid z (pos den) ≡ q
floor_by z q (pos r) den rest low high =
    let parts : z ≡ q *ℤ pos den +ℤ pos r = omega (arith, ints, rest) in
    ap (λ x. int_div_euclid x (pos den)) parts ∙ floor_whole q r den (omega (arith, ints, high))
floor_by z q (negsuc r) den rest low high = absurd (omega (arith, ints, low))

-- a number within the range is not changed by saturation
pub kept_inside : (h : ℕ) (y : ℤ) → neg_ℤ (pos (2 ^ h)) ≤ℤ y → y <ℤ pos (2 ^ h) → saturate_to_bits h y ≡ y
kept_inside h (pos n) low high = let below : n < 2 ^ h = omega (arith, ints, high) in ap pos (omega arith)
kept_inside h (negsuc n) low high = let below : n + 1 ≤ 2 ^ h = omega (arith, ints, low) in ap negsuc (omega arith)

-- the product of a negative number and a step
neg_product : (k step : ℕ) → neg_ℤ (pos k) *ℤ pos step ≡ neg_ℤ (pos (k * step))
neg_product zero step = let none : 0 * step ≡ 0 = omega arith in pos-*ℤ-pos 0 step ∙ rw none refl
neg_product (suc k) step = negsuc-*ℤ-pos k step

-- share of a non-negative sample
pub share_up : (size num den : ℕ) → share_of (pos size) (num, den) ≡ pos (size * num / den)
share_up size num den = ap (λ z. int_div_euclid z (pos den)) (pos-*ℤ-pos size num)

-- share of a negative sample: its absolute value is rounded up
pub record IsShareBelow (k num den : ℕ) : Type 0 where
  pub ceiling : ℕ
  pub over : ℕ
  pub is : share_of (negsuc k) (num, den) ≡ neg_ℤ (pos ceiling)
  pub product : den * ceiling ≡ suc k * num + over
  pub small : over < den

pub share_below : (k num den : ℕ) → 0 < den → IsShareBelow k num den
share_below k num den some =
    let size = suc k * num in
    let up = (size + (den - 1)) / den in
    let left = (size + (den - 1)) % den in
    let parts : den * up + left ≡ size + (den - 1) = div-add-mod (size + (den - 1)) den in
    let small : left < den = omega (arith, some) in
    let product : den * up ≡ size + (den - 1 - left) = omega (arith, parts, small) in
    let z : ℤ = neg_ℤ (pos size) in
    let rest : pos (den - 1 - left) ≡ z -ℤ (neg_ℤ (pos up) *ℤ pos den) =
    rw (neg_product up den) (omega (arith, ints, product)) in
    record {
      ceiling = up;
      over = den - 1 - left;
      is = ap (λ y. int_div_euclid y (pos den)) (negsuc-*ℤ-pos k num)
          ∙ floor_by z (neg_ℤ (pos up)) (pos (den - 1 - left)) den rest (omega (arith, ints)) (omega (arith, ints, some));
      product = product;
      small = omega (arith, some);
    }

pub no_larger : (size num den : ℕ) → num ≤ den → size * num / den ≤ size
no_larger size num den le =
    let most : size * num ≤ size * den = mul-le-mul_left size le in
    div-le_of_le-mul den (omega (arith, most))

-- share of a sample whose depth has the given half step, rounded to the depth
abbrev pub rounded_share : (half : ℕ) → ℤ → ℕ × ℕ → ℤ
rounded_share half x fraction = int_div_euclid (share_of (x *ℤ pos (2 * half)) fraction +ℤ pos half) (pos (2 * half))

pub share_at_or_above : (n num den half : ℕ)
    → share_of (pos n *ℤ pos (2 * half)) (num, den) ≡ pos (n * (2 * half) * num / den)
share_at_or_above n num den half =
    ap (λ y. share_of y (num, den)) (pos-*ℤ-pos n (2 * half)) ∙ share_up (n * (2 * half)) num den

-- rounding of a negative number
pub floor_below : (c half k : ℕ) → c ≤ half + k * (2 * half) → k * (2 * half) < c + half
    → int_div_euclid (neg_ℤ (pos c) +ℤ pos half) (pos (2 * half)) ≡ neg_ℤ (pos k)
floor_below c half k few many =
    let z : ℤ = neg_ℤ (pos c) +ℤ pos half in
    let r : ℤ = pos (half + k * (2 * half) - c) in
    let rest : r ≡ z -ℤ (neg_ℤ (pos k) *ℤ pos (2 * half)) = rw (neg_product k (2 * half)) (omega (arith, ints, few)) in
    floor_by z (neg_ℤ (pos k)) r (2 * half) rest (omega (arith, ints)) (omega (arith, ints, few, many))

-- share of a negative sample at full scale
pub record IsFullShareBelow (n num den half : ℕ) : Type 0 where
  pub ceiling : ℕ
  pub over : ℕ
  pub is : share_of (negsuc n *ℤ pos (2 * half)) (num, den) ≡ neg_ℤ (pos ceiling)
  pub product : den * ceiling ≡ suc n * (2 * half) * num + over
  pub small : over < den

pub full_share_below : (n num den half : ℕ) → 0 < den → 0 < half → IsFullShareBelow n num den half
full_share_below n num den half some step =
    let size = suc n * (2 * half) - 1 in
    let share = share_below size num den some in
    let whole : suc size ≡ suc n * (2 * half) = omega (arith, step) in
    let full : negsuc n *ℤ pos (2 * half) ≡ negsuc size = negsuc-*ℤ-pos n (2 * half) ∙ omega (arith, ints, step) in
    record {
      ceiling = share.ceiling;
      over = share.over;
      is = ap (λ z. share_of z (num, den)) full ∙ share.is;
      product = share.product ∙ ap (λ m. m * num + share.over) whole;
      small = share.small;
    }

-- a rounded share is between zero and its sample
share_inside : (half bound num den : ℕ) (x : ℤ) → 0 < half → num ≤ den → 0 < den → neg_ℤ (pos bound) ≤ℤ x
    → x <ℤ pos bound
    → (neg_ℤ (pos bound) ≤ℤ rounded_share half x (num, den)) × (rounded_share half x (num, den) <ℤ pos bound)
share_inside half bound num den (pos n) step le some least most =
    let is : rounded_share half (pos n) (num, den) ≡ pos ((n * (2 * half) * num / den + half) / (2 * half)) =
    ap (λ y. int_div_euclid (y +ℤ pos half) (pos (2 * half))) (share_at_or_above n num den half) in
    let less : n * (2 * half) * num / den ≤ n * (2 * half) = no_larger (n * (2 * half)) num den le in
    let room : n * (2 * half) * num / den + half < suc n * (2 * half) = omega (arith, less, step) in
    let below : (n * (2 * half) * num / den + half) / (2 * half) < suc n =
    (div-lt_iff_lt-mul {k = 2 * half} (omega (arith, step))).1 room in
    rw is (omega (arith, ints, least), omega (arith, ints, below, most))
share_inside half bound num den (negsuc n) step le some least most =
    let share = full_share_below n num den half some step in
    let within : suc n * (2 * half) * num ≤ suc n * (2 * half) * den = mul-le-mul_left (suc n * (2 * half)) le in
    let end : den * share.ceiling < den * (suc n * (2 * half) + 1) =
    omega (arith, share.product, share.small, within) in
    let few : share.ceiling ≤ suc n * (2 * half) =
    let less = lt_of_mul-lt-mul_left den end in omega (arith, less) in
    rw share.is (inside share.ceiling few) where
      inside : (c : ℕ) → c ≤ suc n * (2 * half)
          → (neg_ℤ (pos bound) ≤ℤ int_div_euclid (neg_ℤ (pos c) +ℤ pos half) (pos (2 * half)))
          × (int_div_euclid (neg_ℤ (pos c) +ℤ pos half) (pos (2 * half)) <ℤ pos bound)
      inside c few =
          let k = (c + half - 1) / (2 * half) in
          let parts = div-add-mod (c + half - 1) (2 * half) in
          let rest : (c + half - 1) % (2 * half) < 2 * half = omega (arith, step) in
          let is = floor_below c half k (omega (arith, parts, rest)) (omega (arith, parts, rest, step)) in
          let room : c + half - 1 < suc (suc n) * (2 * half) = omega (arith, few, step) in
          let below : k < suc (suc n) = (div-lt_iff_lt-mul {k = 2 * half} (omega (arith, step))).1 room in
          rw is (omega (arith, ints, below, least), omega (arith, ints, most, least))

-- a rounded share fits its depth before clipping
pub share_fits : (depth : Depth) (x : ℤ) (num den : ℕ) → FitsDepth (bits_of depth) x → num ≤ den → 0 < den
    → FitsDepth (bits_of depth) (int_div_euclid (share_of (full_scale (bits_of depth) x) (num, den)
    +ℤ pos (2 ^ (47 - bits_of depth))) (pos (2 ^ (48 - bits_of depth))))
share_fits Sixteen x num den fits le some =
    share_inside (2 ^ 31) (2 ^ 15) num den x (omega arith) le some fits.0 fits.1
share_fits TwentyFour x num den fits le some =
    share_inside (2 ^ 23) (2 ^ 23) num den x (omega arith) le some fits.0 fits.1
share_fits ThirtyTwo x num den fits le some =
    share_inside (2 ^ 15) (2 ^ 31) num den x (omega arith) le some fits.0 fits.1
