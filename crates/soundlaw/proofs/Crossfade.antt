-- A fade-out and a fade-in of the same length over the same samples add up to the samples.
use Rattle.std.proofs.Common.{◌≡◌, ℕ, suc, ◌+◌, ◌-◌, ◌*◌, ◌/◌, ◌%◌, ◌<◌, ◌≤◌, ◌^◌, true, false, refl, ap, ◌∙◌, arith}
use Rattle.std.specs.Prelude.{ℤ, pos, negsuc, neg_ℤ, ◌+ℤ◌, ◌*ℤ◌, ◌≤ℤ◌, ◌<ℤ◌, nat_le, nat_lt}
use Rattle.std.specs.Int.{int_div_euclid, saturate_to_bits}
use Rattle.std.proofs.lemmas.Bool.Decides.{nat_tests}
use Rattle.std.proofs.lemmas.Int.{ints}
use Rattle.std.proofs.Math.Nat.{div-add-mod, le_of_mul-le-mul_left, lt_of_mul-lt-mul_left}
use Rattle.sound_terms.specs.Mix.{fade_fraction, full_scale, quantized, share_of}
use Rattle.pcm.specs.Samples.{FitsDepth}
use Rattle.sound_terms.specs.declared.Depth.{Depth}
use Rattle.sound_terms.specs.declared.Depth.TheVariants.{Sixteen, TwentyFour, ThirtyTwo}
use Rattle.sound_terms.specs.Depth.{bits_of}
use Rattle.soundlaw.specs.Crossfade.{IsCrossfadeExact}
use Rattle.soundlaw.specs.Laws.{floor_whole, kept_inside, share_below, share_up}

-- the two shares add up to the sample or to one less
pub record IsNearly (sum sample : ℤ) : Type 0 where
  pub less : ℕ
  pub most : less ≤ 1
  pub is : sum +ℤ pos less ≡ sample

-- sum of two parts of a product, each rounded down
rounded_down : (m n x y a b r s : ℕ) → x + y ≡ n → n * a + r ≡ m * x → n * b + s ≡ m * y → r < n → s < n
    → (a + b ≤ m) × (m < a + b + 2)
rounded_down m n x y a b r s whole first second less small =
    let all = ap (λ z. m * z) whole in
    let low : n * (a + b) ≤ n * m = omega (arith, all, first, second) in
    let high : n * m < n * (a + b + 2) = omega (arith, all, first, second) in
    (le_of_mul-le-mul_left {k = n} low (omega arith), lt_of_mul-lt-mul_left n high)

near_by : (a b c d v : ℤ) → a ≡ c → b ≡ d → IsNearly (c +ℤ d) v → IsNearly (a +ℤ b) v
near_by a b c d v first second near = rw (first, second) near

both_up : (m n i : ℕ) → i < n → IsNearly (share_of (pos m) (n - i, n) +ℤ share_of (pos m) (i, n)) (pos m)
both_up m n i inside =
    let first = div-add-mod (m * (n - i)) n in
    let second = div-add-mod (m * i) n in
    let near =
    rounded_down m n (n - i) i (m * (n - i) / n) (m * i / n) (m * (n - i) % n) (m * i % n) (omega arith)
    first second (omega arith) (omega arith) in
    near_by _ _ _ _ (pos m) (share_up m (n - i) n) (share_up m i n) (record {
      less = m - (m * (n - i) / n + m * i / n);
      most = omega (arith, near);
      is = omega (arith, ints, near);
    })

rounded_up : (m n x y a b r s : ℕ) → x + y ≡ n → n * a ≡ m * x + r → n * b ≡ m * y + s → r < n → s < n
    → (m ≤ a + b) × (a + b < m + 2)
rounded_up m n x y a b r s whole first second less small =
    let all = ap (λ z. m * z) whole in
    let low : n * m ≤ n * (a + b) = omega (arith, all, first, second) in
    let high : n * (a + b) < n * (m + 2) = omega (arith, all, first, second) in
    (le_of_mul-le-mul_left {k = n} low (omega arith), lt_of_mul-lt-mul_left n high)

both_down : (k n i : ℕ) → i < n → IsNearly (share_of (negsuc k) (n - i, n) +ℤ share_of (negsuc k) (i, n)) (negsuc k)
both_down k n i inside =
    let first = share_below k (n - i) n (omega arith) in
    let second = share_below k i n (omega arith) in
    let near =
    rounded_up (suc k) n (n - i) i first.ceiling second.ceiling first.over second.over (omega arith)
    first.product second.product first.small second.small in
    near_by _ _ _ _ (negsuc k) first.is second.is (record {
      less = (first.ceiling + second.ceiling) - suc k;
      most = omega (arith, near);
      is = omega (arith, ints, near);
    })

nearly : (v : ℤ) (n i : ℕ) → i < n → IsNearly (share_of v (n - i, n) +ℤ share_of v (i, n)) v
nearly (pos m) n i inside = both_up m n i inside
nearly (negsuc k) n i inside = both_down k n i inside

-- gains of both fades at their sample i
out_fraction : (rise n before i : ℕ) → i < n → rise + n ≤ before
    → fade_fraction rise n before (before - n + i) ≡ (n - i, n)
out_fraction rise n before i inside fits =
    let risen : nat_lt (before - n + i) rise ≡ false = grind (arith, nat_tests) in
    let falls : nat_le (before - n) (before - n + i) ≡ true = grind (arith, nat_tests) in
    let left : before - (before - n + i) ≡ n - i = omega arith in
    rw (risen, falls, left) refl

in_fraction : (n fall behind i : ℕ) → i < n → fade_fraction n fall behind i ≡ (i, n)
in_fraction n fall behind i inside = let rising : nat_lt i n ≡ true = grind (arith, nat_tests) in rw rising refl

-- a sum near a multiple of the step is rounded to the multiple
rounds : (h half step : ℕ) (sum v y : ℤ) → 1 ≤ half → half < step → IsNearly sum v → v ≡ y *ℤ pos step
    → neg_ℤ (pos (2 ^ h)) ≤ℤ y → y <ℤ pos (2 ^ h)
    → saturate_to_bits h (int_div_euclid (sum +ℤ pos half) (pos step)) ≡ y
rounds h half step sum v y some small near whole low high =
    let parts : sum +ℤ pos half ≡ y *ℤ pos step +ℤ pos (half - near.less) =
    omega (arith, ints, near.is, near.most, some, whole) in
    ap (λ z. saturate_to_bits h (int_div_euclid z (pos step))) parts
    ∙ ap (saturate_to_bits h) (floor_whole y (half - near.less) step (omega (arith, small))) ∙ kept_inside h y low high

-- a sum near a sample of the depth is rounded to the sample
rounds_at : (depth : Depth) (sum v y : ℤ) → IsNearly sum v → v ≡ y *ℤ pos (2 ^ (48 - bits_of depth))
    → neg_ℤ (pos (2 ^ (bits_of depth - 1))) ≤ℤ y → y <ℤ pos (2 ^ (bits_of depth - 1))
    → quantized (bits_of depth) sum ≡ y
rounds_at Sixteen sum v y = rounds 15 2147483648 4294967296 sum v y (omega arith) (omega arith)
rounds_at TwentyFour sum v y = rounds 23 8388608 16777216 sum v y (omega arith) (omega arith)
rounds_at ThirtyTwo sum v y = rounds 31 32768 65536 sum v y (omega arith) (omega arith)

by_depths : (source depth : Depth) (x sum : ℤ) → bits_of source ≤ bits_of depth → FitsDepth (bits_of source) x
    → IsNearly sum (full_scale (bits_of source) x)
    → quantized (bits_of depth) sum ≡ x *ℤ pos (2 ^ (bits_of depth - bits_of source))
by_depths Sixteen Sixteen x sum le fits near =
    rounds_at Sixteen sum _ (x *ℤ pos 1) near (omega (arith, ints)) (omega (arith, ints, fits.0)) (omega (arith, ints, fits.1))
by_depths Sixteen TwentyFour x sum le fits near =
    rounds_at TwentyFour sum _ (x *ℤ pos 256) near (omega (arith, ints)) (omega (arith, ints, fits.0)) (omega (arith, ints, fits.1))
by_depths Sixteen ThirtyTwo x sum le fits near =
    rounds_at ThirtyTwo sum _ (x *ℤ pos 65536) near (omega (arith, ints)) (omega (arith, ints, fits.0)) (omega (arith, ints, fits.1))
by_depths TwentyFour Sixteen x sum le fits near = absurd (omega arith)
by_depths TwentyFour TwentyFour x sum le fits near =
    rounds_at TwentyFour sum _ (x *ℤ pos 1) near (omega (arith, ints)) (omega (arith, ints, fits.0)) (omega (arith, ints, fits.1))
by_depths TwentyFour ThirtyTwo x sum le fits near =
    rounds_at ThirtyTwo sum _ (x *ℤ pos 256) near (omega (arith, ints)) (omega (arith, ints, fits.0)) (omega (arith, ints, fits.1))
by_depths ThirtyTwo Sixteen x sum le fits near = absurd (omega arith)
by_depths ThirtyTwo TwentyFour x sum le fits near = absurd (omega arith)
by_depths ThirtyTwo ThirtyTwo x sum le fits near =
    rounds_at ThirtyTwo sum _ (x *ℤ pos 1) near (omega (arith, ints)) (omega (arith, ints, fits.0)) (omega (arith, ints, fits.1))

pub crossfade_is_exact : (depth : Depth) → IsCrossfadeExact depth
crossfade_is_exact depth source n i rise before fall behind x le fits inside ends begins =
    rw (out_fraction rise n before i inside ends, in_fraction n fall behind i inside)
    (by_depths source depth x _ le fits (nearly (full_scale (bits_of source) x) n i inside))
