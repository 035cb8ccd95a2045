-- Share of a sample of up to 24 bits, rounded to its depth, by a 39-bit approximation.
use Rattle.std.proofs.Common.{◌≡◌, ℕ, zero, suc, ◌+◌, ◌*◌, ◌/◌, ◌%◌, ◌<◌, ◌≤◌, ◌^◌, sym, ap, ◌∙◌, subst, arith}
use Rattle.std.specs.Prelude.{ℤ, pos, negsuc, neg_ℤ, ◌+ℤ◌, ◌*ℤ◌, ◌≤ℤ◌, ◌<ℤ◌}
use Rattle.std.specs.Int.{int_div_euclid}
use Rattle.std.proofs.lemmas.Int.{ints}
use Rattle.std.proofs.Math.IntN.{negsuc-*ℤ-pos, pos-*ℤ-pos}
use Rattle.std.proofs.Math.Nat.{div-add-mod, div-eq_of_lt-le, lt_of_mul-lt-mul_left, mul-le-mul_left, mul-le-mul_right}
use Rattle.sound_terms.specs.declared.Depth.{Depth}
use Rattle.sound_terms.specs.declared.Depth.TheVariants.{Sixteen, TwentyFour, ThirtyTwo}
use Rattle.sound_terms.specs.Depth.{bits_of}
use Rattle.sound_terms.specs.Mix.{full_scale, quantized, share_of}
use Rattle.pcm.specs.Samples.{FitsDepth}
use Rattle.soundlaw.specs.Laws.{floor_below, full_share_below, kept_inside, rounded_share, share_at_or_above, share_fits}

-- bounds of a number by its quotient by 2^39
record IsFloor (z q : ℤ) : Type 0 where
  low : (q *ℤ pos (2 ^ 39)) ≤ℤ z
  high : z <ℤ ((q *ℤ pos (2 ^ 39)) +ℤ pos (2 ^ 39))

floored : (z q : ℤ) → q ≡ int_div_euclid z (pos (2 ^ 39)) → IsFloor z q
floored (pos a) q is = rw is (record {
  low = subst (λ (x : ℤ). x ≤ℤ pos a) (sym (pos-*ℤ-pos (a / 2 ^ 39) (2 ^ 39))) (omega (arith, ints));
  high = subst (λ (x : ℤ). pos a <ℤ (x +ℤ pos (2 ^ 39))) (sym (pos-*ℤ-pos (a / 2 ^ 39) (2 ^ 39))) (omega (arith, ints));
})
floored (negsuc a) q is = rw is (record {
  low = subst (λ (x : ℤ). x ≤ℤ negsuc a) (sym (negsuc-*ℤ-pos (a / 2 ^ 39) (2 ^ 39))) (omega (arith, ints));
  high = subst (λ (x : ℤ). negsuc a <ℤ (x +ℤ pos (2 ^ 39))) (sym (negsuc-*ℤ-pos (a / 2 ^ 39) (2 ^ 39)))
      (omega (arith, ints));
})

module _ (num den parts half : ℕ) (some : 0 < den) (step : 0 < half) (low : parts * den ≤ num * 2 ^ 39)
    (high : num * 2 ^ 39 ≤ (parts + 1) * den)
  where
    -- the products with both approximations, plus half a step, enclose the product with the fraction
    nearest_up : (n k : ℕ) → k * 2 ^ 39 ≤ n * parts + 2 ^ 38 → n * parts + n + 2 ^ 38 < (k + 1) * 2 ^ 39
        → (n * (2 * half) * num / den + half) / (2 * half) ≡ k
    nearest_up n k from to =
        let all = n * (2 * half) * num in
        let quotient = div-add-mod all den in
        let rest : all % den < den = omega (arith, some) in
        let a : k * 2 ^ 39 * den ≤ (n * parts + 2 ^ 38) * den = mul-le-mul_right den from in
        let b : n * (parts * den) ≤ n * (num * 2 ^ 39) = mul-le-mul_left n low in
        let c : n * (num * 2 ^ 39) ≤ n * ((parts + 1) * den) = mul-le-mul_left n high in
        let d : (n * parts + n + 2 ^ 38 + 1) * den ≤ (k + 1) * 2 ^ 39 * den = mul-le-mul_right den (omega (arith, to)) in
        let least : 2 * k * den ≤ 2 * n * num + den = omega (arith, a, b) in
        let most : 2 * n * num + den + 1 ≤ 2 * (k + 1) * den = omega (arith, c, d, some) in
        let e : half * (2 * k * den) ≤ half * (2 * n * num + den) = mul-le-mul_left half least in
        let f : half * (2 * n * num + den + 1) ≤ half * (2 * (k + 1) * den) = mul-le-mul_left half most in
        let begin : den * (k * (2 * half)) < den * (all / den + half + 1) = omega (arith, e, quotient, rest) in
        let end : den * (all / den + half) < den * ((k + 1) * (2 * half)) = omega (arith, f, quotient, step) in
        let at_least = lt_of_mul-lt-mul_left den begin in
        div-eq_of_lt-le {k = k} (2 * half) {m = all / den + half} (omega (arith, at_least))
        (lt_of_mul-lt-mul_left den end)

    -- the same bounds for a negative sample, whose share is rounded up in absolute value
    nearest_down : (m k c over : ℕ) → k * 2 ^ 39 < m * parts + 2 ^ 38 → m * parts + m ≤ k * 2 ^ 39 + 2 ^ 38
        → den * c ≡ m * (2 * half) * num + over → over < den
        → (c ≤ half + k * (2 * half)) × (k * (2 * half) < c + half)
    nearest_down m k c over from to product small =
        let a : m * (num * 2 ^ 39) ≤ m * ((parts + 1) * den) = mul-le-mul_left m high in
        let b : (m * parts + m) * den ≤ (k * 2 ^ 39 + 2 ^ 38) * den = mul-le-mul_right den to in
        let d : m * (parts * den) ≤ m * (num * 2 ^ 39) = mul-le-mul_left m low in
        let e : (k * 2 ^ 39 + 1) * den ≤ (m * parts + 2 ^ 38) * den = mul-le-mul_right den (omega (arith, from)) in
        let most : 2 * m * num ≤ 2 * k * den + den = omega (arith, a, b) in
        let least : 2 * k * den + 1 ≤ 2 * m * num + den = omega (arith, d, e, some) in
        let f : half * (2 * m * num) ≤ half * (2 * k * den + den) = mul-le-mul_left half most in
        let g : half * (2 * k * den + 1) ≤ half * (2 * m * num + den) = mul-le-mul_left half least in
        let end : den * c < den * (half + k * (2 * half) + 1) = omega (arith, f, product, small) in
        let begin : den * (k * (2 * half)) < den * (c + half) = omega (arith, g, product, step) in
        let at_most = lt_of_mul-lt-mul_left den end in
        (omega (arith, at_most), lt_of_mul-lt-mul_left den begin)

    -- a rounded share of a negative sample
    below_by : (n k : ℕ) → k * 2 ^ 39 < suc n * parts + 2 ^ 38 → suc n * parts + suc n ≤ k * 2 ^ 39 + 2 ^ 38
        → neg_ℤ (pos k) ≡ rounded_share half (negsuc n) (num, den)
    below_by n k from to =
        let share = full_share_below n num den half some step in
        let near = nearest_down (suc n) k share.ceiling share.over from to share.product share.small in
        sym (ap (λ z. int_div_euclid (z +ℤ pos half) (pos (2 * half))) share.is
        ∙ floor_below share.ceiling half k near.0 near.1)

    down : (n : ℕ) (z q : ℤ) → z ≡ neg_ℤ (pos (suc n * parts)) +ℤ pos (2 ^ 38) → IsFloor z q → IsFloor (z +ℤ negsuc n) q
        → q ≡ rounded_share half (negsuc n) (num, den)
    down n z (pos zero) product first second =
        below_by n 0 (omega (arith, ints, product, first.high)) (omega (arith, ints, product, second.low))
    down n z (pos (suc k)) product first second =
        let low = subst (λ (x : ℤ). x ≤ℤ z) (pos-*ℤ-pos (suc k) (2 ^ 39)) first.low in
        absurd (omega (arith, ints, product, low))
    down n z (negsuc k) product first second =
        let high = subst (λ (x : ℤ). z <ℤ (x +ℤ pos (2 ^ 39))) (negsuc-*ℤ-pos k (2 ^ 39)) first.high in
        let low = subst (λ (x : ℤ). x ≤ℤ (z +ℤ negsuc n)) (negsuc-*ℤ-pos k (2 ^ 39)) second.low in
        below_by n (suc k) (omega (arith, ints, product, high)) (omega (arith, ints, product, low))

    -- both approximations round the share to the same value
    pub nearest_between : (x z q : ℤ) → z ≡ x *ℤ pos parts +ℤ pos (2 ^ 38) → q ≡ int_div_euclid z (pos (2 ^ 39))
        → q ≡ int_div_euclid (z +ℤ x) (pos (2 ^ 39)) → q ≡ rounded_share half x (num, den)
    nearest_between (pos n) z q product first second =
        let all : z ≡ pos (n * parts + 2 ^ 38) = product ∙ ap (λ y. y +ℤ pos (2 ^ 38)) (pos-*ℤ-pos n parts) in
        let more : z +ℤ pos n ≡ pos (n * parts + 2 ^ 38 + n) = ap (λ y. y +ℤ pos n) all in
        let k = (n * parts + 2 ^ 38) / 2 ^ 39 in
        let is : q ≡ pos k = first ∙ ap (λ y. int_div_euclid y (pos (2 ^ 39))) all in
        let next : q ≡ pos ((n * parts + 2 ^ 38 + n) / 2 ^ 39) =
        second ∙ ap (λ y. int_div_euclid y (pos (2 ^ 39))) more in
        let same : k ≡ (n * parts + 2 ^ 38 + n) / 2 ^ 39 = omega (arith, ints, is, next) in
        let near = nearest_up n k (omega arith) (omega (arith, same)) in
        is ∙ ap pos (sym near) ∙ sym (ap (λ y. int_div_euclid (y +ℤ pos half) (pos (2 * half))) (share_at_or_above n num den half))
    nearest_between (negsuc n) z q product first second =
        down n z q (product ∙ ap (λ y. y +ℤ pos (2 ^ 38)) (negsuc-*ℤ-pos n parts)) (floored z q first)
        (floored (z +ℤ negsuc n) q second)

-- the approximations give the rounded share of a sample of up to 24 bits
pub nearest_at : (depth : Depth) (x z q : ℤ) (num den parts : ℕ) → bits_of depth ≤ 24 → FitsDepth (bits_of depth) x
    → num ≤ den → 0 < den → parts * den ≤ num * 2 ^ 39 → num * 2 ^ 39 ≤ (parts + 1) * den
    → z ≡ x *ℤ pos parts +ℤ pos (2 ^ 38) → q ≡ int_div_euclid z (pos (2 ^ 39))
    → q ≡ int_div_euclid (z +ℤ x) (pos (2 ^ 39))
    → q ≡ quantized (bits_of depth) (share_of (full_scale (bits_of depth) x) (num, den))
nearest_at Sixteen x z q num den parts shallow fits le some low high product first second =
    let within = share_fits Sixteen x num den fits le some in
    nearest_between num den parts (2 ^ 31) some (omega arith) low high x z q product first second
    ∙ sym (kept_inside 15 _ within.0 within.1)
nearest_at TwentyFour x z q num den parts shallow fits le some low high product first second =
    let within = share_fits TwentyFour x num den fits le some in
    nearest_between num den parts (2 ^ 23) some (omega arith) low high x z q product first second
    ∙ sym (kept_inside 23 _ within.0 within.1)
nearest_at ThirtyTwo x z q num den parts shallow fits le some low high product first second = absurd (omega arith)

-- 39-bit approximation from a 62-bit one
pub fewer_parts : (parts num den : ℕ) → parts * den ≤ num * 2 ^ 62 → num * 2 ^ 62 ≤ (parts + 1) * den
    → (parts / 2 ^ 23 * den ≤ num * 2 ^ 39) × (num * 2 ^ 39 ≤ (parts / 2 ^ 23 + 1) * den)
fewer_parts parts num den low high =
    let few : parts / 2 ^ 23 * 2 ^ 23 ≤ parts = omega arith in
    let next : parts + 1 ≤ (parts / 2 ^ 23 + 1) * 2 ^ 23 = omega arith in
    let a : parts / 2 ^ 23 * 2 ^ 23 * den ≤ parts * den = mul-le-mul_right den few in
    let b : (parts + 1) * den ≤ (parts / 2 ^ 23 + 1) * 2 ^ 23 * den = mul-le-mul_right den next in
    (omega (arith, a, low), omega (arith, b, high))
