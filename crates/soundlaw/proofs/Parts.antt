-- Fractions between neighbouring multiples of 2^-62, and shares that both approximations round to the same value.
use Rattle.std.proofs.Common.{◌≡◌, ℕ, zero, suc, ◌+◌, ◌-◌, ◌*◌, ◌/◌, ◌^◌, ◌<◌, ◌≤◌, refl, sym, ap, ◌∙◌, arith}
use Rattle.std.specs.Prelude.{ℤ, pos, negsuc, neg_ℤ, ◌+ℤ◌, ◌-ℤ◌, ◌*ℤ◌, ◌≤ℤ◌, ◌<ℤ◌}
use Rattle.std.specs.Int.{int_div_euclid}
use Rattle.std.proofs.lemmas.Int.{ints}
use Rattle.std.proofs.Math.IntN.{negsuc-*ℤ-pos, pos-*ℤ-pos}
use Rattle.std.proofs.Math.Nat.{div-eq_of_lt-le, lt_of_mul-lt-mul_left, mul-le-mul_left, mul-le-mul_right}
use Rattle.sound_terms.specs.Mix.{share_of}
use Rattle.soundlaw.specs.Laws.{floor_by, share_up}

-- the approximation of a fraction below 1 is below 1
pub fewer : (parts den num rest : ℕ) → parts * den + rest ≡ num * 2 ^ 62 → num < den → parts < 2 ^ 62
fewer parts den num rest are less =
    let below : den * parts < den * 2 ^ 62 = omega (arith, are, less) in lt_of_mul-lt-mul_left den below

-- bounds of 1 minus a fraction by its approximation
left_between : (left parts den num rest : ℕ) → left + parts + 1 ≡ 2 ^ 62 → parts * den + rest ≡ num * 2 ^ 62
    → rest < den → num < den
    → (left * den ≤ (den - num) * 2 ^ 62) × ((den - num) * 2 ^ 62 ≤ (left + 1) * den)
left_between left parts den num rest whole are below less =
    let all : (left + parts + 1) * den ≡ 2 ^ 62 * den = ap (λ x. x * den) whole in
    (omega (arith, all, are, below, less), omega (arith, all, are, below, less))

-- approximation of 1 minus a fraction
pub left_of_parts : (parts den num rest : ℕ) → parts * den + rest ≡ num * 2 ^ 62 → rest < den → num < den
    → ((2 ^ 62 - 1 - parts) * den ≤ (den - num) * 2 ^ 62) × ((den - num) * 2 ^ 62 ≤ (2 ^ 62 - 1 - parts + 1) * den)
left_of_parts parts den num rest are below less =
    let few = fewer parts den num rest are less in
    left_between (2 ^ 62 - 1 - parts) parts den num rest (omega (arith, few)) are below less

module _ (num den parts : ℕ) (some : 0 < den) (low : parts * den ≤ num * 2 ^ 62)
    (high : num * 2 ^ 62 ≤ (parts + 1) * den)
  where
    -- the products with both approximations enclose the product with the fraction
    quotient_up : (n k : ℕ) → k * 2 ^ 62 ≤ n * parts → n * parts + n < (k + 1) * 2 ^ 62 → n * num / den ≡ k
    quotient_up n k from to =
        let first : k * 2 ^ 62 * den ≤ n * parts * den = mul-le-mul_right den from in
        let second : n * (parts * den) ≤ n * (num * 2 ^ 62) = mul-le-mul_left n low in
        let third : n * (num * 2 ^ 62) ≤ n * ((parts + 1) * den) = mul-le-mul_left n high in
        let fourth : (n * parts + n + 1) * den ≤ (k + 1) * 2 ^ 62 * den = mul-le-mul_right den (omega (arith, to)) in
        div-eq_of_lt-le {k = k} den {m = n * num} (omega (arith, first, second))
        (omega (arith, third, fourth, some))

    up : (n : ℕ) (q : ℤ) → q ≡ pos (4 * n * parts / 2 ^ 64) → q ≡ pos ((4 * n * parts + 4 * n) / 2 ^ 64)
        → q ≡ share_of (pos n) (num, den)
    up n q first second =
        let k = 4 * n * parts / 2 ^ 64 in
        let same : k ≡ (4 * n * parts + 4 * n) / 2 ^ 64 = omega (arith, ints, first, second) in
        let quotient = quotient_up n k (omega arith) (omega (arith, same)) in
        first ∙ ap pos (sym quotient) ∙ sym (share_up n num den)

    -- quotient of a negative sample, rounded up in absolute value
    quotient_down : (m k : ℕ) → k * 2 ^ 62 < m * parts → m * parts + m ≤ (k + 1) * 2 ^ 62
        → (k * den < m * num) × (m * num ≤ (k + 1) * den)
    quotient_down m k from to =
        let first : (k * 2 ^ 62 + 1) * den ≤ m * parts * den = mul-le-mul_right den (omega (arith, from)) in
        let second : m * (parts * den) ≤ m * (num * 2 ^ 62) = mul-le-mul_left m low in
        let third : m * (num * 2 ^ 62) ≤ m * ((parts + 1) * den) = mul-le-mul_left m high in
        let fourth : (m * parts + m) * den ≤ (k + 1) * 2 ^ 62 * den = mul-le-mul_right den to in
        (omega (arith, first, second, some), omega (arith, third, fourth))

    share_negative : (n k : ℕ) → k * den < suc n * num → suc n * num ≤ (k + 1) * den
        → negsuc k ≡ share_of (negsuc n) (num, den)
    share_negative n k from to =
        let z : ℤ = neg_ℤ (pos (suc n * num)) in
        let r : ℤ = pos ((k + 1) * den - suc n * num) in
        let product : negsuc k *ℤ pos den ≡ neg_ℤ (pos (suc k * den)) = negsuc-*ℤ-pos k den in
        let rest : r ≡ z -ℤ (negsuc k *ℤ pos den) = rw product (omega (arith, ints, to)) in
        let least : pos 0 ≤ℤ r = omega (arith, ints) in
        let most : r <ℤ pos den = omega (arith, ints, from, to) in
        sym (ap (λ x. int_div_euclid x (pos den)) (negsuc-*ℤ-pos n num) ∙ floor_by z (negsuc k) r den rest least most)

    down : (n : ℕ) (q : ℤ) (b : ℕ) → b ≡ 4 * suc n * parts → q ≡ int_div_euclid (neg_ℤ (pos b)) (pos (2 ^ 64))
        → q ≡ negsuc ((b + 4 * suc n - 1) / 2 ^ 64) → q ≡ share_of (negsuc n) (num, den)
    down n q zero product first second = absurd (omega (arith, ints, first, second))
    down n q (suc b) product first second =
        let k = (suc b + 4 * suc n - 1) / 2 ^ 64 in
        let same : k ≡ b / 2 ^ 64 = omega (arith, ints, first, second) in
        let size = quotient_down (suc n) k (omega (arith, same, product)) (omega (arith, product)) in
        second ∙ share_negative n k size.0 size.1

    -- both approximations round the share to the same value
    pub share_between : (v s l q : ℤ) → s ≡ pos 4 *ℤ v → l ≡ s *ℤ pos parts → q ≡ int_div_euclid l (pos (2 ^ 64))
        → q ≡ int_div_euclid (l +ℤ s) (pos (2 ^ 64)) → q ≡ share_of v (num, den)
    share_between (pos n) s l q scaled product first second =
        let size : s ≡ pos (4 * n) = scaled ∙ pos-*ℤ-pos 4 n in
        let all : l ≡ pos (4 * n * parts) = product ∙ ap (λ x. x *ℤ pos parts) size ∙ pos-*ℤ-pos (4 * n) parts in
        let more : l +ℤ s ≡ pos (4 * n * parts + 4 * n) = rw (all, size) refl in
        up n q (first ∙ ap (λ x. int_div_euclid x (pos (2 ^ 64))) all)
        (second ∙ ap (λ x. int_div_euclid x (pos (2 ^ 64))) more)
    share_between (negsuc n) s l q scaled product first second =
        let size : s ≡ negsuc (4 * suc n - 1) = omega (arith, ints, scaled) in
        let all : l ≡ neg_ℤ (pos (4 * suc n * parts)) =
        product ∙ ap (λ x. x *ℤ pos parts) size ∙ negsuc-*ℤ-pos (4 * suc n - 1) parts
        ∙ ap (λ x. neg_ℤ (pos (x * parts))) (omega arith) in
        let more : l +ℤ s ≡ negsuc (4 * suc n * parts + 4 * suc n - 1) = omega (arith, ints, all, size) in
        down n q (4 * suc n * parts) refl (first ∙ ap (λ x. int_div_euclid x (pos (2 ^ 64))) all)
        (second ∙ ap (λ x. int_div_euclid x (pos (2 ^ 64))) more)
