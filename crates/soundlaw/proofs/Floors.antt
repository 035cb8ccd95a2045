-- Shares are no larger than their samples.
use Rattle.std.proofs.Common.{ℕ, suc, ◌+◌, ◌*◌, ◌<◌, ◌≤◌, arith}
use Rattle.std.specs.Prelude.{ℤ, pos, negsuc, neg_ℤ, ◌≤ℤ◌}
use Rattle.std.proofs.lemmas.Int.{ints}
use Rattle.std.proofs.Math.Nat.{lt_of_mul-lt-mul_left, mul-le-mul_left}
use Rattle.sound_terms.specs.Mix.{share_of}
use Rattle.soundlaw.specs.Laws.{no_larger, share_below, share_up}

-- a share has the bounds of its sample
pub share_within : (v : ℤ) (most num den : ℕ) → num ≤ den → 0 < den → neg_ℤ (pos most) ≤ℤ v → v ≤ℤ pos most
    → (neg_ℤ (pos most) ≤ℤ share_of v (num, den)) × (share_of v (num, den) ≤ℤ pos most)
share_within (pos size) most num den le some low high =
    let less = no_larger size num den le in
    rw (share_up size num den) (omega (arith, ints, less, low, high), omega (arith, ints, less, low, high))
share_within (negsuc n) most num den le some low high =
    let share = share_below n num den some in
    let within : suc n * num ≤ suc n * den = mul-le-mul_left (suc n) le in
    let end : den * share.ceiling < den * (suc n + 1) = omega (arith, share.product, share.small, within) in
    let less = lt_of_mul-lt-mul_left den end in
    rw share.is (omega (arith, ints, less, low, high), omega (arith, ints, less, low, high))
