-- Clipped sums as seen from the emitted samples.
use Rattle.std.proofs.Common.{◌≡◌, ◌<◌, ◌-◌, ◌^◌, false, All, List, length, get_or, map, ap, ◌∙◌, subst, arith}
use Rattle.std.specs.Prelude.{ℤ, pos, neg_ℤ, int_lt, ◌||◌}
use Rattle.std.specs.Int.{saturate_to_bits}
use Rattle.std.proofs.lemmas.Bool.Decides.{nat_tests}
use Rattle.std.proofs.lemmas.Int.{ints}
use Rattle.std.proofs.lemmas.List.{get_or-map, length-map}
use Rattle.sound_terms.specs.declared.Depth.{Depth}
use Rattle.sound_terms.specs.declared.Depth.TheVariants.{Sixteen, TwentyFour, ThirtyTwo}
use Rattle.sound_terms.specs.Depth.{bits_of}
use Rattle.sound_terms.specs.Mix.{quantized}
use Rattle.clipping.specs.Clips.{is_clipped, rounded}
use Rattle.blockmachine.specs.Clipped.{IsBetween}

-- a saturated value that is at neither end of the range was within the range
inside_15 : (r : ℤ) → IsBetween 16 (saturate_to_bits 15 r)
    → (int_lt r (neg_ℤ (pos (2 ^ 15))) || int_lt (pos (2 ^ 15 - 1)) r) ≡ false
inside_15 r between = grind (arith, ints, nat_tests)

inside_23 : (r : ℤ) → IsBetween 24 (saturate_to_bits 23 r)
    → (int_lt r (neg_ℤ (pos (2 ^ 23))) || int_lt (pos (2 ^ 23 - 1)) r) ≡ false
inside_23 r between = grind (arith, ints, nat_tests)

inside_31 : (r : ℤ) → IsBetween 32 (saturate_to_bits 31 r)
    → (int_lt r (neg_ℤ (pos (2 ^ 31))) || int_lt (pos (2 ^ 31 - 1)) r) ≡ false
inside_31 r between = grind (arith, ints, nat_tests)

not_clipped : (depth : Depth) (sum : ℤ) → IsBetween (bits_of depth) (quantized (bits_of depth) sum)
    → is_clipped (bits_of depth) sum ≡ false
not_clipped Sixteen sum between = inside_15 (rounded 16 sum) between
not_clipped TwentyFour sum between = inside_23 (rounded 24 sum) between
not_clipped ThirtyTwo sum between = inside_31 (rounded 32 sum) between

-- if no sample is at an end of the range, no sum is clipped
pub none_clipped : (depth : Depth) (sums samples : List ℤ) → samples ≡ map (quantized (bits_of depth)) sums
    → All (IsBetween (bits_of depth)) samples → All (λ sum. is_clipped (bits_of depth) sum ≡ false) sums
none_clipped depth sums samples are between = λ k d below.
    let long = length-map sums (quantized (bits_of depth)) in
    let within : k < length samples = omega (arith, below, long, ap length are) in
    not_clipped depth (get_or sums k d) (subst (IsBetween (bits_of depth))
    (ap (λ (l : List ℤ). get_or l k (quantized (bits_of depth) d)) are
    ∙ get_or-map (quantized (bits_of depth)) sums k d (quantized (bits_of depth) d) below)
    (between k (quantized (bits_of depth) d) within))
