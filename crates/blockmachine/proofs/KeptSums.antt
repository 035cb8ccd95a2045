-- Sums kept at a depth are emitted unchanged if none is clipped.
use Rattle.std.proofs.Common.{◌≡◌, ◌-◌, ◌^◌, Bool, true, false, List, [], ◌∷◌, length, map, refl, arith}
use Rattle.std.specs.Prelude.{ℤ, pos, neg_ℤ, int_lt, ◌||◌, ◌≤ℤ◌, ◌<ℤ◌}
use Rattle.std.specs.List.{filter}
use Rattle.std.proofs.lemmas.Bool.Decides.{nat_tests}
use Rattle.std.proofs.lemmas.Int.{ints}
use Rattle.sound_terms.specs.declared.Depth.{Depth}
use Rattle.sound_terms.specs.declared.Depth.TheVariants.{Sixteen, TwentyFour, ThirtyTwo}
use Rattle.sound_terms.specs.Depth.{bits_of}
use Rattle.sound_terms.specs.Mix.{full_scale, quantized}
use Rattle.soundlaw.specs.Laws.{floor_whole, kept_inside}
use Rattle.clipping.specs.Clips.{is_clipped, rounded}
use Rattle.clipping.specs.Kept.{at_full_scale}

inside_15 : (r : ℤ) → (int_lt r (neg_ℤ (pos (2 ^ 15))) || int_lt (pos (2 ^ 15 - 1)) r) ≡ false
    → (neg_ℤ (pos (2 ^ 15)) ≤ℤ r) × (r <ℤ pos (2 ^ 15))
inside_15 r inside = (grind (arith, ints, nat_tests), grind (arith, ints, nat_tests))

inside_23 : (r : ℤ) → (int_lt r (neg_ℤ (pos (2 ^ 23))) || int_lt (pos (2 ^ 23 - 1)) r) ≡ false
    → (neg_ℤ (pos (2 ^ 23)) ≤ℤ r) × (r <ℤ pos (2 ^ 23))
inside_23 r inside = (grind (arith, ints, nat_tests), grind (arith, ints, nat_tests))

inside_31 : (r : ℤ) → (int_lt r (neg_ℤ (pos (2 ^ 31))) || int_lt (pos (2 ^ 31 - 1)) r) ≡ false
    → (neg_ℤ (pos (2 ^ 31)) ≤ℤ r) × (r <ℤ pos (2 ^ 31))
inside_31 r inside = (grind (arith, ints, nat_tests), grind (arith, ints, nat_tests))

-- one sum that isn't clipped
as_it_is : (depth : Depth) (s : ℤ) → is_clipped (bits_of depth) (full_scale (bits_of depth) s) ≡ false
    → quantized (bits_of depth) (full_scale (bits_of depth) s) ≡ s
as_it_is Sixteen s inside =
    let whole : rounded 16 (full_scale 16 s) ≡ s = floor_whole s (2 ^ 31) (2 ^ 32) (omega arith) in
    let within = inside_15 s (rw whole at inside) in
    rw whole (kept_inside 15 s within.0 within.1)
as_it_is TwentyFour s inside =
    let whole : rounded 24 (full_scale 24 s) ≡ s = floor_whole s (2 ^ 23) (2 ^ 24) (omega arith) in
    let within = inside_23 s (rw whole at inside) in
    rw whole (kept_inside 23 s within.0 within.1)
as_it_is ThirtyTwo s inside =
    let whole : rounded 32 (full_scale 32 s) ≡ s = floor_whole s (2 ^ 15) (2 ^ 16) (omega arith) in
    let within = inside_31 s (rw whole at inside) in
    rw whole (kept_inside 31 s within.0 within.1)

-- all sums
pub as_they_are : (depth : Depth) (sums : List ℤ)
    → length (filter (is_clipped (bits_of depth)) (at_full_scale (bits_of depth) sums)) ≡ 0
    → map (quantized (bits_of depth)) (at_full_scale (bits_of depth) sums) ≡ sums
as_they_are depth [] none = refl
as_they_are depth (s ∷ sums) none =
    by_test (is_clipped (bits_of depth) (full_scale (bits_of depth) s)) refl (as_they_are depth sums)
  where
    by_test : (clipped : Bool) → is_clipped (bits_of depth) (full_scale (bits_of depth) s) ≡ clipped
        → (length (filter (is_clipped (bits_of depth)) (at_full_scale (bits_of depth) sums)) ≡ 0
        → map (quantized (bits_of depth)) (at_full_scale (bits_of depth) sums) ≡ sums)
        → map (quantized (bits_of depth)) (at_full_scale (bits_of depth) (s ∷ sums)) ≡ s ∷ sums
    by_test true test others = absurd (omega (arith, rw test at none))
    by_test false test others = rw (as_it_is depth s test, others (rw test at none)) refl
