-- 24-bit samples in the upper bytes of 32-bit lanes.
use Rattle.std.proofs.Common.{◌≡◌, ℕ, ◌+◌, ◌*◌, ◌/◌, ◌%◌, ◌^◌, ◌<◌, List, [], ◌∷◌, refl, ap, ◌∙◌, arith}
use Rattle.std.specs.Prelude.{ℤ}
use Rattle.std.specs.Int.Signed.{shr_z}
use Rattle.std.proofs.lemmas.Bool.Decides.{nat_tests}
use Rattle.std.proofs.lemmas.Int.{ints}
use mir.Syntax.{w32}
use mir.Val.{of_z, to_z}
use Rattle.byteorder.specs.Endian.{twos_complement}

-- a lane shifted right by one byte
abbrev pub shifted : ℕ → ℤ
shifted n = to_z w32 (of_z w32 (shr_z (to_z w32 n) 256))

-- the four shifted lanes of a 128-bit number
abbrev pub four_shifted : ℕ → List ℤ
four_shifted n = shifted (n % 4294967296) ∷ shifted (n / 4294967296 % 4294967296)
    ∷ shifted (n / 4294967296 / 4294967296 % 4294967296)
    ∷ shifted (n / 4294967296 / 4294967296 / 4294967296 % 4294967296) ∷ []

shifted_is : (a : ℕ) → a < 2 ^ 24 → shifted (256 * a) ≡ twos_complement 3 a
shifted_is a below = grind (arith, ints, nat_tests)

low_lane : (a n : ℕ) → a < 2 ^ 24 → (256 * a + 4294967296 * n) % 4294967296 ≡ 256 * a
low_lane a n below = omega arith

next_lane : (a n : ℕ) → a < 2 ^ 24 → (256 * a + 4294967296 * n) / 4294967296 ≡ n
next_lane a n below = omega arith

lane_is : (a n : ℕ) → a < 2 ^ 24 → shifted ((256 * a + 4294967296 * n) % 4294967296) ≡ twos_complement 3 a
lane_is a n below = ap shifted (low_lane a n below) ∙ shifted_is a below

-- four shifted lanes are four samples
pub four_are : (a b c d : ℕ) → a < 2 ^ 24 → b < 2 ^ 24 → c < 2 ^ 24 → d < 2 ^ 24
    → four_shifted (256 * a + 4294967296 * (256 * b + 4294967296 * (256 * c + 4294967296 * (256 * d + 4294967296 * 0))))
    ≡ twos_complement 3 a ∷ twos_complement 3 b ∷ twos_complement 3 c ∷ twos_complement 3 d ∷ []
four_are a b c d first second third fourth =
    let last = 256 * d + 4294967296 * 0 in
    let behind = 256 * c + 4294967296 * last in
    let more = 256 * b + 4294967296 * behind in
    rw (
      next_lane a more first,
      next_lane b behind second,
      next_lane c last third,
      lane_is a more first,
      lane_is b behind second,
      lane_is c last third,
      lane_is d 0 fourth,
    ) refl
