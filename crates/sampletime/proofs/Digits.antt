-- Parsed digits are the decimal digits of the number: two for a number below 100, four for a number below 10000.
use Rattle.std.proofs.Common.{◌≡◌, ℕ, ◌+◌, ◌/◌, ◌%◌, [], ◌∷◌, Some, arith}
use Rattle.std.proofs.lemmas.Bool.Decides.{nat_tests}
use Rattle.sampletime.specs.TimeCode.{two_digits, four_digits}

-- the two bytes are the decimal digits of n
pub record AreDigitsOf (n a b : ℕ) : Type 0 where
  pub tens : a ≡ 48 + n / 10
  pub ones : b ≡ 48 + n % 10

pub two_digits-again : (a b n : ℕ) → two_digits (a ∷ b ∷ []) ≡ Some n → AreDigitsOf n a b
two_digits-again a b n e = record { tens = grind (arith, nat_tests); ones = grind (arith, nat_tests) }

pub record AreFourDigitsOf (n a b c d : ℕ) : Type 0 where
  pub thousands : a ≡ 48 + n / 1000
  pub hundreds : b ≡ 48 + n / 100 % 10
  pub tens : c ≡ 48 + n / 10 % 10
  pub ones : d ≡ 48 + n % 10

pub four_digits-again : (a b c d n : ℕ) → four_digits (a ∷ b ∷ c ∷ d ∷ []) ≡ Some n → AreFourDigitsOf n a b c d
four_digits-again a b c d n e = record {
  thousands = grind (arith, nat_tests);
  hundreds = grind (arith, nat_tests);
  tens = grind (arith, nat_tests);
  ones = grind (arith, nat_tests);
}
