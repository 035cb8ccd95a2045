-- Decimal digits of numbers with two to five digits.
use Rattle.std.specs.Prelude.{◌≡◌, ℕ, ◌+◌, ◌/◌, ◌%◌, ◌<◌, ◌≤◌, List, [], ◌∷◌, ◌++◌, decimal}
use Rattle.std.proofs.Common.{ap, ◌∙◌, arith}
use Rattle.std.proofs.lemmas.Fmt.{decimal_digit, decimal_step}

-- the digits of n are the digits of n / 10 followed by the last digit
decimal_more :
    (n : ℕ) (front : List ℕ) → 10 ≤ n → n < 100000 → decimal (n / 10) ≡ front
    → decimal n ≡ front ++ ((48 + n % 10) ∷ [])
decimal_more n front low high e = decimal_step n low (omega arith) ∙ ap (λ ds. ds ++ ((48 + n % 10) ∷ [])) e

pub decimal_two : (n : ℕ) → 10 ≤ n → n < 100 → decimal n ≡ (48 + n / 10) ∷ (48 + n % 10) ∷ []
decimal_two n low high = decimal_more n _ low (omega arith) (decimal_digit (n / 10) (omega arith))

pub decimal_three :
    (n : ℕ) → 100 ≤ n → n < 1000 → decimal n ≡ (48 + n / 10 / 10) ∷ (48 + n / 10 % 10) ∷ (48 + n % 10) ∷ []
decimal_three n low high =
    decimal_more n _ (omega arith) (omega arith) (decimal_two (n / 10) (omega arith) (omega arith))

pub decimal_four :
    (n : ℕ) → 1000 ≤ n → n < 10000
    → decimal n ≡ (48 + n / 10 / 10 / 10) ∷ (48 + n / 10 / 10 % 10) ∷ (48 + n / 10 % 10) ∷ (48 + n % 10) ∷ []
decimal_four n low high =
    decimal_more n _ (omega arith) (omega arith) (decimal_three (n / 10) (omega arith) (omega arith))

pub decimal_five :
    (n : ℕ) → 10000 ≤ n → n < 100000
    → decimal n ≡ (48 + n / 10 / 10 / 10 / 10) ∷ (48 + n / 10 / 10 / 10 % 10) ∷ (48 + n / 10 / 10 % 10)
    ∷ (48 + n / 10 % 10) ∷ (48 + n % 10) ∷ []
decimal_five n low high =
    decimal_more n _ (omega arith) high (decimal_four (n / 10) (omega arith) (omega arith))
