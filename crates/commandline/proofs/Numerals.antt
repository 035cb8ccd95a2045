-- Numbers from decimal digits.
use Rattle.std.proofs.Common.{◌≡◌, ℕ, ◌^◌, ◌<◌, ◌≤◌, ◌&&◌, Bool, true, false, nat_le, nat_lt, List, [], ◌∷◌, length, None, Some, refl, arith}
use Rattle.std.specs.Char.{digit_value}
use Rattle.std.specs.List.{list_all}
use Rattle.std.specs.Str.Parse.{AllDigits, IsNumeral, digits_value, without_leading_plus}
use Rattle.std.proofs.lemmas.Bool.{and_parts, lt-ltb}
use Rattle.std.proofs.lemmas.Bool.Decides.{nat_tests}
use Rattle.commandline.specs.CommandLine.{is_numeral, number_in}

all_digits : (ds : List ℕ) → AllDigits 10 ds → list_all (λ digit. nat_lt (digit_value digit) 10) ds ≡ true
all_digits [] are = refl
all_digits (d ∷ ds) are = let first = lt-ltb (digit_value d) 10 are.0 in rw first (all_digits ds are.1)

first_and_rest : (d : ℕ) (rest : Bool) → (nat_lt (digit_value d) 10 && rest) ≡ true
    → (digit_value d < 10) × (rest ≡ true)
first_and_rest d rest both = by_first (nat_lt (digit_value d) 10) refl where
  by_first : (small : Bool) → nat_lt (digit_value d) 10 ≡ small → (digit_value d < 10) × (rest ≡ true)
  by_first true is = let others : rest ≡ true = rw is at both in (grind (arith, nat_tests, is), others)
  by_first false is = let none : false ≡ true = rw is at both in absurd (cc)

digits_all : (ds : List ℕ) → list_all (λ digit. nat_lt (digit_value digit) 10) ds ≡ true → AllDigits 10 ds
digits_all [] are = tt
digits_all (d ∷ ds) are =
    let parts = first_and_rest d (list_all (λ digit. nat_lt (digit_value digit) 10) ds) are in
    (parts.0, digits_all ds parts.1)

spelled : (ds : List ℕ) → is_numeral ds ≡ true → IsNumeral 10 ds
spelled ds is =
    let parts = and_parts (nat_le 1 (length ds)) (list_all (λ digit. nat_lt (digit_value digit) 10) ds) is in
    let some = parts.0 in
    (grind (arith, nat_tests, some), digits_all ds parts.1)

numeral : (ds : List ℕ) → IsNumeral 10 ds → is_numeral ds ≡ true
numeral ds is = let digits = all_digits ds is.1 in let some = is.0 in rw digits (grind (arith, nat_tests, some))

-- a number within its bounds
pub number_read : (low high number : ℕ) (text : List ℕ) → IsNumeral 10 (without_leading_plus text)
    → number ≡ digits_value 10 (without_leading_plus text)
    → low ≤ number → number ≤ high → number_in low high text ≡ Some number
number_read low high number text is same above below =
    let digits = numeral (without_leading_plus text) is in
    let over : nat_le low (digits_value 10 (without_leading_plus text)) ≡ true =
    rw (← same) (grind (arith, nat_tests, above)) in
    let under : nat_le (digits_value 10 (without_leading_plus text)) high ≡ true =
    rw (← same) (grind (arith, nat_tests, below)) in
    rw (digits, over, under, same) refl

-- a text that is no 64-bit number
pub number_unread : (low high : ℕ) (text : List ℕ) → high < 2 ^ 64
    → (IsNumeral 10 (without_leading_plus text) × (digits_value 10 (without_leading_plus text) < 2 ^ 64) → ⊥)
    → number_in low high text ≡ None
number_unread low high text few not = by_digits (is_numeral (without_leading_plus text)) refl where
  value : ℕ
  value = digits_value 10 (without_leading_plus text)

  by_bounds : (within : Bool) → (nat_le low value && nat_le value high) ≡ within
      → is_numeral (without_leading_plus text) ≡ true → number_in low high text ≡ None
  by_bounds true is digits =
      let under = (and_parts (nat_le low value) (nat_le value high) is).1 in
      let small : value < 2 ^ 64 = grind (arith, nat_tests, under, few) in
      absurd (not (spelled (without_leading_plus text) digits, small))
  by_bounds false is digits = rw (digits, is) refl

  by_digits : (digits : Bool) → is_numeral (without_leading_plus text) ≡ digits → number_in low high text ≡ None
  by_digits true is = by_bounds (nat_le low value && nat_le value high) refl is
  by_digits false is = rw is refl
