-- First sample frame that is not zero, under a change of numbering.
use Rattle.std.proofs.Common.{◌≡◌, ℕ, ◌+◌, ◌-◌, ◌<◌, ◌≤◌, Option, None, Some, arith}
use Rattle.std.specs.Prelude.{◌↔◌, IfSome, option_map}
use Rattle.silence.specs.Zero.{IsFirstSounding}

-- numbered from a sample frame of the file on
pub counted_from : (P Q : ℕ → Type 0) (from count : ℕ) → ((i : ℕ) → i < count → P i ↔ Q (from + i))
    → (found : Option ℕ) → IsFirstSounding P 0 count found
    → IsFirstSounding Q from (from + count) (option_map (λ i. from + i) found)
counted_from P Q from count same None each = λ i low high.
    let there : i ≡ from + (i - from) = omega arith in
    rw there ((same (i - from) (omega arith)).0 (each (i - from) (omega arith) (omega arith)))
counted_from P Q from count same (Some n) (low, high, each, sounds) =
    (omega arith, omega arith, before, λ silent. sounds ((same n high).1 silent)) where
      before : (i : ℕ) → from ≤ i → i < from + n → Q i
      before i least below =
          let there : i ≡ from + (i - from) = omega arith in
          rw there ((same (i - from) (omega arith)).0 (each (i - from) (omega arith) (omega arith)))

-- the result is less than the count
pub found_below : (P : ℕ → Type 0) (count : ℕ) (found : Option ℕ) → IsFirstSounding P 0 count found
    → IfSome found (λ i. i < count)
found_below P count None each = tt
found_below P count (Some n) (low, high, each, sounds) = high
