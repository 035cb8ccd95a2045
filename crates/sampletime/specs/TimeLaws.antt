-- Formatting a time and parsing the text gives the time back.
use Rattle.std.proofs.Common.{◌≡◌, ℕ, ◌+◌, ◌/◌, ◌%◌, ◌<◌, ◌≤◌, true, List, [], ◌∷◌, Some, IsTrue, arith}
use Rattle.std.proofs.lemmas.Bool.Decides.{nat_tests}
use Rattle.sampletime.specs.FrameRate.{is_rate}
use Rattle.sampletime.specs.RateLaws.{divides_day, frame_of, remainder_of}
use Rattle.sampletime.specs.TimeCode.{are_separators, day, four_digits, is_in_day, samples_of, samples_of_parts, text_of, time_of_parts, two_digits}

-- parsing the two digits of a number gives the number
two_digits-of : (n : ℕ) → n < 100 → two_digits ((48 + n / 10) ∷ (48 + n % 10) ∷ []) ≡ Some n
two_digits-of n h = grind (arith, nat_tests)

four_digits-of :
    (n : ℕ) → n < 10000
    → four_digits ((48 + n / 1000) ∷ (48 + n / 100 % 10) ∷ (48 + n / 10 % 10) ∷ (48 + n % 10) ∷ []) ≡ Some n
four_digits-of n h = grind (arith, nat_tests)

-- valid fields with valid separators are a time
time_of_parts-in_day :
    (rate h m s f r : ℕ) (separators : List ℕ) → is_in_day rate h m s f r ≡ true → are_separators separators ≡ true
    → time_of_parts rate (Some h) (Some m) (Some s) (Some f) (Some r) separators
    ≡ Some (samples_of_parts rate h m s f r, separators)
time_of_parts-in_day rate h m s f r separators i e = rw (i, e)

-- parsing a formatted time gives its samples and separators
pub samples_of-text_of :
    (rate t : ℕ) (separators : List ℕ) → IsTrue (is_rate rate) → t ≤ day → IsTrue (are_separators separators)
    → samples_of rate (text_of rate t separators) ≡ Some (t, separators)
samples_of-text_of rate t (a ∷ b ∷ c ∷ d ∷ []) known h i =
    let divides = divides_day rate known in
    let eh = two_digits-of (t / 172800000) (omega arith) in
    let em = two_digits-of (t / 2880000 % 60) (omega arith) in
    let es = two_digits-of (t / 48000 % 60) (omega arith) in
    let ef = two_digits-of (frame_of rate t) (divides.frame t) in
    let er = four_digits-of (remainder_of rate t) (divides.remainder t) in
    let e = time_of_parts-in_day rate (t / 172800000) (t / 2880000 % 60) (t / 48000 % 60) (frame_of rate t)
    (remainder_of rate t) (a ∷ b ∷ c ∷ d ∷ []) (divides.in_day t h) i in
    let et = divides.samples t in
    rw (eh, em, es, ef, er, e, et)
samples_of-text_of rate t _ known h i = cc
