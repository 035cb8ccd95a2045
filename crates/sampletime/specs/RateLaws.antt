-- Laws that hold at each of the three frame rates.
use Rattle.std.proofs.Common.{◌≡◌, ℕ, ◌/◌, ◌%◌, ◌<◌, ◌≤◌, Bool, true, false, refl, subst, arith}
use Rattle.std.specs.Prelude.{◌==◌}
use Rattle.std.proofs.lemmas.Bool.Decides.{nat_tests}
use Rattle.sampletime.specs.FrameRate.{frames_per_second, is_rate}
use Rattle.sampletime.specs.TimeCode.{day, frame_samples, is_in_day, samples_of_parts}
use Rattle.sampletime.specs.declared.frame_rate.Rate.{Rate}
use Rattle.sampletime.specs.declared.frame_rate.Rate.TheVariants.{Frames24, Frames25, Frames30}

pub is_rate-of : (rate : Rate) → is_rate (frames_per_second rate) ≡ true
is_rate-of Frames24 = refl
is_rate-of Frames25 = refl
is_rate-of Frames30 = refl

same_number : (a b : ℕ) → (a == b) ≡ true → b ≡ a
same_number a b h = grind (arith, nat_tests)

-- a property of all three frame rates holds for every frame rate
pub at_each_rate :
    (P : ℕ → Type 0) → P 24 → P 25 → P 30 → (rate : ℕ) → is_rate rate ≡ true → P rate
at_each_rate P a b c rate h = by_tests (rate == 24) refl (rate == 25) refl (rate == 30) refl where
  by_tests :
      (first : Bool) → (rate == 24) ≡ first → (second : Bool) → (rate == 25) ≡ second → (third : Bool)
      → (rate == 30) ≡ third → P rate
  by_tests true e second f third g = subst P (same_number rate 24 e) a
  by_tests false e true f third g = subst P (same_number rate 25 f) b
  by_tests false e false f true g = subst P (same_number rate 30 g) c
  by_tests false e false f false g = let no : false ≡ true = rw (e, f, g) at h in absurd (cc)

-- frame within its second, and samples after the last whole frame, of a number of samples
abbrev pub frame_of : (rate t : ℕ) → ℕ
frame_of rate t = t / frame_samples rate % rate

abbrev pub remainder_of : (rate t : ℕ) → ℕ
remainder_of rate t = t % frame_samples rate

-- the fields of a time of day are within their limits, add up to its samples, and have at most two (remainder: four)
-- digits
pub record DividesDay (rate : ℕ) : Type 0 where
  pub in_day :
      (t : ℕ) → t ≤ day
      → is_in_day rate (t / 172800000) (t / 2880000 % 60) (t / 48000 % 60) (frame_of rate t) (remainder_of rate t)
      ≡ true
  pub samples :
      (t : ℕ)
      → samples_of_parts rate (t / 172800000) (t / 2880000 % 60) (t / 48000 % 60) (frame_of rate t)
      (remainder_of rate t) ≡ t
  pub frame : (t : ℕ) → frame_of rate t < 100
  pub remainder : (t : ℕ) → remainder_of rate t < 10000

divides_24 : DividesDay 24
divides_24 = record {
  in_day = λ t h. grind (arith, nat_tests);
  samples = λ t. omega arith;
  frame = λ t. omega arith;
  remainder = λ t. omega arith;
}

divides_25 : DividesDay 25
divides_25 = record {
  in_day = λ t h. grind (arith, nat_tests);
  samples = λ t. omega arith;
  frame = λ t. omega arith;
  remainder = λ t. omega arith;
}

divides_30 : DividesDay 30
divides_30 = record {
  in_day = λ t h. grind (arith, nat_tests);
  samples = λ t. omega arith;
  frame = λ t. omega arith;
  remainder = λ t. omega arith;
}

pub divides_day : (rate : ℕ) → is_rate rate ≡ true → DividesDay rate
divides_day = at_each_rate DividesDay divides_24 divides_25 divides_30
