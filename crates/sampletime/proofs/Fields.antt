-- The fields of a time: quotients and remainders of its samples that add up to the samples again.
use Rattle.std.proofs.Common.{◌≡◌, ℕ, ◌/◌, ◌%◌, ◌<◌, true, arith}
use Rattle.std.proofs.lemmas.Bool.Decides.{nat_tests}
use Rattle.sampletime.specs.FrameRate.{is_rate}
use Rattle.sampletime.specs.RateLaws.{at_each_rate, frame_of, remainder_of}
use Rattle.sampletime.specs.TimeCode.{is_in_day, samples_of_parts}

-- the fields of a time of t samples
pub record AreFieldsOf (rate t h m s f r : ℕ) : Type 0 where
  pub hours : h ≡ t / 172800000
  pub minutes : m ≡ t / 2880000 % 60
  pub seconds : s ≡ t / 48000 % 60
  pub frames : f ≡ frame_of rate t
  pub remainder : r ≡ remainder_of rate t

abbrev GivesFields : ℕ → Type 0
GivesFields rate =
    (t h m s f r : ℕ) → is_in_day rate h m s f r ≡ true → t ≡ samples_of_parts rate h m s f r
    → AreFieldsOf rate t h m s f r

fields_24 : GivesFields 24
fields_24 t h m s f r i e =
    let bm : m < 60 = grind (arith, nat_tests) in
    let bs : s < 60 = grind (arith, nat_tests) in
    let bf : f < 24 = grind (arith, nat_tests) in
    let br : r < 2000 = grind (arith, nat_tests) in
    record {
      hours = omega arith;
      minutes = omega arith;
      seconds = omega arith;
      frames = omega arith;
      remainder = omega arith;
    }

fields_25 : GivesFields 25
fields_25 t h m s f r i e =
    let bm : m < 60 = grind (arith, nat_tests) in
    let bs : s < 60 = grind (arith, nat_tests) in
    let bf : f < 25 = grind (arith, nat_tests) in
    let br : r < 1920 = grind (arith, nat_tests) in
    record {
      hours = omega arith;
      minutes = omega arith;
      seconds = omega arith;
      frames = omega arith;
      remainder = omega arith;
    }

fields_30 : GivesFields 30
fields_30 t h m s f r i e =
    let bm : m < 60 = grind (arith, nat_tests) in
    let bs : s < 60 = grind (arith, nat_tests) in
    let bf : f < 30 = grind (arith, nat_tests) in
    let br : r < 1600 = grind (arith, nat_tests) in
    record {
      hours = omega arith;
      minutes = omega arith;
      seconds = omega arith;
      frames = omega arith;
      remainder = omega arith;
    }

pub fields-again : (rate : ℕ) → is_rate rate ≡ true → GivesFields rate
fields-again = at_each_rate GivesFields fields_24 fields_25 fields_30
