-- Parsing and formatting time texts are inverse to each other.
use Rattle.std.proofs.Common.{◌≡◌, ℕ, ◌≤◌, List, [], ◌∷◌, Option, Some, None, IfSome, Bool, true, false, ◌&&◌, if◌then◌else◌, IsTrue, refl, sym, ap}
use Rattle.sampletime.specs.TimeCode.{day, are_separators, is_in_day, two_digits, four_digits, time_of_parts, samples_of, samples_of_parts, text_of}
use Rattle.sampletime.specs.FrameRate.{frames_per_second, is_rate}
use Rattle.sampletime.specs.RateLaws.{is_rate-of}
use Rattle.sampletime.specs.declared.frame_rate.Rate.{Rate}
use Rattle.sampletime.specs.TimeLaws.{samples_of-text_of}
use Rattle.sampletime.proofs.Digits.{two_digits-again, four_digits-again}
use Rattle.sampletime.proofs.Fields.{fields-again}

chosen : (b b' : Bool) (x y : ℕ × List ℕ) → (if b && b' then Some x else None) ≡ Some y → (b ≡ true) × (x ≡ y)
chosen true true x y e = (refl, cc)
chosen true false x y e = cc
chosen false b' x y e = cc

module _ (rate : ℕ) (known : is_rate rate ≡ true) where
  -- fields that parse to a time are all present and within the day
  record HaveTime (h' m' s' f' r' : Option ℕ) (separators : List ℕ) (t : ℕ) (separators' : List ℕ) : Type 0 where
    hours : ℕ
    minutes : ℕ
    seconds : ℕ
    frames : ℕ
    remainder : ℕ
    hours_is : h' ≡ Some hours
    minutes_is : m' ≡ Some minutes
    seconds_is : s' ≡ Some seconds
    frames_is : f' ≡ Some frames
    remainder_is : r' ≡ Some remainder
    in_day : is_in_day rate hours minutes seconds frames remainder ≡ true
    samples : t ≡ samples_of_parts rate hours minutes seconds frames remainder
    same : separators' ≡ separators

  time_of_parts-again :
      (h m s f r : Option ℕ) (separators : List ℕ) (t : ℕ) (separators' : List ℕ)
      → time_of_parts rate h m s f r separators ≡ Some (t, separators') → HaveTime h m s f r separators t separators'
  time_of_parts-again (Some h) (Some m) (Some s) (Some f) (Some r) separators t separators' e =
      let p = chosen (is_in_day rate h m s f r) (are_separators separators) (samples_of_parts rate h m s f r, separators)
      (t, separators') e in
      let q = p.1 in
      record {
        hours = h;
        minutes = m;
        seconds = s;
        frames = f;
        remainder = r;
        hours_is = refl;
        minutes_is = refl;
        seconds_is = refl;
        frames_is = refl;
        remainder_is = refl;
        in_day = p.0;
        samples = ap (λ x. x.0) (sym q);
        same = ap (λ x. x.1) (sym q);
      }
  time_of_parts-again None m s f r separators t separators' e = cc
  time_of_parts-again (Some h) None s f r separators t separators' e = cc
  time_of_parts-again (Some h) (Some m) None f r separators t separators' e = cc
  time_of_parts-again (Some h) (Some m) (Some s) None r separators t separators' e = cc
  time_of_parts-again (Some h) (Some m) (Some s) (Some f) None separators t separators' e = cc

  text_of-samples_of :
      (text : List ℕ) (t : ℕ) (separators : List ℕ) → samples_of rate text ≡ Some (t, separators)
      → text ≡ text_of rate t separators
  text_of-samples_of (h ∷ h' ∷ a ∷ m ∷ m' ∷ b ∷ s ∷ s' ∷ c ∷ f ∷ f' ∷ d ∷ r ∷ r' ∷ r'' ∷ r''' ∷ []) t separators e =
      let p = time_of_parts-again (two_digits (h ∷ h' ∷ [])) (two_digits (m ∷ m' ∷ [])) (two_digits (s ∷ s' ∷ []))
      (two_digits (f ∷ f' ∷ []))
      (four_digits (r ∷ r' ∷ r'' ∷ r''' ∷ [])) (a ∷ b ∷ c ∷ d ∷ []) t separators e in
      let eh = two_digits-again h h' p.hours p.hours_is in
      let em = two_digits-again m m' p.minutes p.minutes_is in
      let es = two_digits-again s s' p.seconds p.seconds_is in
      let ef = two_digits-again f f' p.frames p.frames_is in
      let er = four_digits-again r r' r'' r''' p.remainder p.remainder_is in
      let fields = fields-again rate known t p.hours p.minutes p.seconds p.frames p.remainder p.in_day p.samples in
      rw p.same cc
  text_of-samples_of _ t separators e = cc

-- formatting a parsed time gives the text back
pub text_is_again :
    (rate : Rate) (text : List ℕ) (time : Option (ℕ × List ℕ)) → time ≡ samples_of (frames_per_second rate) text
    → IfSome time (λ p. text ≡ text_of (frames_per_second rate) p.0 p.1)
text_is_again rate text None e = tt
text_is_again rate text (Some p) e =
    text_of-samples_of (frames_per_second rate) (is_rate-of rate) text p.0 p.1 (sym e)

-- parsing a formatted time gives the time back
pub time_is_again :
    (rate : Rate) (text : List ℕ) (t : ℕ) (separators : List ℕ) → text ≡ text_of (frames_per_second rate) t separators
    → t ≤ day → IsTrue (are_separators separators)
    → samples_of (frames_per_second rate) text ≡ Some (t, separators)
time_is_again rate text t separators e h i =
    rw e (samples_of-text_of (frames_per_second rate) t separators (is_rate-of rate) h i)
