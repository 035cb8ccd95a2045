-- AES31 time code at 48,000 samples per second: the text `hh.mm.ss.ff/rrrr` and the number of samples since midnight.
use Rattle.std.specs.Prelude.{ℕ, ◌+◌, ◌-◌, ◌*◌, ◌/◌, ◌%◌, Bool, false, ◌&&◌, ◌||◌, nat_lt, nat_le, ◌==◌, List, [], ◌∷◌, Option, Some, None, if◌then◌else◌}

-- number of samples in a day, at every frame rate
abbrev pub day : ℕ
day = 4147200000

-- number of samples per frame, at the given number of frames per second
abbrev pub frame_samples : ℕ → ℕ
frame_samples rate = 48000 / rate

-- number of samples in the given hours, minutes, seconds, frames and remaining samples
abbrev pub samples_of_parts : (rate h m s f r : ℕ) → ℕ
samples_of_parts rate h m s f r = (((h * 60 + m) * 60 + s) * rate + f) * frame_samples rate + r

-- each field is below its limit, or the fields are the end of the day: 24 hours with all others zero
abbrev pub is_in_day : (rate h m s f r : ℕ) → Bool
is_in_day rate h m s f r =
    (nat_lt h 24 && nat_lt m 60 && nat_lt s 60 && nat_lt f rate && nat_lt r (frame_samples rate))
    || (h == 24 && m == 0 && s == 0 && f == 0 && r == 0)

-- the byte is one of the seven separators : ; . , | = /
abbrev pub is_separator : ℕ → Bool
is_separator b = b == 58 || b == 59 || b == 46 || b == 44 || b == 124 || b == 61 || b == 47

-- a list of exactly four separators
abbrev pub are_separators : List ℕ → Bool
are_separators (a ∷ b ∷ c ∷ d ∷ []) = is_separator a && is_separator b && is_separator c && is_separator d
are_separators _ = false

-- separators of `00.00.00.00/0000`
abbrev pub default_separators : List ℕ
default_separators = 46 ∷ 46 ∷ 46 ∷ 47 ∷ []

-- the byte is an ASCII digit
abbrev pub is_digit : ℕ → Bool
is_digit b = nat_le 48 b && nat_le b 57

-- number written as two digits, or None if a byte is not a digit
abbrev pub two_digits : List ℕ → Option ℕ
two_digits (a ∷ b ∷ []) = if is_digit a && is_digit b then Some ((a - 48) * 10 + (b - 48)) else None
two_digits _ = None

-- number written as four digits, or None if a byte is not a digit
abbrev pub four_digits : List ℕ → Option ℕ
four_digits (a ∷ b ∷ c ∷ d ∷ []) = if is_digit a && is_digit b && is_digit c && is_digit d
    then Some ((a - 48) * 1000 + (b - 48) * 100 + (c - 48) * 10 + (d - 48)) else None
four_digits _ = None

-- samples and separators of parsed fields, or None if a field or a separator is invalid
abbrev pub time_of_parts : ℕ → (h m s f r : Option ℕ) → List ℕ → Option (ℕ × List ℕ)
time_of_parts rate (Some h) (Some m) (Some s) (Some f) (Some r) separators =
    if is_in_day rate h m s f r && are_separators separators then Some (samples_of_parts rate h m s f r, separators)
    else None
time_of_parts _ _ _ _ _ _ _ = None

-- samples and separators of a 16-byte time text, or None for any other text
abbrev pub samples_of : ℕ → List ℕ → Option (ℕ × List ℕ)
samples_of rate (h ∷ h' ∷ a ∷ m ∷ m' ∷ b ∷ s ∷ s' ∷ c ∷ f ∷ f' ∷ d ∷ r ∷ r' ∷ r'' ∷ r''' ∷ []) =
    time_of_parts rate (two_digits (h ∷ h' ∷ [])) (two_digits (m ∷ m' ∷ [])) (two_digits (s ∷ s' ∷ []))
    (two_digits (f ∷ f' ∷ [])) (four_digits (r ∷ r' ∷ r'' ∷ r''' ∷ [])) (a ∷ b ∷ c ∷ d ∷ [])
samples_of _ _ = None

-- time text of the given fields, in decimal digits with the separators between them
abbrev pub text_of_parts : (h m s f r : ℕ) → List ℕ → List ℕ
text_of_parts h m s f r (a ∷ b ∷ c ∷ d ∷ []) =
    (48 + h / 10) ∷ (48 + h % 10) ∷ a ∷ (48 + m / 10) ∷ (48 + m % 10) ∷ b ∷ (48 + s / 10) ∷ (48 + s % 10) ∷ c
    ∷ (48 + f / 10) ∷ (48 + f % 10) ∷ d ∷ (48 + r / 1000) ∷ (48 + r / 100 % 10) ∷ (48 + r / 10 % 10) ∷ (48 + r % 10)
    ∷ []
text_of_parts _ _ _ _ _ _ = []

-- time text of a number of samples, with these four separators
abbrev pub text_of : ℕ → ℕ → List ℕ → List ℕ
text_of rate samples separators =
    text_of_parts (samples / (48000 * 3600)) (samples / (48000 * 60) % 60) (samples / 48000 % 60)
    (samples / frame_samples rate % rate) (samples % frame_samples rate) separators
