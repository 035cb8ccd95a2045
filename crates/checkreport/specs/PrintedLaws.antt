-- A reader of JSON decodes what is printed to the text itself (RFC 8259, section 7).
use Rattle.std.proofs.Common.{◌≡◌, ◌∙◌, ℕ, zero, suc, ◌+◌, ◌-◌, ◌/◌, ◌%◌, ◌<◌, ◌≤◌, ◌⊎◌, inl, inr, Bool, true, false, cond, ◌&&◌, List, [], ◌∷◌, ◌++◌, Option, Some, None, ap, arith, append_assoc, refl, sym, subst, if◌then◌else◌, nat_le, option_and_then}
use Rattle.std.proofs.lemmas.Bool.{and_parts, cases_eq, cases_lt, le-leb, le-ltb, lt-leb, lt-ltb, ne_eqb}
use Rattle.std.proofs.lemmas.Str.{digit_value-digit_char, encodes-chars, scalars-chars}
use Rattle.std.specs.Prelude.{IsUtf8, encode_utf8}
use Rattle.std.specs.List.{flat_map}
use Rattle.std.specs.Char.{digit_char, is_digit}
use Rattle.std.specs.Char.Escape.{encode_utf16}
use Rattle.std.specs.Str.{all_scalars, chars, encode_utf8_all}
use lib.Utf8.{encode, scalar, scalar_cases}
use Rattle.json.specs.Print.{escape, escape_byte}
use Rattle.json.specs.Text.{after_high, code_unit, content, is_high_surrogate, is_low_surrogate, plain, prepend, short_escape, surrogate_pair}
use Rattle.json.proofs.Printed.Strings.{escape_byte_plain}
use Rattle.console.specs.Lines.{is_unseen}
use Rattle.checkreport.specs.Printed.{printed_in_string, unit_escape}

-- a byte, read after its escape
abbrev Reads : ℕ → Type 0
Reads x = (rest : List ℕ) → content plain (escape_byte x ++ rest) ≡ prepend (x ∷ []) (content plain rest)

abbrev Each : (ℕ → Type 0) → ℕ → Type 0
Each P zero = Unit {0}
Each P (suc n) = P n × Each P n

each : (P : ℕ → Type 0) (n : ℕ) → Each P n → (x : ℕ) → x < n → P x
each P zero all x below = absurd (omega (arith, below))
each P (suc n) all x below = go (each P n all.1 x) (cases_eq x n) where
  go : (x < n → P x) → (x ≡ n) ⊎ (x ≡ n → ⊥) → P x
  go less (inl is) = subst P (sym is) all.0
  go less (inr other) = less (omega (arith, below, other))

controls : Each Reads 32
unfolding escape_byte content code_unit short_escape encode
controls = (λ rest. refl, (λ rest. refl, (λ rest. refl, (λ rest. refl, (λ rest. refl, (λ rest. refl, (λ rest. refl, (λ rest. refl, (λ rest. refl, (λ rest. refl, (λ rest. refl, (λ rest. refl, (λ rest. refl, (λ rest. refl, (λ rest. refl, (λ rest. refl, (λ rest. refl, (λ rest. refl, (λ rest. refl, (λ rest. refl, (λ rest. refl, (λ rest. refl, (λ rest. refl, (λ rest. refl, (λ rest. refl, (λ rest. refl, (λ rest. refl, (λ rest. refl, (λ rest. refl, (λ rest. refl, (λ rest. refl, (λ rest. refl, tt))))))))))))))))))))))))))))))))

quote : Reads 34
unfolding escape_byte content short_escape
quote rest = refl

backslash : Reads 92
unfolding escape_byte content short_escape
backslash rest = refl

plain_byte : (x : ℕ) → (x ≡ 34 → ⊥) → (x ≡ 92 → ⊥) → 32 ≤ x → Reads x
unfolding content
plain_byte x no_quote no_backslash from rest =
    rw (escape_byte_plain x no_quote no_backslash from, ne_eqb x 34 no_quote, ne_eqb x 92 no_backslash, le-ltb x 32 from)

byte : (x : ℕ) → Reads x
byte x = go (cases_eq x 34) (cases_eq x 92) (cases_lt x 32) where
  go : (x ≡ 34) ⊎ (x ≡ 34 → ⊥) → (x ≡ 92) ⊎ (x ≡ 92 → ⊥) → (x < 32) ⊎ (32 ≤ x) → Reads x
  go (inl is) other size = subst Reads (sym is) quote
  go (inr no_quote) (inl is) size = subst Reads (sym is) backslash
  go (inr no_quote) (inr no_backslash) (inl below) = each Reads 32 controls x below
  go (inr no_quote) (inr no_backslash) (inr from) = plain_byte x no_quote no_backslash from

prepends : (one : ℕ) (more : List ℕ) (rest : Option (List ℕ)) → prepend (one ∷ []) (prepend more rest) ≡ prepend (one ∷ more) rest
prepends one more None = refl
prepends one more (Some text) = refl

prepends_none : (rest : Option (List ℕ)) → rest ≡ prepend [] rest
prepends_none None = refl
prepends_none (Some text) = refl

bytes : (text rest : List ℕ) → content plain (escape text ++ rest) ≡ prepend text (content plain rest)
bytes [] rest = prepends_none (content plain rest)
bytes (x ∷ text) rest =
    ap (content plain) (append_assoc (escape_byte x) (escape text) rest) ∙ byte x (escape text ++ rest)
    ∙ ap (prepend (x ∷ [])) (bytes text rest) ∙ prepends x text (content plain rest)

is_hex : (d : ℕ) → d < 16 → is_digit (digit_char d) 16 ≡ true
is_hex d below = rw (digit_value-digit_char d (omega (arith, below)), lt-ltb d 16 below)

-- four digits are the code unit that they were made of
unit_of : (u : ℕ) → u < 65536
    → code_unit (digit_char (u / 4096 % 16)) (digit_char (u / 256 % 16)) (digit_char (u / 16 % 16)) (digit_char (u % 16))
    ≡ Some u
unfolding code_unit
unit_of u below =
    let first : u / 4096 % 16 < 16 = omega arith in
    let second : u / 256 % 16 < 16 = omega arith in
    let third : u / 16 % 16 < 16 = omega arith in
    let last : u % 16 < 16 = omega arith in
    rw (
      is_hex (u / 4096 % 16) first,
      is_hex (u / 256 % 16) second,
      is_hex (u / 16 % 16) third,
      is_hex (u % 16) last,
      digit_value-digit_char (u / 4096 % 16) (omega (arith, first)),
      digit_value-digit_char (u / 256 % 16) (omega (arith, second)),
      digit_value-digit_char (u / 16 % 16) (omega (arith, third)),
      digit_value-digit_char (u % 16) (omega (arith, last)),
    ) (ap Some (omega (arith, below)))

abbrev after_unit : List ℕ → ℕ → Option (List ℕ)
after_unit rest u =
    cond (is_high_surrogate u) (content (after_high u) rest)
    (cond (is_low_surrogate u) None (prepend (encode_utf8 u) (content plain rest)))

-- an escaped unit is read as it is
reads_unit : (u : ℕ) (rest : List ℕ) → u < 65536 → content plain (unit_escape u ++ rest) ≡ after_unit rest u
unfolding content
reads_unit u rest below = ap (option_and_then (after_unit rest)) (unit_of u below)

reads_one : (u : ℕ) (rest : List ℕ) → (u < 0xD800) ⊎ ((0xE000 ≤ u) × (u < 65536))
    → content plain (unit_escape u ++ rest) ≡ prepend (encode_utf8 u) (content plain rest)
reads_one u rest (inl below) =
    reads_unit u rest (omega (arith, below)) ∙ rw (lt-leb 0xD800 u below, lt-leb 0xDC00 u (omega (arith, below))) refl
reads_one u rest (inr within) =
    let from = within.0 in
    reads_unit u rest within.1
    ∙ rw (
      le-leb 0xD800 u (omega (arith, from)),
      le-ltb u 0xDC00 (omega (arith, from)),
      le-leb 0xDC00 u (omega (arith, from)),
      le-ltb u 0xE000 from,
    ) refl

reads_pair : (high low : ℕ) (rest : List ℕ) → 0xD800 ≤ high → high < 0xDC00 → 0xDC00 ≤ low → low < 0xE000
    → content plain (unit_escape high ++ (unit_escape low ++ rest))
    ≡ prepend (encode_utf8 (surrogate_pair high low)) (content plain rest)
unfolding content
reads_pair high low rest from below low_from low_below =
    let with_low = λ (unit : ℕ). cond (is_low_surrogate unit) (prepend (encode_utf8 (surrogate_pair high unit)) (content plain rest)) None in
    let second : option_and_then with_low (code_unit (digit_char (low / 4096 % 16)) (digit_char (low / 256 % 16)) (digit_char (low / 16 % 16)) (digit_char (low % 16)))
    ≡ with_low low = ap (option_and_then with_low) (unit_of low (omega (arith, low_below))) in
    let both : with_low low ≡ prepend (encode_utf8 (surrogate_pair high low)) (content plain rest) =
    rw (le-leb 0xDC00 low low_from, lt-ltb low 0xE000 low_below) refl in
    reads_unit high (unit_escape low ++ rest) (omega (arith, below))
    ∙ rw (le-leb 0xD800 high from, lt-ltb high 0xDC00 below) (second ∙ both)

-- a character, read after its escapes
reads_units : (c : ℕ) (rest : List ℕ) → scalar c ≡ true
    → content plain (flat_map unit_escape (encode_utf16 c) ++ rest) ≡ prepend (encode_utf8 c) (content plain rest)
reads_units c rest is_scalar = go (cases_lt c 0x10000) (scalar_cases c is_scalar) where
  go : (c < 0x10000) ⊎ (0x10000 ≤ c) → (c < 0xD800) ⊎ ((0xE000 ≤ c) × (c < 0x110000))
      → content plain (flat_map unit_escape (encode_utf16 c) ++ rest) ≡ prepend (encode_utf8 c) (content plain rest)
  go (inl below) (inl low) = rw (lt-ltb c 0x10000 below) (reads_one c rest (inl low))
  go (inl below) (inr within) = rw (lt-ltb c 0x10000 below) (reads_one c rest (inr (within.0, below)))
  go (inr from) (inl low) = absurd (omega (arith, from, low))
  go (inr from) (inr within) =
      let most = within.1 in
      let high = 0xD800 + (c - 0x10000) / 0x400 in
      let low = 0xDC00 + (c - 0x10000) % 0x400 in
      let is : surrogate_pair high low ≡ c = omega (arith, from) in
      rw (le-ltb c 0x10000 from)
      (reads_pair high low rest (omega arith) (omega (arith, most)) (omega arith) (omega arith)
      ∙ ap (λ (one : ℕ). prepend (encode_utf8 one) (content plain rest)) is)

reads_character : (c : ℕ) (rest : List ℕ) → scalar c ≡ true
    → content plain (printed_in_string c ++ rest) ≡ prepend (encode_utf8 c) (content plain rest)
reads_character c rest is_scalar = go (nat_le 32 c && is_unseen c) where
  go : (is_escaped : Bool) → content plain
      ((if is_escaped then flat_map unit_escape (encode_utf16 c) else escape (encode_utf8 c)) ++ rest)
      ≡ prepend (encode_utf8 c) (content plain rest)
  go true = reads_units c rest is_scalar
  go false = bytes (encode_utf8 c) rest

characters : (cs rest : List ℕ) → all_scalars cs ≡ true
    → content plain (flat_map printed_in_string cs ++ 34 ∷ rest) ≡ Some (encode_utf8_all cs)
unfolding content
characters [] rest are = refl
characters (c ∷ cs) rest are =
    let parts = and_parts (scalar c) (all_scalars cs) are in
    ap (content plain) (append_assoc (printed_in_string c) (flat_map printed_in_string cs) (34 ∷ rest))
    ∙ reads_character c (flat_map printed_in_string cs ++ 34 ∷ rest) parts.0
    ∙ ap (prepend (encode_utf8 c)) (characters cs rest parts.1)

-- what is between the quotes of a printed string is decoded to its text
pub reads_back : (text rest : List ℕ) → IsUtf8 text
    → content plain (flat_map printed_in_string (chars text) ++ 34 ∷ rest) ≡ Some text
reads_back text rest is_text =
    characters (chars text) rest (scalars-chars text is_text) ∙ ap Some (encodes-chars text is_text)
