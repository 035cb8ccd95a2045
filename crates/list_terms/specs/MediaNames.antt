-- Laws of media file names: different numbers have different names, none is the list's name, the URL of a medium
-- names it, and formatting prints it.
use Rattle.std.proofs.Common.{◌≡◌, ◌≢◌, ℕ, ◌+◌, ◌/◌, ◌%◌, ◌-◌, ◌^◌, ◌<◌, ◌≤◌, Bool, true, false, not, List, [], ◌∷◌, ◌++◌, length, drop, All, Some, refl, sym, ap, ◌∙◌, ⊎_elim, arith, bytes_eq}
use Rattle.std.specs.Prelude.{codes, decimal, ◌||◌, ◌&&◌, ◌==◌, nat_le, nat_lt}
use Rattle.std.specs.Fmt.{char_count, format_spec, padded_integral}
use Rattle.std.specs.List.{suffix_len, after_last}
use Rattle.std.proofs.lemmas.Bool.{cases_lt}
use Rattle.std.proofs.lemmas.Bool.Decides.{nat_tests}
use Rattle.std.proofs.lemmas.Fmt.{decimal_digit}
use Rattle.std.proofs.lemmas.List.{append-nil, append_assoc}
use Rattle.std.proofs.lemmas.List.Elements.{All-head, All-tail, All-weaker, All-get_or, All-nil, All-cons}
use Rattle.std.proofs.lemmas.List.Folds.{list_any_none}
use Rattle.std.proofs.lemmas.List.Sums.{suffix_len_is}
use Rattle.std.proofs.lemmas.Slice.Eq.{bytes_eq-Decides}
use Rattle.std.proofs.lemmas.Str.{IsUtf8-from_ascii, is_utf8-from_IsUtf8}
use Rattle.std.proofs.lemmas.Str.Ascii.{IsAscii-from_all}
use native.Mathlib.Numerals.{unary_clauses}
use Rattle.facts.specs.Digits.{decimal_five, decimal_four, decimal_three, decimal_two}
use Rattle.percent_encoding.specs.Percent.{percent_decode}
use Rattle.percent_encoding.proofs.PercentLemmas.{percent_decode-nil, percent_decode_not_percent}
use Rattle.list_terms.specs.Names.{is_media_name, place_of_path, place_of_url}
use Rattle.list_terms.specs.Renewed.{media_name}

-- The media file name with these five digits.
abbrev five_digits : (a b c d e : ℕ) → List ℕ
five_digits a b c d e = 77 ∷ a ∷ b ∷ c ∷ d ∷ e ∷ 46 ∷ 119 ∷ 97 ∷ 118 ∷ []

same_five : (a b c d e a' b' c' d' e' : ℕ) → a ≡ a' → b ≡ b' → c ≡ c' → d ≡ d' → e ≡ e'
    → five_digits a b c d e ≡ five_digits a' b' c' d' e'
same_five a b c d e a' b' c' d' e' ea eb ec ed ee = cc

-- The media file name of a number below 100,000.
abbrev name_of : ℕ → List ℕ
name_of n = five_digits (48 + n / 10000) (48 + n / 1000 % 10) (48 + n / 100 % 10) (48 + n / 10 % 10) (48 + n % 10)

-- The name of a medium below 100,000 has exactly five digits.
media_name-five : (n : ℕ) → n < 100000 → media_name n ≡ name_of n
unfolding media_name
media_name-five n h =
    ⊎_elim
    (λ one. rw (decimal_digit n one) (same_five _ _ _ _ _ _ _ _ _ _ (omega arith) (omega arith) (omega arith)
    (omega arith) (omega arith)))
    (λ two. ⊎_elim
    (λ low. rw (decimal_two n two low) (same_five _ _ _ _ _ _ _ _ _ _ (omega arith) (omega arith) (omega arith)
    (omega arith) (omega arith)))
    (λ three. ⊎_elim
    (λ low. rw (decimal_three n three low) (same_five _ _ _ _ _ _ _ _ _ _ (omega arith) (omega arith) (omega arith)
    (omega arith) (omega arith)))
    (λ four. ⊎_elim
    (λ low. rw (decimal_four n four low) (same_five _ _ _ _ _ _ _ _ _ _ (omega arith) (omega arith) (omega arith)
    (omega arith) (omega arith)))
    (λ five. rw (decimal_five n five h) (same_five _ _ _ _ _ _ _ _ _ _ (omega arith) (omega arith) (omega arith)
    (omega arith) (omega arith)))
    (cases_lt n 10000))
    (cases_lt n 1000))
    (cases_lt n 100))
    (cases_lt n 10)

-- Equal names have equal digits.
same_digits : (a b c d e a' b' c' d' e' : ℕ) → five_digits a b c d e ≡ five_digits a' b' c' d' e'
    → (a ≡ a') × (b ≡ b') × (c ≡ c') × (d ≡ d') × (e ≡ e')
same_digits a b c d e a' b' c' d' e' same = (cc, cc, cc, cc, cc)

-- The name of a medium determines its number.
pub media_name-injective : (m n : ℕ) → m < 100000 → n < 100000 → media_name m ≡ media_name n → m ≡ n
media_name-injective m n few many same =
    let digits = same_digits _ _ _ _ _ _ _ _ _ _ (sym (media_name-five m few) ∙ same ∙ media_name-five n many) in
    omega (arith, digits)

-- Different numbers have different names.
pub other_media_name : (m n : ℕ) → m < 100000 → n < 100000 → m ≢ n → bytes_eq (media_name m) (media_name n) ≡ false
other_media_name m n few many other = by_test (bytes_eq (media_name m) (media_name n)) refl where
  by_test : (same : Bool) → bytes_eq (media_name m) (media_name n) ≡ same → same ≡ false
  by_test true same =
      absurd (other (media_name-injective m n few many ((bytes_eq-Decides (media_name m) (media_name n)).0 same)))
  by_test false same = refl

-- ---- their URLs

-- A byte that needs no escape in a path.
record IsPlainByte (byte : ℕ) : Type 0 where
  ascii : byte < 128
  no_percent : byte ≢ 37
  no_slash : not (byte == 47) ≡ true
  no_slash_nor_nul : ((byte == 47) || (byte == 0)) ≡ false

plain : (b : ℕ) → 40 ≤ b → b < 128 → b ≢ 47 → IsPlainByte b
plain b low high other = record {
  ascii = high;
  no_percent = λ same. omega (arith, same);
  no_slash = grind (arith, nat_tests);
  no_slash_nor_nul = grind (arith, nat_tests);
}

digit : (d : ℕ) → d < 10 → IsPlainByte (48 + d)
digit d below = plain (48 + d) (omega arith) (omega arith) (λ same. omega (arith, same))

-- Letters and the full stop need no escape.
letter : (b : ℕ) → (nat_le 40 b && (nat_lt b 128 && not (b == 47))) ≡ true → IsPlainByte b
letter b is = plain b (grind (arith, nat_tests)) (grind (arith, nat_tests)) (λ same. grind (arith, nat_tests))

-- The ending `.wav` after the digits.
abbrev behind : List ℕ
behind = 46 ∷ 119 ∷ 97 ∷ 118 ∷ []

five_plain : (a b c d e : ℕ) → IsPlainByte a → IsPlainByte b → IsPlainByte c → IsPlainByte d → IsPlainByte e
    → All IsPlainByte (five_digits a b c d e)
five_plain a b c d e pa pb pc pd pe =
    All-cons IsPlainByte 77 (a ∷ b ∷ c ∷ d ∷ e ∷ behind) (letter 77 refl)
    (All-cons IsPlainByte a (b ∷ c ∷ d ∷ e ∷ behind) pa
    (All-cons IsPlainByte b (c ∷ d ∷ e ∷ behind) pb
    (All-cons IsPlainByte c (d ∷ e ∷ behind) pc
    (All-cons IsPlainByte d (e ∷ behind) pd
    (All-cons IsPlainByte e behind pe
    (All-cons IsPlainByte 46 (119 ∷ 97 ∷ 118 ∷ []) (letter 46 refl)
    (All-cons IsPlainByte 119 (97 ∷ 118 ∷ []) (letter 119 refl)
    (All-cons IsPlainByte 97 (118 ∷ []) (letter 97 refl)
    (All-cons IsPlainByte 118 [] (letter 118 refl)
    (All-nil IsPlainByte))))))))))

plain_name : (n : ℕ) → n < 100000 → All IsPlainByte (name_of n)
plain_name n h =
    five_plain (48 + n / 10000) (48 + n / 1000 % 10) (48 + n / 100 % 10) (48 + n / 10 % 10) (48 + n % 10)
    (digit (n / 10000) (omega arith)) (digit (n / 1000 % 10) (omega arith)) (digit (n / 100 % 10) (omega arith))
    (digit (n / 10 % 10) (omega arith)) (digit (n % 10) (omega arith))

percent_decode-plain : (name : List ℕ) → All IsPlainByte name → percent_decode name ≡ name
percent_decode-plain [] all = percent_decode-nil
percent_decode-plain (b ∷ rest) all =
    percent_decode_not_percent b rest (All-head IsPlainByte b rest all).no_percent
    ∙ ap (λ x. b ∷ x) (percent_decode-plain rest (All-tail IsPlainByte b rest all))

after_last-plain : (name : List ℕ) → All IsPlainByte name → after_last (λ b. b == 47) name ≡ name
after_last-plain name all =
    let whole = suffix_len_is (λ b. not (b == 47)) name 0 0 (omega arith)
    (λ k _ h. (All-get_or IsPlainByte name k 0 h all).no_slash) (λ h. absurd (omega arith)) in
    let none : length name - suffix_len (λ b. not (b == 47)) name ≡ 0 = omega arith in
    ap (λ n. drop n name) none

is_media_name-of_number : (n : ℕ) → n < 100000 → is_media_name (name_of n) ≡ true
is_media_name-of_number n h =
    let all = plain_name n h in
    let text = is_utf8-from_IsUtf8 (name_of n) (IsUtf8-from_ascii (name_of n)
    (IsAscii-from_all (name_of n) (All-weaker IsPlainByte (λ b. b < 128) (λ b is. is.ascii) (name_of n) all))) in
    let none = list_any_none (λ b. (b == 47) || (b == 0)) (name_of n)
    (All-weaker IsPlainByte (λ b. ((b == 47) || (b == 0)) ≡ false) (λ b is. is.no_slash_nor_nul) (name_of n) all) in
    rw (text, none) refl

place_of_path-of_number : (n : ℕ) → n < 100000
    → place_of_path (name_of n) ≡ Some (record { path = name_of n; name = name_of n })
place_of_path-of_number n h =
    let all = plain_name n h in
    rw (after_last-plain (name_of n) all, percent_decode-plain (name_of n) all, is_media_name-of_number n h) refl

-- The URL of a medium names that medium.
pub media_place : (n : ℕ) → n < 100000
    → place_of_url (codes "URL:file://localhost/" ++ media_name n)
    ≡ Some (record { path = media_name n; name = media_name n })
media_place n h = rw (media_name-five n h) (place_of_path-of_number n h)

-- ---- printing

-- Formatting with zeros to five digits prints the media file name.
pub name_printed : (n : ℕ) → codes "M" ++ (padded_integral (format_spec 32 0 4 5 (2 ^ 64 - 1)) false [] (decimal n)
    ++ codes ".wav") ≡ media_name n
unfolding media_name padded_integral char_count
name_printed n = simp (append-nil, unary_clauses, append_assoc) refl
