-- The name of a medium has only visible characters, so a line has it unchanged.
use Rattle.std.proofs.Common.{◌≡◌, ◌∙◌, ℕ, ◌-◌, ◌/◌, ◌<◌, ◌≤◌, ◌%◌, ◌==◌, cond, Bool, true, false, ◌&&◌, List, [], ◌∷◌, ◌++◌, length, zero, suc, refl, ap, arith, codes}
use Rattle.std.specs.Prelude.{nat_le, nat_lt, decimal, replicate, encode_utf8}
use Rattle.std.specs.List.{All, flat_map, list_all}
use Rattle.std.specs.Bool.{beq}
use Rattle.std.proofs.lemmas.Bool.{and_parts, le-ltb, ne_eqb}
use Rattle.std.proofs.lemmas.Bool.Decides.{nat_tests}
use Rattle.std.specs.Fmt.{digit_glyph, digits, digits_onto}
use Rattle.std.proofs.lemmas.List.Elements.{All-nil, All-cons}
use Rattle.std.proofs.lemmas.List.Folds.{list_all-append}
use Rattle.std.proofs.lemmas.Str.{chars-IsAscii, encode_ascii}
use Rattle.std.proofs.lemmas.Str.Ascii.{IsAscii-from_all}
use Rattle.ucd_table.proofs.Facts.{Stepped-below, same_from_beq}
use Rattle.ucd_category.specs.GeneralCategory.{general_category}
use Rattle.ucd_category.proofs.Computing.{ucd_category}
use Rattle.ucd_category.proofs.GeneralCategoryLemmas.{general_category_stepped}
use Rattle.ucd_derived.specs.Binary.{is_default_ignorable_code_point}
use Rattle.ucd_derived.proofs.BinaryLemmas.{is_default_ignorable_code_point_stepped}
use Rattle.ucd_derived.proofs.Computing.{ucd_derived}
use Rattle.list_terms.specs.Renewed.{media_name}
use Rattle.console.specs.Lines.{is_hidden, is_unseen, printed_character, printed_name}

-- a printable ASCII character
abbrev is_plain : ℕ → Bool
is_plain b = nat_le 32 b && nat_le b 126

plain-bounds : (b : ℕ) → is_plain b ≡ true → (32 ≤ b) × (b ≤ 126)
plain-bounds b h = (grind (arith, nat_tests), grind (arith, nat_tests))

both : (x y : Bool) → x ≡ true → y ≡ true → (x && y) ≡ true
both x y one two = rw (one, two) refl

category-plain : (b : ℕ) → 32 ≤ b → b ≤ 126 → is_hidden (general_category b) ≡ false
unfolding ucd_category
category-plain b low high =
    same_from_beq _ _ (Stepped-below general_category general_category_stepped (λ x category. beq (is_hidden category) (nat_lt x 32)) 127
    refl b (omega (arith, high))) ∙ le-ltb b 32 low

ignored-plain : (b : ℕ) → b ≤ 126 → is_default_ignorable_code_point b ≡ false
unfolding ucd_derived
ignored-plain b high =
    same_from_beq _ _ (Stepped-below is_default_ignorable_code_point is_default_ignorable_code_point_stepped
    (λ x is_ignored. beq is_ignored false) 127 refl b (omega (arith, high)))

plain-seen : (b : ℕ) → 32 ≤ b → b ≤ 126 → is_unseen b ≡ false
plain-seen b low high =
    rw (category-plain b low high, ignored-plain b high, ne_eqb b 0x2800 (λ is. omega (arith, is, high))) refl

character-plain : (b : ℕ) → is_plain b ≡ true → printed_character b ≡ b ∷ []
character-plain b h =
    let within = plain-bounds b h in
    let one : encode_utf8 b ≡ b ∷ [] = encode_ascii b (omega arith) in
    rw (plain-seen b within.0 within.1, one) refl

characters-plain : (bs : List ℕ) → list_all is_plain bs ≡ true → flat_map printed_character bs ≡ bs
characters-plain [] h = refl
characters-plain (b ∷ bs) h =
    let first = character-plain b (and_parts (is_plain b) (list_all is_plain bs) h).0 in
    let rest = characters-plain bs (and_parts (is_plain b) (list_all is_plain bs) h).1 in
    rw (first, rest) refl

below : (bs : List ℕ) → list_all is_plain bs ≡ true → All (λ b. b < 128) bs
below [] h = All-nil (λ b. b < 128)
below (b ∷ bs) h =
    let within = plain-bounds b (and_parts (is_plain b) (list_all is_plain bs) h).0 in
    All-cons (λ x. x < 128) b bs (omega arith) (below bs (and_parts (is_plain b) (list_all is_plain bs) h).1)

name-plain : (bs : List ℕ) → list_all is_plain bs ≡ true → printed_name bs ≡ bs
name-plain bs h =
    ap (flat_map printed_character) (chars-IsAscii bs (IsAscii-from_all bs (below bs h))) ∙ characters-plain bs h

append-plain : (xs ys : List ℕ) → list_all is_plain xs ≡ true → list_all is_plain ys ≡ true
    → list_all is_plain (xs ++ ys) ≡ true
append-plain xs ys one two = list_all-append is_plain xs ys ∙ both _ _ one two

zeros-plain : (n : ℕ) → list_all is_plain (replicate n 48) ≡ true
zeros-plain zero = refl
zeros-plain (suc n) = zeros-plain n

glyph-plain : (d : ℕ) → d < 10 → is_plain (digit_glyph false d) ≡ true
glyph-plain d small = grind (arith, nat_tests)

onto-plain : (k n : ℕ) (text : List ℕ) → list_all is_plain text ≡ true
    → list_all is_plain (digits_onto k 10 false n text) ≡ true
onto-plain zero n text so_far = so_far
onto-plain (suc k) n text so_far =
    let more = both (is_plain (digit_glyph false (n % 10))) (list_all is_plain text)
    (glyph-plain (n % 10) (omega arith)) so_far in
    elim (n / 10 == 0) as (λ b. list_all is_plain (cond b (digit_glyph false (n % 10) ∷ text)
    (digits_onto k 10 false (n / 10) (digit_glyph false (n % 10) ∷ text))) ≡ true)
    [ true ↦ more | false ↦ onto-plain k (n / 10) (digit_glyph false (n % 10) ∷ text) more ]

decimal-plain : (n : ℕ) → list_all is_plain (decimal n) ≡ true
unfolding digits
decimal-plain n = onto-plain 64 n [] refl

media-plain : (n : ℕ) → list_all is_plain (media_name n) ≡ true
unfolding media_name
media-plain n =
    let zeros = replicate (5 - length (decimal n)) 48 in
    append-plain (codes "M") (zeros ++ (decimal n ++ codes ".wav")) refl
    (append-plain zeros (decimal n ++ codes ".wav") (zeros-plain (5 - length (decimal n)))
    (append-plain (decimal n) (codes ".wav") (decimal-plain n) refl))

-- the name of a medium is printed unchanged
pub printed_name-medium : (number : ℕ) → printed_name (media_name number) ≡ media_name number
printed_name-medium number = name-plain (media_name number) (media-plain number)
