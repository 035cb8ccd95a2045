-- Facts about splitting the first line off a text.
use Rattle.std.proofs.Common.{◌≡◌, ◌≢◌, ℕ, ◌+◌, ◌-◌, ◌<◌, ◌≤◌, Bool, true, false, List, [], ◌∷◌, ◌++◌, length, get_or, take, drop, All, refl, ap, ◌∙◌, arith}
use Rattle.std.specs.Prelude.{◌==◌, map}
use Rattle.std.proofs.lemmas.Bool.Decides.{nat_tests}
use Rattle.std.specs.List.{position_or_len, before_first, after_first, onto_first}
use Rattle.std.proofs.lemmas.List.{drop-drop, drop_all, get_or-take, length-drop, length-take, take_all, take_rest}
use Rattle.std.proofs.lemmas.List.Elements.{All-head, All-tail}
use Rattle.std.proofs.lemmas.List.Sums.{fails_before_first, passes_at_first, split_at_first}
use Rattle.list_terms.specs.Lines.{without_cr, cut_lines, lines_in}

-- A byte other than LF.
abbrev pub IsNoLf : ℕ → Type 0
IsNoLf byte = (byte == 10) ≡ false

cut_lines-nil : cut_lines [] ≡ []
unfolding cut_lines
cut_lines-nil = refl

cut_lines-lf : (rest : List ℕ) → cut_lines (10 ∷ rest) ≡ [] ∷ cut_lines rest
unfolding cut_lines
cut_lines-lf rest = refl

cut_lines-byte : (b : ℕ) (rest : List ℕ) → IsNoLf b → cut_lines (b ∷ rest) ≡ onto_first b (cut_lines rest)
unfolding cut_lines
cut_lines-byte b rest h = rw h

-- The first line of a text ends at its first LF.
cut_lines-line : (line rest : List ℕ) → All IsNoLf line → cut_lines (line ++ (10 ∷ rest)) ≡ line ∷ cut_lines rest
cut_lines-line [] rest all = cut_lines-lf rest
cut_lines-line (b ∷ line) rest all =
    cut_lines-byte b (line ++ (10 ∷ rest)) (All-head IsNoLf b line all)
    ∙ ap (onto_first b) (cut_lines-line line rest (All-tail IsNoLf b line all))

-- A last line without LF is a line.
cut_lines-last_line : (b : ℕ) (line : List ℕ) → All IsNoLf (b ∷ line) → cut_lines (b ∷ line) ≡ (b ∷ line) ∷ []
cut_lines-last_line b [] all = cut_lines-byte b [] (All-head IsNoLf b [] all) ∙ ap (onto_first b) cut_lines-nil
cut_lines-last_line b (c ∷ line) all =
    cut_lines-byte b (c ∷ line) (All-head IsNoLf b (c ∷ line) all)
    ∙ ap (onto_first b) (cut_lines-last_line c line (All-tail IsNoLf b (c ∷ line) all))

cut_lines-whole : (line : List ℕ) → 0 < length line → All IsNoLf line → cut_lines line ≡ line ∷ []
cut_lines-whole [] h all = absurd (omega arith)
cut_lines-whole (b ∷ line) h all = cut_lines-last_line b line all

-- Text that doesn't end with CR is kept whole.
pub without_cr-other : (text : List ℕ) → ((front : List ℕ) → text ≢ front ++ (13 ∷ [])) → without_cr text ≡ text
without_cr-other [] h = refl
without_cr-other (b ∷ []) h =
    let e : (b == 13) ≡ false = grind (arith, nat_tests, h []) in
    rw e
without_cr-other (b ∷ c ∷ text) h =
    ap (λ x. b ∷ x) (without_cr-other (c ∷ text) (λ front e. h (b ∷ front) (ap (λ x. b ∷ x) e)))

abbrev is_lf : ℕ → Bool
is_lf byte = byte == 10

-- There is no LF before the first LF.
no_lf_before : (text : List ℕ) → All IsNoLf (before_first is_lf text)
no_lf_before text k d h =
    let inside : k < position_or_len is_lf text = omega (arith, length-take (position_or_len is_lf text) text) in
    rw get_or-take (fails_before_first is_lf text k d inside)

ten_from_test : (b : ℕ) → is_lf b ≡ true → b ≡ 10
ten_from_test b h = grind (arith, nat_tests)

pub lines_in-nil : lines_in [] ≡ []
lines_in-nil = ap (map without_cr) cut_lines-nil

pub lines_in-empty : (text : List ℕ) → length text ≡ 0 → lines_in text ≡ []
lines_in-empty [] h = lines_in-nil
lines_in-empty (b ∷ text) h = absurd (omega arith)

pub lines_in-first :
    (text : List ℕ) (end : ℕ) → end ≡ position_or_len is_lf text → end < length text
    → lines_in text ≡ without_cr (take end text) ∷ lines_in (drop (end + 1) text)
lines_in-first text end at inside =
    let within : position_or_len is_lf text < length text = omega arith in
    let lf = ten_from_test (get_or text (position_or_len is_lf text) 0) (passes_at_first is_lf text 0 within) in
    let whole = split_at_first is_lf text 0 within in
    let first = cut_lines-line (before_first is_lf text) (after_first is_lf text) (no_lf_before text) in
    let cut : cut_lines text ≡ before_first is_lf text ∷ cut_lines (after_first is_lf text) =
    ap cut_lines whole ∙ rw lf first in
    let mapped : lines_in text ≡ without_cr (before_first is_lf text) ∷ lines_in (after_first is_lf text) =
    ap (map without_cr) cut in
    rw at mapped

pub lines_in-only :
    (text : List ℕ) (end : ℕ) → 0 < length text → end ≡ position_or_len is_lf text → length text ≤ end
    → lines_in text ≡ without_cr text ∷ []
lines_in-only text end some at past =
    ap (map without_cr) (cut_lines-whole text some (λ k d h. fails_before_first is_lf text k d (omega arith)))

-- Splitting off a line that ends with LF.
pub lines_in-cut :
    (text line after cut : List ℕ) (end : ℕ) → end ≡ position_or_len is_lf text → line ≡ take end text
    → after ≡ drop end text
    → cut ≡ without_cr line → 0 < length after → lines_in text ≡ cut ∷ lines_in (take (length after - 1) (drop 1 after))
lines_in-cut text line after cut end at front back trim some =
    let inside : end < length text = omega (arith, length-drop end text, ap length back) in
    let first = lines_in-first text end at inside in
    rw (trim, front, take_rest after 1, back, drop-drop 1 end text) first

-- Splitting off a last line without LF.
pub lines_in-last :
    (text line after cut : List ℕ) (end : ℕ) → 0 < length text → end ≡ position_or_len is_lf text → line ≡ take end text
    → after ≡ drop end text
    → cut ≡ without_cr line → length after < 1 → lines_in text ≡ cut ∷ lines_in after
lines_in-last text line after cut end some at front back trim none =
    let past : length text ≤ end = omega (arith, length-drop end text, ap length back) in
    let whole : line ≡ text = front ∙ take_all end text past in
    let empty : after ≡ [] = back ∙ drop_all end text past in
    rw (trim, whole, empty, lines_in-nil) (lines_in-only text end some at past)
