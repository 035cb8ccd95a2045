-- The division of a text into lines is unique.
use Rattle.std.proofs.Common.{◌≡◌, ℕ, Bool, true, false, List, [], ◌∷◌, ◌++◌, refl, ap, sym, ◌∙◌, arith}
use Rattle.std.specs.Prelude.{map, ◌==◌}
use Rattle.std.specs.List.{list_all, onto_first}
use Rattle.std.proofs.lemmas.Bool.Decides.{nat_tests}
use Rattle.facts.specs.Tests.{and_both, and_left, and_right}
use Rattle.list_terms.specs.Lines.{cut_lines, lines_of, without_cr, without_mark}
use Rattle.list_terms.specs.WholeProject.{is_line_byte}
use Rattle.adlread.specs.CutLines.{EndedPart, HasLines, HasParts, LastPart, NoPart}

no_end : (byte : ℕ) → is_line_byte byte ≡ true → (byte == 10) ≡ false
no_end byte h = grind (arith, nat_tests)

cut_lines-ended :
    (part rest : List ℕ) → list_all is_line_byte part ≡ true → cut_lines (part ++ (10 ∷ rest)) ≡ part ∷ cut_lines rest
unfolding cut_lines
cut_lines-ended [] rest h = refl
cut_lines-ended (b ∷ part) rest h =
    rw (
      no_end b (and_left (is_line_byte b) (list_all is_line_byte part) h),
      cut_lines-ended part rest (and_right (is_line_byte b) (list_all is_line_byte part) h),
    ) refl

cut_lines-last :
    (byte : ℕ) (part : List ℕ) → list_all is_line_byte (byte ∷ part) ≡ true
    → cut_lines (byte ∷ part) ≡ (byte ∷ part) ∷ []
unfolding cut_lines
cut_lines-last b [] h = rw (no_end b (and_left (is_line_byte b) true h)) refl
cut_lines-last b (c ∷ part) h =
    rw (
      no_end b (and_left (is_line_byte b) (list_all is_line_byte (c ∷ part)) h),
      cut_lines-last c part (and_right (is_line_byte b) (list_all is_line_byte (c ∷ part)) h),
    ) refl

parts_are : {text : List ℕ} {parts : List (List ℕ)} → HasParts text parts → cut_lines text ≡ parts
unfolding cut_lines
parts_are NoPart = refl
parts_are (LastPart byte part h) = cut_lines-last byte part h
parts_are (EndedPart part rest h others) = cut_lines-ended part rest h ∙ ap (λ ps. part ∷ ps) (parts_are others)

with_byte :
    (byte : ℕ) {text : List ℕ} {parts : List (List ℕ)} → is_line_byte byte ≡ true → HasParts text parts
    → HasParts (byte ∷ text) (onto_first byte parts)
with_byte byte is NoPart = LastPart byte [] (and_both (is_line_byte byte) true is refl)
with_byte byte is (LastPart next part h) =
    LastPart byte (next ∷ part) (and_both (is_line_byte byte) (list_all is_line_byte (next ∷ part)) is h)
with_byte byte is (EndedPart part rest h others) =
    EndedPart (byte ∷ part) rest (and_both (is_line_byte byte) (list_all is_line_byte part) is h) others

has_parts : (text : List ℕ) → HasParts text (cut_lines text)
unfolding cut_lines
has_parts [] = NoPart
has_parts (byte ∷ text) = by_test (byte == 10) refl (has_parts text) where
  by_test :
      (ends : Bool) → (byte == 10) ≡ ends → HasParts text (cut_lines text)
      → HasParts (byte ∷ text) (cut_lines (byte ∷ text))
  by_test true e others =
      let is : byte ≡ 10 = grind (arith, nat_tests) in
      rw is (EndedPart [] text refl others)
  by_test false e others =
      let is : is_line_byte byte ≡ true = rw e refl in
      rw e (with_byte byte is others)

pub lines_are_cut : (text : List ℕ) (lines : List (List ℕ)) → HasLines text lines → lines_of text ≡ lines
unfolding lines_of
lines_are_cut text lines h = ap (map without_cr) (parts_are h.cut) ∙ sym h.lines_are

pub has_lines : (text : List ℕ) → HasLines text (lines_of text)
unfolding lines_of
has_lines text = record { parts = cut_lines (without_mark text); cut = has_parts (without_mark text); lines_are = refl }
