-- Worked examples of the lines of refusals and comparisons, and of invisible characters.
use Rattle.std.specs.Prelude.{◌≡◌, ◌++◌, ◌∷◌, [], false, refl, codes, map, true}
use Rattle.std.specs.Fmt.{digits}
use Rattle.ucd_category.proofs.Computing.{ucd_category}
use Rattle.ucd_derived.proofs.Computing.{ucd_derived}
use Rattle.work_terms.specs.Refusals.{Nowhere, Line, LineEntry, LineIndex, Index, Entry, Job}
use Rattle.console.specs.declared.lines.ListOfTwo.TheVariants.{First, Second}
use Rattle.console.specs.Lines.{differ_text, in_list, is_unseen, refusal_text, same_text}

line_without_place : refusal_text 18 Nowhere ≡ codes "refused 18"
unfolding digits
line_without_place = refl

line_at_line : refusal_text 3 (Line 7) ≡ codes "refused 03 at line 7"
unfolding digits
line_at_line = refl

line_at_entry_line : refusal_text 7 (LineEntry 12 1) ≡ codes "refused 07 at line 12 entry 1"
unfolding digits
line_at_entry_line = refl

line_at_index_line : refusal_text 9 (LineIndex 65536 32767) ≡ codes "refused 09 at line 65536 index 32767"
unfolding digits
line_at_index_line = refl

line_at_index : refusal_text 30 (Index 10) ≡ codes "refused 30 at index 10"
unfolding digits
line_at_index = refl

line_at_entry : refusal_text 46 (Entry 9) ≡ codes "refused 46 at entry 9"
unfolding digits
line_at_entry = refl

line_at_job : refusal_text 66 (Job 0) ≡ codes "refused 66 at job 0"
unfolding digits
line_at_job = refl

line_in_first : refusal_text 46 (Entry 9) ++ in_list First ≡ codes "refused 46 at entry 9 in list 1"
unfolding digits
line_in_first = refl

line_without_place_in_second : refusal_text 57 Nowhere ++ in_list Second ≡ codes "refused 57 in list 2"
unfolding digits
line_without_place_in_second = refl

line_same : same_text 115200 2 ≡ codes "same 115200 frames 2 channels"
unfolding digits
line_same = refl

line_differ : differ_text (codes "01.00.00.00/0003") 64 ≡ codes "differ at 01.00.00.00/0003 channel 64"
unfolding digits
line_differ = refl

-- a control, the soft hyphen, ALM, the zero width space, a separator of lines, the blank Braille pattern, the Hangul
-- filler, a variation selector and a tag
invisible : map is_unseen
    (0x1B ∷ 0xAD ∷ 0x61C ∷ 0x200B ∷ 0x2028 ∷ 0x2800 ∷ 0x3164 ∷ 0xFE0F ∷ 0xE0041 ∷ [])
    ≡ true ∷ true ∷ true ∷ true ∷ true ∷ true ∷ true ∷ true ∷ true ∷ []
unfolding ucd_category ucd_derived
invisible = refl

-- `A`, the no-break space, a combining accent, an ideographic space and a private character
visible : map is_unseen (0x41 ∷ 0xA0 ∷ 0x301 ∷ 0x3000 ∷ 0xE000 ∷ []) ≡ false ∷ false ∷ false ∷ false ∷ false ∷ []
unfolding ucd_category ucd_derived
visible = refl
