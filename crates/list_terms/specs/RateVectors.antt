-- Worked examples of frame rates.
use Rattle.std.specs.Prelude.{◌≡◌, refl, ℕ, List, [], ◌∷◌, ◌++◌, map, codes}
use Rattle.list_terms.specs.Lines.{cut_lines, lines_of}
use Rattle.list_terms.specs.Tokens.{token_at, all_tokens}
use Rattle.list_terms.specs.Fields.{is_whole_number, told_rate, end_line}
use Rattle.list_terms.specs.Text.{section_of, opens, passed_before, passed_outside, passed_inside, passed, rate_of_line, rate_from, nothing_passed}

-- The rates of these lists.
abbrev rates_of : List (List (List ℕ)) → List ℕ
rates_of lists = map (rate_from nothing_passed) lists

abbrev events : List (List ℕ)
events = codes "<EVENT_LIST>" ∷ codes "(Entry) nothing is read here" ∷ codes "</EVENT_LIST>" ∷ []

abbrev sequence : List (List ℕ) → List (List ℕ)
sequence lines = codes "<Sequence>" ∷ (lines ++ (codes "</SEQUENCE>" ∷ []))

abbrev begins : List (List ℕ) → List (List ℕ)
begins lines = codes "<ADL>" ∷ lines

-- SEQUENCE after the entries; the first rate given counts; an unknown value is skipped.
pub first_told : rates_of (begins (events ++ sequence (codes "(SEQ_FRAME_RATE) 24" ∷ []))
    ∷ begins (sequence (codes "(SEQ_FRAME_RATE) 30.00" ∷ codes "(SEQ_FRAME_RATE) 24" ∷ []))
    ∷ begins (sequence (codes "(SEQ_FRAME_RATE) 23.976" ∷ codes "(seq_frame_rate) 24. more" ∷ []))
    ∷ begins (sequence (codes "(SEQ_FRAME_RATE) 24 \r" ∷ [])) ∷ [])
    ≡ 24 ∷ 30 ∷ 24 ∷ 24 ∷ []
unfolding cut_lines lines_of token_at all_tokens is_whole_number told_rate end_line section_of opens passed_before
    passed_outside passed_inside passed rate_of_line rate_from
first_told = refl

-- Rate 25 by default: no rate given, given outside SEQUENCE, after the list, or after a misplaced line.
pub untold : rates_of ([] ∷ begins (codes "<VERSION>" ∷ codes "(SEQ_FRAME_RATE) 24" ∷ [])
    ∷ begins (codes "</ADL>" ∷ sequence (codes "(SEQ_FRAME_RATE) 24" ∷ []))
    ∷ begins (sequence (codes "(SEQ_FRAME_RATE) 29.97" ∷ []))
    ∷ begins (sequence (codes "\"" ∷ codes "(SEQ_FRAME_RATE) 24" ∷ []))
    ∷ begins (sequence (codes "<X>" ∷ codes "(SEQ_FRAME_RATE) 24" ∷ []))
    ∷ begins (codes "<GAINS>" ∷ codes "x" ∷ codes "</GAINS>" ∷ sequence (codes "(SEQ_FRAME_RATE) 24" ∷ []))
    ∷ begins (sequence [] ++ sequence (codes "(SEQ_FRAME_RATE) 24" ∷ [])) ∷ [])
    ≡ 25 ∷ 25 ∷ 25 ∷ 25 ∷ 25 ∷ 25 ∷ 25 ∷ 25 ∷ []
unfolding cut_lines lines_of token_at all_tokens is_whole_number told_rate end_line section_of opens passed_before
    passed_outside passed_inside passed rate_of_line rate_from
untold = refl
