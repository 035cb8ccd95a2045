-- Worked examples of the byte ranges of faults.
use Rattle.std.specs.Prelude.{◌≡◌, refl, ℕ, List, [], ◌∷◌, ◌++◌, map, codes}
use Rattle.adltoken.specs.declared.tokens.Span.{Span}
use Rattle.list_terms.specs.Lines.{cut_lines, lines_of}
use Rattle.list_terms.specs.Tokens.{token_at, all_tokens}
use Rattle.list_terms.specs.Fields.{number_up_to, channels_of, is_zero, is_whole_number, told_rate, field, optional_time, end_line}
use Rattle.list_terms.specs.Forms.{mapped, reads, reads_line, value_at}
use Rattle.list_terms.specs.EntryLines.{entry_keyword, entry_with, remark, sequence_line, system_line}
use Rattle.list_terms.specs.Text.{section_of, opened, before_list, outside, kept_line, in_header, in_unsupported, source_with, index_line, dropped_line, in_source_index, entry_of, entry_line, further_line, in_event_list, in_section, with_line, finished, read_from, opens, passed_before, passed_outside, passed_inside, passed, rate_of_line, rate_from, rate_of}
use Rattle.adlread.specs.FaultSpans.{end_span, event_line_span, fault_span, form_span, index_line_span, line_span, lines_span, next_span, section_span, text_span}

abbrev entry : List ℕ
entry = codes "(Entry) 0001 (Cut) I 0001 1 1 00.00.00.00/0000 01.00.00.00/0000 01.00.00.00/0004\n"

-- An event list with an entry and this line.
abbrev after_entry : List ℕ → List ℕ
after_entry line = codes "<ADL>\n<EVENT_LIST>\n" ++ (entry ++ line)

abbrev spans : List (ℕ × ℕ) → List Span
spans pairs = map (λ pair. record { at = pair.0; length = pair.1 }) pairs

-- Faults after an entry, and elsewhere.
pub faults_stand_at :
    (map (λ line. text_span (after_entry line))
    (codes " (Gain) -3 x" ∷ codes "(Infade)" ∷ codes "(Infade" ∷ codes "\t(Infade) \"x" ∷ codes "(Infade) 00.00.00.00/0002 COS"
    ∷ codes "(Entry) 32768 (Cut) I" ∷ codes "(Entry) 0001 (Cut) I" ∷ codes "(Entry) 0002 (Cut) I 0001 1~2 1 x"
    ∷ codes "(Entry)0002(Cut)I 0001 1 1 00.00.00.00/0000 01.00.00.25/0000" ∷ codes "(Rem) x )" ∷ codes "(Pan) 1" ∷ [])
    ≡ spans ((8, 2) ∷ (8, 0) ∷ (0, 7) ∷ (10, 2) ∷ (26, 3) ∷ (8, 5) ∷ (8, 4) ∷ (30, 1) ∷ (44, 16) ∷ (8, 1) ∷ (0, 5) ∷ []))
    × (map text_span
    (codes "" ∷ (239 ∷ 187 ∷ 191 ∷ codes " x") ∷ codes "<ADL>\n<X>\n<X>\n" ∷ codes "<ADL>\n </ADL> \nx"
    ∷ codes "<ADL>\n<SEQUENCE>\n(SEQ_SAMPLE_RATE) 44100" ∷ codes "<ADL>\n<SEQUENCE>\n(SEQ_FRAME_RATE) 25 \""
    ∷ codes "<ADL>\n<SYSTEM>\n(SYS_GAIN) 1" ∷ codes "<ADL>\n<SOURCE_INDEX>\n(Index) 0001 (F) \"http://a/A.wav\" _ _ _"
    ∷ codes "<ADL>\n<SOURCE_INDEX>\n <x y" ∷ codes "<ADL>\n<EVENT_LIST>\n(Gain) 0" ∷ codes "<ADL>\n<PAN>\n\n y z" ∷ [])
    ≡ spans ((0, 0) ∷ (1, 1) ∷ (0, 3) ∷ (1, 6) ∷ (18, 5) ∷ (20, 1) ∷ (11, 1) ∷ (17, 16) ∷ (1, 2) ∷ (0, 6) ∷ (1, 1) ∷ []))
unfolding cut_lines lines_of token_at all_tokens number_up_to channels_of is_zero
    is_whole_number told_rate field optional_time end_line value_at reads reads_line mapped entry_keyword entry_with remark sequence_line
    system_line section_of opened before_list outside kept_line in_header in_unsupported source_with index_line
    dropped_line in_source_index entry_of entry_line further_line in_event_list in_section with_line finished read_from
    opens passed_before passed_outside passed_inside passed rate_of_line rate_from rate_of end_span event_line_span
    fault_span form_span index_line_span line_span lines_span next_span section_span text_span
faults_stand_at = (refl, refl)
