-- Worked examples of lists with several faulty lines.
use Rattle.std.specs.Prelude.{refl, ℕ, true, false, List, [], ◌∷◌, ◌++◌, flat_map, codes}
use Rattle.work_terms.specs.Refusals.{Refusal, Line, LineEntry}
use Rattle.list_terms.specs.declared.Location.TheVariants as location
use Rattle.list_terms.specs.declared.TextFault.TheVariants.{BadNumber}
use Rattle.list_terms.specs.Lines.{cut_lines, lines_of}
use Rattle.list_terms.specs.Tokens.{token_at, all_tokens}
use Rattle.list_terms.specs.Fields.{number_up_to, channels_of, is_zero, is_whole_number, told_rate, field, optional_time, end_line}
use Rattle.list_terms.specs.Forms.{mapped, reads, reads_line, value_at}
use Rattle.list_terms.specs.EntryLines.{entry_keyword, entry_with, remark, sequence_line, system_line}
use Rattle.list_terms.specs.Text.{section_of, opened, before_list, outside, kept_line, in_header, in_unsupported, source_with, index_line, dropped_line, in_source_index, entry_of, entry_line, further_line, in_event_list, in_section, with_line, finished, read_from, opens, passed_before, passed_outside, passed_inside, passed, rate_of_line}
use Rattle.adlread.specs.declared.fault.AdlFault.{AdlFault}
use Rattle.adlread.specs.declared.fault.AdlFault.TheVariants.{Text}
use Rattle.adlread.specs.Further.{AreFurther, Last, More, Spelled, rate_beside, without, without_entry}

-- A list at 24 frames with a bad index number, followed by these lines.
abbrev list_with : List (List ℕ) → List ℕ
list_with lines = flat_map (λ line. line ++ (10 ∷ []))
    ((codes "<ADL>" ∷ codes "<SEQUENCE>" ∷ codes "(SEQ_SAMPLE_RATE) S48000" ∷ codes "(SEQ_FRAME_RATE) 24"
    ∷ codes "</SEQUENCE>" ∷ codes "<SOURCE_INDEX>"
    ∷ codes "(Index) 32768" ∷ codes "</SOURCE_INDEX>" ∷ []) ++ (lines ++ (codes "</ADL>" ∷ [])))

abbrev bad_index : AdlFault
bad_index = Text BadNumber (location.Line 7) (record { at = 8; length = 5 })

abbrev at_line : ℕ → ℕ → Refusal
at_line number line = record { number = number; location = Line line; late = false }

abbrev at_entry : ℕ → ℕ → ℕ → Refusal
at_entry number line entry = record { number = number; location = LineEntry line entry; late = false }

-- An unknown line of an entry; an entry with a bad channel, whose gain line is skipped; and a time with a frame
-- number that is too high.
pub of_entries :
    AreFurther
    (list_with (codes "<EVENT_LIST>"
    ∷ codes "(Entry) 0001 (Cut) I 0001 1 1 00.00.00.00/0000 01.00.00.00/0000 01.00.00.04/0000" ∷ codes "(Pan) 1"
    ∷ codes "(Entry) 0002 (Cut) I 0001 65 1 00.00.00.00/0000 01.00.00.00/0000 01.00.00.04/0000" ∷ codes "(Gain) -3.00"
    ∷ codes "(Entry) 0003 (Cut) I 0001 1 1 00.00.00.24/0000 01.00.00.00/0000 01.00.00.04/0000"
    ∷ codes "</EVENT_LIST>" ∷ [])) bad_index (at_entry 13 11 1 ∷ at_entry 8 12 2 ∷ at_entry 6 14 3 ∷ []) true
unfolding cut_lines lines_of token_at all_tokens number_up_to channels_of is_zero
    is_whole_number told_rate field optional_time end_line value_at reads reads_line mapped entry_keyword entry_with remark
    sequence_line system_line section_of opened before_list outside kept_line in_header in_unsupported source_with
    index_line dropped_line in_source_index entry_of entry_line further_line in_event_list in_section with_line finished
    read_from opens passed_before passed_outside passed_inside passed rate_of_line rate_beside without without_entry
of_entries = More _ refl refl (More _ refl refl (More _ refl refl (Spelled _ refl)))

-- A section that is opened again stops the iteration.
pub of_section : AreFurther (list_with (codes "<SEQUENCE>" ∷ [])) bad_index (at_line 5 9 ∷ []) false
unfolding cut_lines lines_of token_at all_tokens number_up_to channels_of is_zero
    is_whole_number told_rate field optional_time end_line value_at reads reads_line mapped entry_keyword entry_with remark
    sequence_line system_line section_of opened before_list outside kept_line in_header in_unsupported source_with
    index_line dropped_line in_source_index entry_of entry_line further_line in_event_list in_section with_line finished
    read_from opens passed_before passed_outside passed_inside passed rate_of_line rate_beside without without_entry
of_section = Last _ refl refl
