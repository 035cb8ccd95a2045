-- Worked examples of lists, and the refusals of lists that differ from them in one place.
use Rattle.std.specs.Prelude.{◌≡◌, refl, ℕ, false, List, [], ◌∷◌, ◌++◌, map, Option, None, Some, Result, Ok, Err, flat_map, codes}
use Rattle.std.specs.Str.{is_utf8, chars}
use lib.Utf8.{encode}
use Rattle.percent_encoding.specs.Percent.{percent_decode}
use Rattle.work_terms.specs.Refusals.{Refusal, Line, LineEntry, LineIndex}
use Rattle.list_terms.specs.declared.Notice.{Notice}
use Rattle.list_terms.specs.Project.{ListProject}
use Rattle.list_terms.specs.Lines.{cut_lines, lines_of}
use Rattle.list_terms.specs.Tokens.{token_at, all_tokens}
use Rattle.list_terms.specs.Fields.{number_up_to, channels_of, is_zero, is_whole_number, told_rate, field, optional_time, end_line}
use Rattle.list_terms.specs.Forms.{mapped, reads, reads_line, value_at}
use Rattle.list_terms.specs.EntryLines.{entry_keyword, entry_with, remark, sequence_line, system_line}
use Rattle.list_terms.specs.Text.{section_of, opened, before_list, outside, kept_line, in_header, in_unsupported, source_with, index_line, dropped_line, in_source_index, entry_of, entry_line, further_line, in_event_list, in_section, with_line, finished, read_from, opens, passed_before, passed_outside, passed_inside, passed, rate_of_line, rate_from, rate_of, text_value}

abbrev head : List (List ℕ)
head = codes "<ADL>" ∷ codes "<SEQUENCE>" ∷ codes "(SEQ_SAMPLE_RATE) S48000" ∷ codes "(SEQ_FRAME_RATE) 25"
    ∷ codes "</SEQUENCE>" ∷ codes "<SOURCE_INDEX>" ∷ []

abbrev source : List ℕ
source = codes "(Index) 0001 (F) \"URL:file://localhost/A.wav\" _ 00.00.00.00/0000 _"

abbrev entry : List ℕ
entry = codes "(Entry) 0001 (Cut) I 0001 1 1 00.00.00.00/0000 01.00.00.00/0000 01.00.00.00/0004"

-- A list with these index and entry lines.
abbrev list_of : List (List ℕ) → List (List ℕ) → List (List ℕ)
list_of sources entries =
    head ++ (sources ++ ((codes "</SOURCE_INDEX>" ∷ codes "<EVENT_LIST>" ∷ [])
    ++ (entries ++ (codes "</EVENT_LIST>" ∷ codes "</ADL>" ∷ []))))

abbrev text_with : List ℕ → List (List ℕ) → List ℕ
text_with end lines = flat_map (λ line. line ++ end) lines

abbrev refused : Result ListProject Refusal → Option Refusal
refused (Ok project) = None
refused (Err refusal) = Some refusal

abbrev answer : List (List ℕ) → Option Refusal
answer lines = refused (text_value (text_with (10 ∷ []) lines))

abbrev at_line : ℕ → ℕ → Option Refusal
at_line number line = Some (record { number = number; location = Line line; late = false })

abbrev at_entry : ℕ → ℕ → ℕ → Option Refusal
at_entry number line entry = Some (record { number = number; location = LineEntry line entry; late = false })

abbrev at_index : ℕ → ℕ → ℕ → Option Refusal
at_index number line index = Some (record { number = number; location = LineIndex line index; late = false })

-- The sample list is accepted with LF, with CR LF, after a byte order mark, and without a final line end.
pub accepted : map refused (text_value (text_with (10 ∷ []) (list_of (source ∷ []) (entry ∷ [])))
    ∷ text_value (text_with (13 ∷ 10 ∷ []) (list_of (source ∷ []) (entry ∷ [])))
    ∷ text_value ((239 ∷ 187 ∷ 191 ∷ []) ++ text_with (13 ∷ 10 ∷ []) (list_of (source ∷ []) (entry ∷ [])))
    ∷ text_value (text_with (10 ∷ []) (head ++ (source ∷ codes "</SOURCE_INDEX>" ∷ codes "<EVENT_LIST>" ∷ entry
    ∷ codes "</EVENT_LIST>" ∷ [])) ++ codes "</ADL>")
    ∷ [])
    ≡ None ∷ None ∷ None ∷ None ∷ []
unfolding is_utf8 chars encode percent_decode cut_lines lines_of token_at all_tokens number_up_to channels_of is_zero
    is_whole_number told_rate field optional_time end_line value_at reads reads_line mapped entry_keyword entry_with remark sequence_line
    system_line section_of opened before_list outside kept_line in_header in_unsupported source_with index_line
    dropped_line in_source_index entry_of entry_line further_line in_event_list in_section with_line finished read_from
    opens passed_before passed_outside passed_inside passed rate_of_line rate_from rate_of text_value
accepted = refl

-- The empty text, and lists without sections.
pub nearly_empty : map (λ text. refused (text_value text))
    ([] ∷ (239 ∷ 187 ∷ 191 ∷ []) ∷ codes "<ADL>\n</ADL>" ∷ codes "<ADL>\n<X>\n<X>\n" ∷ [])
    ≡ at_line 3 1 ∷ at_line 3 1 ∷ at_line 4 2 ∷ at_line 3 3 ∷ []
unfolding is_utf8 chars encode percent_decode cut_lines lines_of token_at all_tokens number_up_to channels_of is_zero
    is_whole_number told_rate field optional_time end_line value_at reads reads_line mapped entry_keyword entry_with remark sequence_line
    system_line section_of opened before_list outside kept_line in_header in_unsupported source_with index_line
    dropped_line in_source_index entry_of entry_line further_line in_event_list in_section with_line finished read_from
    opens passed_before passed_outside passed_inside passed rate_of_line rate_from rate_of text_value
nearly_empty = refl

-- An index or entry line is refused for its leftmost fault, with the number it carries.
pub entries_refused : map (λ line. answer (list_of (source ∷ []) (line ∷ [])))
    ((entry ++ (233 ∷ []))
    ∷ codes "(Entry) 0001 (Cut) I 0001 1 1 00.00.00.00/0000 01.00.00.25/0000 01.00.00.00/0004"
    ∷ codes "(Entry) 32768 (Cut) I 0001 1 1 00.00.00.00/0000 01.00.00.00/0000 01.00.00.00/0004"
    ∷ codes "(Entry) 0001 (Cut) I 0001 1~2 1 00.00.00.00/0000 01.00.00.00/0000 01.00.00.00/0004"
    ∷ codes "(Entry) 0001 (Cut) I 0001 1 1 00.00.00.00/0000 01.00.00.00/0000"
    ∷ codes "(Entry)0001(Cut)I 0001 1 1 00.00.00.00/0000 01.00.00.00/0000 01.00.00.00/0004"
    ∷ codes "(Gain) 0" ∷ codes "<x" ∷ codes "(Rem) \"any\" thing" ∷ [])
    ≡ at_entry 1 10 1 ∷ at_entry 6 10 1 ∷ at_line 7 10 ∷ at_entry 8 10 1 ∷ at_entry 10 10 1 ∷ None ∷ at_line 16 10
    ∷ at_line 3 10 ∷ None ∷ []
unfolding is_utf8 chars encode percent_decode cut_lines lines_of token_at all_tokens number_up_to channels_of is_zero
    is_whole_number told_rate field optional_time end_line value_at reads reads_line mapped entry_keyword entry_with remark sequence_line
    system_line section_of opened before_list outside kept_line in_header in_unsupported source_with index_line
    dropped_line in_source_index entry_of entry_line further_line in_event_list in_section with_line finished read_from
    opens passed_before passed_outside passed_inside passed rate_of_line rate_from rate_of text_value
entries_refused = refl

pub sources_refused : map (λ line. answer (list_of (line ∷ []) (entry ∷ [])))
    (codes "(Index) 0001 (F) \"URL:file://localhost/A.wav _ 00.00.00.00/0000 _"
    ∷ codes "(Index) 0001 (F) \"http://a/A.wav\" _ 00.00.00.00/0000 _"
    ∷ codes "anything else" ∷ codes "" ∷ [])
    ≡ at_index 2 7 1 ∷ at_index 9 7 1 ∷ None ∷ None ∷ []
unfolding is_utf8 chars encode percent_decode cut_lines lines_of token_at all_tokens number_up_to channels_of is_zero
    is_whole_number told_rate field optional_time end_line value_at reads reads_line mapped entry_keyword entry_with remark sequence_line
    system_line section_of opened before_list outside kept_line in_header in_unsupported source_with index_line
    dropped_line in_source_index entry_of entry_line further_line in_event_list in_section with_line finished read_from
    opens passed_before passed_outside passed_inside passed rate_of_line rate_from rate_of text_value
sources_refused = refl

-- Lines after an entry belong to that entry.
pub further_lines : map (λ lines. answer (list_of (source ∷ []) (entry ∷ lines)))
    ((entry ∷ []) ∷ (codes "(Infade) 00.00.00.00/0000" ∷ codes "(Infade) 00.00.00.00/0000" ∷ [])
    ∷ (codes "(Gain) 0.00" ∷ [])
    ∷ (codes "(Gain) -3.00" ∷ []) ∷ (codes "(Infade) 00.00.00.00/0000 COS" ∷ [])
    ∷ (codes "(Infade) 00.00.00.00/0002 COS" ∷ [])
    ∷ (codes "(Outfade) 00.00.00.00/0002 lin _ _ _" ∷ []) ∷ (codes "" ∷ []) ∷ (codes "(Infade" ∷ []) ∷ [])
    ≡ at_entry 14 11 1 ∷ at_entry 17 12 1 ∷ None ∷ at_entry 13 11 1 ∷ None ∷ at_entry 13 11 1 ∷ None ∷ None
    ∷ at_entry 2 11 1 ∷ []
unfolding is_utf8 chars encode percent_decode cut_lines lines_of token_at all_tokens number_up_to channels_of is_zero
    is_whole_number told_rate field optional_time end_line value_at reads reads_line mapped entry_keyword entry_with remark sequence_line
    system_line section_of opened before_list outside kept_line in_header in_unsupported source_with index_line
    dropped_line in_source_index entry_of entry_line further_line in_event_list in_section with_line finished read_from
    opens passed_before passed_outside passed_inside passed rate_of_line rate_from rate_of text_value
further_lines = refl

-- Misplaced sections, and rates.
pub sections_refused : map answer
    ((codes "<ADL>" ∷ codes "<SEQUENCE>" ∷ codes "(SEQ_SAMPLE_RATE) S48000" ∷ codes "(SEQ_FRAME_RATE) 25"
    ∷ codes "</PROJECT>" ∷ [])
    ∷ (codes "<ADL>" ∷ codes "<SEQUENCE>" ∷ codes "</SEQUENCE>" ∷ codes "" ∷ codes "<SEQUENCE>" ∷ [])
    ∷ (codes "<ADL>" ∷ codes "<SEQUENCE>" ∷ codes "(SEQ_SAMPLE_RATE) 48000" ∷ codes "(SEQ_FRAME_RATE) 29.97" ∷ [])
    ∷ (codes "<ADL>" ∷ codes "<SOURCE_INDEX>" ∷ codes "</SOURCE_INDEX>" ∷ codes "<EVENT_LIST>" ∷ codes " </Event_List>"
    ∷ codes "<sequence>"
    ∷ codes "(SEQ_FRAME_RATE) 25.000" ∷ codes "</SEQUENCE>" ∷ codes "</adl>" ∷ codes "behind" ∷ [])
    ∷ (codes "<ADL>" ∷ codes "<FADE_TABLE>" ∷ codes "" ∷ codes "x" ∷ [])
    ∷ (codes "<SEQUENCE>" ∷ []) ∷ [])
    ≡ at_line 3 5 ∷ at_line 5 5 ∷ at_line 12 4 ∷ at_line 11 9 ∷ at_line 13 4 ∷ at_line 3 1 ∷ []
unfolding is_utf8 chars encode percent_decode cut_lines lines_of token_at all_tokens number_up_to channels_of is_zero
    is_whole_number told_rate field optional_time end_line value_at reads reads_line mapped entry_keyword entry_with remark sequence_line
    system_line section_of opened before_list outside kept_line in_header in_unsupported source_with index_line
    dropped_line in_source_index entry_of entry_line further_line in_event_list in_section with_line finished read_from
    opens passed_before passed_outside passed_inside passed rate_of_line rate_from rate_of text_value
sections_refused = refl

-- An unknown section is skipped with a notice; an unknown line of SOURCE_INDEX is dropped with one.
abbrev notices : Result ListProject Refusal → List Notice
notices (Ok project) = project.notices
notices (Err refusal) = []

pub noticed : notices (text_value (text_with (10 ∷ [])
    (head ++ (source ∷ codes "more" ∷ codes "</SOURCE_INDEX>" ∷ codes "<MARKERS>" ∷ codes "x" ∷ codes "</MARKERS>"
    ∷ codes "<EVENT_LIST>" ∷ codes "</EVENT_LIST>" ∷ codes "</ADL>" ∷ []))))
    ≡ record { kind = 2; at = 8 } ∷ record { kind = 1; at = 10 } ∷ []
unfolding is_utf8 chars encode percent_decode cut_lines lines_of token_at all_tokens number_up_to channels_of is_zero
    is_whole_number told_rate field optional_time end_line value_at reads reads_line mapped entry_keyword entry_with remark sequence_line
    system_line section_of opened before_list outside kept_line in_header in_unsupported source_with index_line
    dropped_line in_source_index entry_of entry_line further_line in_event_list in_section with_line finished read_from
    opens passed_before passed_outside passed_inside passed rate_of_line rate_from rate_of text_value
noticed = refl
