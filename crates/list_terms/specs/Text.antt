-- The project that a text spells, or its first fault: the first faulty line, and the leftmost fault in it.
use Rattle.std.specs.Prelude.{ℕ, ◌+◌, ◌==◌, ◌&&◌, ◌||◌, not, max, nat_le, Bool, true, false, List, [], ◌∷◌, ◌++◌, length, Option, None, Some, Result, Ok, Err, if◌then◌else◌, codes, option_and_then, option_map, unwrap_or, is_ok, is_some}
use Rattle.std.specs.Char.{is_ascii_alphanumeric}
use Rattle.std.specs.List.{list_all, list_any}
use Rattle.sampletime.specs.TimeCode.{default_separators}
use Rattle.sound_terms.specs.declared.Event.{Event}
use Rattle.work_terms.specs.Refusals.{Refusal, Where, Line, LineEntry, LineIndex}
use Rattle.list_terms.specs.declared.Notice.{Notice}
use Rattle.list_terms.specs.declared.Opened.{Opened}
use Rattle.list_terms.specs.declared.Section.{Section}
use Rattle.list_terms.specs.declared.Section.TheVariants as section
use Rattle.list_terms.specs.declared.Stage.{Stage}
use Rattle.list_terms.specs.declared.Stage.TheVariants as stage
use Rattle.list_terms.specs.declared.Location.{Location}
use Rattle.list_terms.specs.declared.Location.TheVariants as location
use Rattle.list_terms.specs.declared.TextFault.{TextFault}
use Rattle.list_terms.specs.declared.TextFault.TheVariants as fault
use Rattle.list_terms.specs.Project.{Header, Source, ListProject}
use Rattle.list_terms.specs.Names.{begins_with}
use Rattle.list_terms.specs.Steps.{◌>>=◌, ok_map, err_map}
use Rattle.list_terms.specs.Lines.{lines_of}
use Rattle.list_terms.specs.Tokens.{TokenText, token_at, trimmed, behind_blanks}
use Rattle.list_terms.specs.Fields.{is_same_name, is_keyword, end_line, told_rate}
use Rattle.list_terms.specs.Forms.{Number, reads, value_at}
use Rattle.list_terms.specs.declared.OpenEntry.{OpenEntry}
use Rattle.list_terms.specs.declared.Rates.{Rates}
use Rattle.list_terms.specs.EntryLines.{source_fields, event_fields, entry_with, remark, sequence_line, system_line}

-- A fault and its location.
pub record LocatedFault : Type 0 where
  pub fault : TextFault
  pub location : Location

-- A fault in a line.
abbrev pub at_line : ℕ → TextFault → LocatedFault
at_line line fault = record { fault = fault; location = location.Line line }

-- A fault in the line of an index.
abbrev pub at_index : ℕ → ℕ → TextFault → LocatedFault
at_index line index fault = record { fault = fault; location = location.Index line index }

-- A fault in a line of an entry.
abbrev pub at_entry : ℕ → ℕ → TextFault → LocatedFault
at_entry line entry fault = record { fault = fault; location = location.Entry line entry }

-- The header so far: its lines, their number, and the rates given.
pub record HeaderRead : Type 0 where
  pub lines : Header
  pub kept : ℕ
  pub rates : Rates

-- The event list so far: the complete events, the last entry, and the separators of the first destination in.
pub record Entries : Type 0 where
  pub events : List Event
  pub entry : Option OpenEntry
  pub separators : Option (List ℕ)

-- The state of reading: the stage, the name of the open section, and the project so far.
pub record Context : Type 0 where
  pub stage : Stage
  pub name : List ℕ
  pub header : HeaderRead
  pub has_index : Bool
  pub sources : List Source
  pub has_events : Bool
  pub entries : Entries
  pub notices : List Notice

-- The header before any section.
abbrev pub no_header : HeaderRead
no_header = record {
  lines = record { version = None; project = None; system = None; sequence = None; track_list = None };
  kept = 0;
  rates = record { sample_rate = false; frame_rate = false };
}

-- The event list before any entry.
abbrev pub no_entry : Entries
no_entry = record { events = []; entry = None; separators = None }

-- The state before the first line.
abbrev pub nothing_read : Context
nothing_read = record {
  stage = stage.Before;
  name = [];
  header = no_header;
  has_index = false;
  sources = [];
  has_events = false;
  entries = no_entry;
  notices = [];
}

-- ---- sections

-- The text before a final `>`.
abbrev pub before_close : List ℕ → Option (List ℕ)
before_close [] = None
before_close (byte ∷ []) = if byte == 62 then Some [] else None
before_close (byte ∷ next ∷ rest) = option_map (λ text. byte ∷ text) (before_close (next ∷ rest))

-- The text between `<` and a final `>`.
abbrev pub tag_of : List ℕ → Option (List ℕ)
tag_of [] = None
tag_of (byte ∷ rest) = if byte == 60 then before_close rest else None

-- The line `</NAME>`, in any case.
abbrev pub is_end : List ℕ → List ℕ → Bool
is_end name text = ends (tag_of text) where
  begins : List ℕ → Bool
  begins [] = false
  begins (byte ∷ rest) = byte == 47 && is_same_name rest name

  ends : Option (List ℕ) → Bool
  ends None = false
  ends (Some tag) = begins tag

-- A letter, a digit or `_`.
abbrev pub is_name_byte : ℕ → Bool
is_name_byte byte = is_ascii_alphanumeric byte || byte == 95

-- A section name: letters, digits and `_`.
abbrev pub is_section_name : List ℕ → Bool
is_section_name name = nat_le 1 (length name) && list_all is_name_byte name

-- The name of the section that a line opens.
abbrev pub opened_name : List ℕ → Option (List ℕ)
opened_name text = named (tag_of text) where
  named : Option (List ℕ) → Option (List ℕ)
  named None = None
  named (Some name) = if is_section_name name then Some name else None

-- The line `<ADL>`.
abbrev pub is_list_begin : List ℕ → Bool
is_list_begin text = named (opened_name text) where
  named : Option (List ℕ) → Bool
  named None = false
  named (Some name) = is_same_name name (codes "ADL")

-- Whether the name contains this word.
abbrev pub has_word : List ℕ → List ℕ → Bool
has_word word [] = false
has_word word (byte ∷ rest) = begins_with word (byte ∷ rest) || has_word word rest

-- A section name that contains GAIN, AUTOMATION, PAN, MUTE or FADE.
abbrev pub is_unsupported : List ℕ → Bool
is_unsupported name = has_word (codes "GAIN") name || has_word (codes "AUTOMATION") name || has_word (codes "PAN") name
    || has_word (codes "MUTE") name || has_word (codes "FADE") name

-- The section with this name.
unfoldable pub section_of : List ℕ → Section
section_of name =
    if is_same_name name (codes "VERSION") then section.Version
    else if is_same_name name (codes "PROJECT") then section.Project
    else if is_same_name name (codes "SYSTEM") then section.System
    else if is_same_name name (codes "SEQUENCE") then section.Sequence
    else if is_same_name name (codes "TRACKLIST") then section.TrackList
    else if is_same_name name (codes "SOURCE_INDEX") then section.SourceIndex
    else if is_same_name name (codes "EVENT_LIST") then section.EventList
    else if is_unsupported name then section.Unsupported
    else section.Skipped

-- Whether a section has been opened.
abbrev pub is_opened : Context → Section → Bool
is_opened c section.Version = is_some c.header.lines.version
is_opened c section.Project = is_some c.header.lines.project
is_opened c section.System = is_some c.header.lines.system
is_opened c section.Sequence = is_some c.header.lines.sequence
is_opened c section.TrackList = is_some c.header.lines.track_list
is_opened c section.SourceIndex = c.has_index
is_opened c section.EventList = c.has_events
is_opened c section.Skipped = false
is_opened c section.Unsupported = false

-- The state with these header lines.
abbrev pub with_lines : Context → Header → Context
with_lines c lines = record c { header = record c.header { lines = lines } }

-- The state with one more notice at a line.
abbrev pub with_notice : Context → ℕ → ℕ → Context
with_notice c kind line = record c { notices = c.notices ++ record { kind = kind; at = line } ∷ [] }

-- The state after a section is opened; an unknown section adds notice 1.
abbrev pub with_section : Context → ℕ → Section → Context
with_section c line section.Version = with_lines c (record c.header.lines { version = Some [] })
with_section c line section.Project = with_lines c (record c.header.lines { project = Some [] })
with_section c line section.System = with_lines c (record c.header.lines { system = Some [] })
with_section c line section.Sequence = with_lines c (record c.header.lines { sequence = Some [] })
with_section c line section.TrackList = with_lines c (record c.header.lines { track_list = Some [] })
with_section c line section.SourceIndex = record c { has_index = true }
with_section c line section.EventList = record c { has_events = true }
with_section c line section.Skipped = with_notice c 1 line
with_section c line section.Unsupported = with_notice c 1 line

-- Opening a section by its name, which is refused for a second time.
unfoldable pub opened : Context → ℕ → List ℕ → Result Context LocatedFault
opened c line name =
    if is_opened c (section_of name) then Err (at_line line fault.RepeatedSection)
    else Ok (record (with_section c line (section_of name)) { stage = stage.Inside (section_of name); name = name })

-- A line before the list: blank, or `<ADL>`.
unfoldable pub before_list : Context → ℕ → List ℕ → Result Context LocatedFault
before_list c line text =
    if length text == 0 then Ok c
    else if is_list_begin text then Ok (record c { stage = stage.Outside })
    else Err (at_line line fault.SectionMismatch)

-- A line between sections: blank, `</ADL>`, or the opening of a section.
unfoldable pub outside : Context → ℕ → List ℕ → Result Context LocatedFault
outside c line text =
    if length text == 0 then Ok c
    else if is_end (codes "ADL") text then Ok (record c { stage = stage.Behind })
    else of_name (opened_name text) where
      of_name : Option (List ℕ) → Result Context LocatedFault
      of_name None = Err (at_line line fault.SectionMismatch)
      of_name (Some name) = opened c line name

-- ---- lines of sections

-- Whether the line begins with `<`.
abbrev pub is_tag : List ℕ → Bool
is_tag line = begins (behind_blanks line) where
  begins : List ℕ → Bool
  begins [] = false
  begins (byte ∷ rest) = byte == 60

-- The lines of a section with one more.
abbrev pub with_text : List ℕ → Option (List (List ℕ)) → Option (List (List ℕ))
with_text text lines = option_map (λ front. front ++ text ∷ []) lines

-- The header with one more line in a section.
abbrev pub keep : Section → List ℕ → Header → Header
keep section.Version text h = record h { version = with_text text h.version }
keep section.Project text h = record h { project = with_text text h.project }
keep section.System text h = record h { system = with_text text h.system }
keep section.Sequence text h = record h { sequence = with_text text h.sequence }
keep section.TrackList text h = record h { track_list = with_text text h.track_list }
keep section.SourceIndex text h = h
keep section.EventList text h = h
keep section.Skipped text h = h
keep section.Unsupported text h = h

-- A header line is kept verbatim unless it is unsupported; at most 65,535 are kept.
unfoldable pub kept_line : HeaderRead → Section → List ℕ → Result Rates TextFault → Result HeaderRead TextFault
kept_line header section text said =
    if nat_le 65535 header.kept then Err fault.TooMany
    else ok_map (λ rates. record { lines = keep section text header.lines; kept = header.kept + 1; rates = rates }) said

-- In a section that is cut into tokens, no line begins with `<`.
abbrev pub untagged : {X : Type 0} → List ℕ → Result X TextFault → Result X TextFault
untagged text said = if is_tag text then Err fault.SectionMismatch else said

-- The rates given after a line of SYSTEM, which gives none.
abbrev pub system_rates : ℕ → Rates → List ℕ → Result Rates TextFault
system_rates rate rates text = untagged text (system_line rate text >>= (λ _. Ok rates))

-- The rates given after a line of SEQUENCE.
abbrev pub sequence_rates : ℕ → Rates → List ℕ → Result Rates TextFault
sequence_rates rate rates text = untagged text (sequence_line rate rates text)

-- The rates given so far, after one more line of this section.
abbrev pub rates_with : ℕ → Section → Rates → List ℕ → Result Rates TextFault
rates_with rate section.Version rates text = Ok rates
rates_with rate section.Project rates text = Ok rates
rates_with rate section.System rates text = system_rates rate rates text
rates_with rate section.Sequence rates text = sequence_rates rate rates text
rates_with rate section.TrackList rates text = Ok rates
rates_with rate section.SourceIndex rates text = Ok rates
rates_with rate section.EventList rates text = Ok rates
rates_with rate section.Skipped rates text = Ok rates
rates_with rate section.Unsupported rates text = Ok rates

-- The state after a header line.
unfoldable pub in_header : ℕ → Context → ℕ → List ℕ → Section → Result Context LocatedFault
in_header rate c line text section = err_map (at_line line)
    (ok_map (λ header. record c { header = header })
    (kept_line c.header section text (rates_with rate section c.header.rates text)))

-- The sources with one more, whose number must be new.
unfoldable pub source_with : ℕ → List Source → ℕ → List ℕ → Result (List Source) TextFault
source_with rate sources number text =
    if list_any (λ other. other.number == number) sources then Err fault.DuplicateNumber
    else reads (source_fields rate number) text >>= (λ source. Ok (sources ++ source ∷ []))

-- The rest of an `(Index)` line.
unfoldable pub index_line : ℕ → Context → ℕ → List ℕ → Result Context LocatedFault
index_line rate c line text = err_map (at_line line) (value_at Number text) >>= (λ (number, rest).
    err_map (at_index line number) (ok_map (λ sources. record c { sources = sources })
    (source_with rate c.sources number rest)))

-- Any other line of SOURCE_INDEX is dropped, with notice 2.
unfoldable pub dropped_line : Context → ℕ → List ℕ → Result Context LocatedFault
dropped_line c line text = err_map (at_line line) (ok_map (λ _. with_notice c 2 line) (end_line text))

-- The state after a line of SOURCE_INDEX.
unfoldable pub in_source_index : ℕ → Context → ℕ → List ℕ → Result Context LocatedFault
in_source_index rate c line text = err_map (at_line line) (untagged text (token_at text)) >>= of_token where
  of_token : Option (TokenText × List ℕ) → Result Context LocatedFault
  of_token None = Ok c
  of_token (Some (token, rest)) =
      if is_keyword (codes "Index") token then index_line rate c line rest else dropped_line c line rest

-- The events so far, including the last entry.
abbrev pub all_events : List Event → Option OpenEntry → List Event
all_events events None = events
all_events events (Some entry) = events ++ entry.event ∷ []

-- The event list after the last entry is complete.
abbrev pub closed_entries : Entries → Entries
closed_entries entries = record entries { events = all_events entries.events entries.entry; entry = None }

-- The event list with a new last entry.
abbrev pub with_event : Entries → Event → List ℕ → Entries
with_event entries event separators = record {
  events = all_events entries.events entries.entry;
  entry = Some (record { event = event; has_rise = false; has_fall = false });
  separators = Some (unwrap_or entries.separators separators);
}

-- The event list with one more entry, whose number must be new.
unfoldable pub entry_of : ℕ → Entries → ℕ → List ℕ → Result Entries TextFault
entry_of rate entries number text =
    if list_any (λ other. other.number == number) (all_events entries.events entries.entry)
    then Err fault.DuplicateNumber
    else reads (event_fields rate number) text >>= (λ (event, separators). Ok (with_event entries event separators))

-- The rest of an `(Entry)` line.
unfoldable pub entry_line : ℕ → Context → ℕ → List ℕ → Result Context LocatedFault
entry_line rate c line text = err_map (at_line line) (value_at Number text) >>= (λ (number, rest).
    err_map (at_entry line number) (ok_map (λ entries. record c { entries = entries })
    (entry_of rate c.entries number rest)))

-- Any other line of EVENT_LIST belongs to the entry before it.
unfoldable pub further_line : ℕ → Entries → TokenText → List ℕ → Result Entries TextFault
further_line rate entries token text = of_entry entries.entry where
  of_entry : Option OpenEntry → Result Entries TextFault
  of_entry None = ok_map (λ _. entries) (reads (remark token) text)
  of_entry (Some entry) = ok_map (λ new. record entries { entry = Some new }) (reads (entry_with rate entry token) text)

-- The location of a line of EVENT_LIST that isn't an `(Entry)` line.
abbrev pub location_in : ℕ → Option OpenEntry → Location
location_in line None = location.Line line
location_in line (Some entry) = location.Entry line entry.event.number

-- A fault in a line of the event list, located at the last entry if there is one.
abbrev pub at_open : ℕ → Option OpenEntry → TextFault → LocatedFault
at_open line entry fault = record { fault = fault; location = location_in line entry }

-- The state after a line of EVENT_LIST.
unfoldable pub in_event_list : ℕ → Context → ℕ → List ℕ → Result Context LocatedFault
in_event_list rate c line text =
    if is_tag text then Err (at_line line fault.SectionMismatch)
    else err_map (at_open line c.entries.entry) (token_at text) >>= of_token where
      of_token : Option (TokenText × List ℕ) → Result Context LocatedFault
      of_token None = Ok c
      of_token (Some (token, rest)) = if is_keyword (codes "Entry") token then entry_line rate c line rest
          else err_map (at_open line c.entries.entry)
          (ok_map (λ entries. record c { entries = entries }) (further_line rate c.entries token rest))

-- A section that may only hold blank lines.
unfoldable pub in_unsupported : Context → ℕ → List ℕ → Result Context LocatedFault
in_unsupported c line text = if length (trimmed text) == 0 then Ok c else Err (at_line line fault.Unsupported)

-- The state after a line inside a section.
unfoldable pub in_section : ℕ → Context → ℕ → List ℕ → Section → Result Context LocatedFault
in_section rate c line text section.Version = in_header rate c line text section.Version
in_section rate c line text section.Project = in_header rate c line text section.Project
in_section rate c line text section.System = in_header rate c line text section.System
in_section rate c line text section.Sequence = in_header rate c line text section.Sequence
in_section rate c line text section.TrackList = in_header rate c line text section.TrackList
in_section rate c line text section.SourceIndex = in_source_index rate c line text
in_section rate c line text section.EventList = in_event_list rate c line text
in_section rate c line text section.Skipped = Ok c
in_section rate c line text section.Unsupported = in_unsupported c line text

-- The state after one more line, which has number `line`.
unfoldable pub with_line : ℕ → Context → ℕ → List ℕ → Result Context LocatedFault
with_line rate c line text = at_stage c.stage where
  at_stage : Stage → Result Context LocatedFault
  at_stage stage.Before = before_list c line (trimmed text)
  at_stage stage.Outside = outside c line (trimmed text)
  at_stage (stage.Inside section) =
      if is_end c.name (trimmed text) then Ok (record c { stage = stage.Outside })
      else in_section rate c line text section
  at_stage stage.Behind = Ok c

-- ---- the whole list

-- Whether `</ADL>` has been read.
abbrev pub is_behind : Stage → Bool
is_behind stage.Before = false
is_behind stage.Outside = false
is_behind (stage.Inside section) = false
is_behind stage.Behind = true

-- The project that the state of reading holds.
abbrev pub project_of : ℕ → Context → ListProject
project_of rate c = record {
  header = c.header.lines;
  rate = rate;
  sources = c.sources;
  events = all_events c.entries.events c.entries.entry;
  separators = unwrap_or c.entries.separators default_separators;
  notices = c.notices;
}

-- The project at `</ADL>`: three sections are required, and both rates.
unfoldable pub finished : ℕ → Context → ℕ → Result ListProject LocatedFault
finished rate c line =
    if not (is_some c.header.lines.sequence && c.has_index && c.has_events) then Err (at_line line fault.MissingSection)
    else if not (c.header.rates.sample_rate && c.header.rates.frame_rate) then Err (at_line line fault.MissingSequence)
    else Ok (project_of rate c)

-- The project of the lines after line `number`, which must contain `</ADL>`.
unfoldable pub read_from : ℕ → Context → ℕ → List (List ℕ) → Result ListProject LocatedFault
read_from rate c number [] = Err (at_line (max number 1) fault.SectionMismatch)
read_from rate c number (line ∷ lines) = with_line rate c (number + 1) line >>= (λ next.
    if is_behind next.stage then finished rate next (number + 1) else read_from rate next (number + 1) lines)

-- ---- refusals

-- The refusal number of each fault of a text, 1 to 17.
abbrev pub fault_number : TextFault → ℕ
fault_number fault.BadByte = 1
fault_number fault.BadLine = 2
fault_number fault.SectionMismatch = 3
fault_number fault.MissingSection = 4
fault_number fault.RepeatedSection = 5
fault_number fault.BadTime = 6
fault_number fault.BadNumber = 7
fault_number fault.BadChannels = 8
fault_number fault.BadUrl = 9
fault_number fault.MissingField = 10
fault_number fault.MissingSequence = 11
fault_number fault.WrongSequence = 12
fault_number fault.Unsupported = 13
fault_number fault.DuplicateNumber = 14
fault_number fault.TooMany = 15
fault_number fault.Unplaced = 16
fault_number fault.RepeatedFade = 17

-- The location of a fault, as a refusal gives it.
abbrev pub where_of : Location → Where
where_of (location.Line line) = Line line
where_of (location.Entry line entry) = LineEntry line entry
where_of (location.Index line index) = LineIndex line index

-- The refusal of a text with this fault.
abbrev pub text_refusal : LocatedFault → Refusal
text_refusal f = record { number = fault_number f.fault; location = where_of f.location; late = false }

-- ---- the frame rate

-- The outline of a list so far: the stage, the name of the open section, and the sections opened.
pub record Outline : Type 0 where
  pub stage : Stage
  pub name : List ℕ
  pub opened : Opened

-- The outline before the first line.
abbrev pub nothing_passed : Outline
nothing_passed = record {
  stage = stage.Before;
  name = [];
  opened = record {
    version = false;
    project = false;
    system = false;
    sequence = false;
    track_list = false;
    source_index = false;
    event_list = false;
  };
}

-- Whether a section has been opened.
abbrev pub has_opened : Opened → Section → Bool
has_opened opened section.Version = opened.version
has_opened opened section.Project = opened.project
has_opened opened section.System = opened.system
has_opened opened section.Sequence = opened.sequence
has_opened opened section.TrackList = opened.track_list
has_opened opened section.SourceIndex = opened.source_index
has_opened opened section.EventList = opened.event_list
has_opened opened section.Skipped = false
has_opened opened section.Unsupported = false

-- The opened sections with one more.
abbrev pub with_opened : Opened → Section → Opened
with_opened opened section.Version = record opened { version = true }
with_opened opened section.Project = record opened { project = true }
with_opened opened section.System = record opened { system = true }
with_opened opened section.Sequence = record opened { sequence = true }
with_opened opened section.TrackList = record opened { track_list = true }
with_opened opened section.SourceIndex = record opened { source_index = true }
with_opened opened section.EventList = record opened { event_list = true }
with_opened opened section.Skipped = opened
with_opened opened section.Unsupported = opened

-- The outline after a section opens, or `None` if it was opened before.
unfoldable pub opens : Outline → List ℕ → Option Outline
opens o name = if has_opened o.opened (section_of name) then None else Some (record {
  stage = stage.Inside (section_of name);
  name = name;
  opened = with_opened o.opened (section_of name);
})

-- A line that doesn't begin with `<` and consists of whole tokens.
abbrev pub is_cut_whole : List ℕ → Bool
is_cut_whole text = not (is_tag text) && is_ok (end_line text)

-- Whether a line may occur in this section, apart from the values of its fields.
abbrev pub may_stand : Section → List ℕ → Bool
may_stand section.Version text = true
may_stand section.Project text = true
may_stand section.System text = is_cut_whole text
may_stand section.Sequence text = is_cut_whole text
may_stand section.TrackList text = true
may_stand section.SourceIndex text = is_cut_whole text
may_stand section.EventList text = is_cut_whole text
may_stand section.Skipped text = true
may_stand section.Unsupported text = length (trimmed text) == 0

-- The outline after a line before the list; `None` if the line isn't allowed there.
unfoldable pub passed_before : Outline → List ℕ → Option Outline
passed_before o text =
    if length text == 0 then Some o
    else if is_list_begin text then Some (record o { stage = stage.Outside }) else None

-- The outline after a line between sections.
unfoldable pub passed_outside : Outline → List ℕ → Option Outline
passed_outside o text =
    if length text == 0 then Some o
    else if is_end (codes "ADL") text then Some (record o { stage = stage.Behind })
    else option_and_then (opens o) (opened_name text)

-- The outline after a line inside a section.
unfoldable pub passed_inside : Outline → Section → List ℕ → Option Outline
passed_inside o section text =
    if is_end o.name (trimmed text) then Some (record o { stage = stage.Outside })
    else if may_stand section text then Some o else None

-- The outline after any line of the list; `None` if the line isn't allowed there.
unfoldable pub passed : Outline → List ℕ → Option Outline
passed o text = at_stage o.stage where
  at_stage : Stage → Option Outline
  at_stage stage.Before = passed_before o (trimmed text)
  at_stage stage.Outside = passed_outside o (trimmed text)
  at_stage (stage.Inside section) = passed_inside o section text
  at_stage stage.Behind = None

-- The next token of a line and the rest, or `None` if there is no valid token.
abbrev pub whole_token : List ℕ → Option (TokenText × List ℕ)
whole_token line = of_token (token_at line) where
  of_token : Result (Option (TokenText × List ℕ)) TextFault → Option (TokenText × List ℕ)
  of_token (Err fault) = None
  of_token (Ok next) = next

-- The rate after `(SEQ_FRAME_RATE)`.
unfoldable pub rate_of_line : List ℕ → Option ℕ
rate_of_line line = option_and_then of_keyword (whole_token line) where
  of_keyword : TokenText × List ℕ → Option ℕ
  of_keyword (token, rest) = if is_keyword (codes "SEQ_FRAME_RATE") token
      then option_and_then (λ next. told_rate next.0.content) (whole_token rest) else None

-- Whether the line is in SEQUENCE.
abbrev pub is_in_sequence : Outline → List ℕ → Bool
is_in_sequence o text = at_stage o.stage where
  of_section : Section → Bool
  of_section section.Version = false
  of_section section.Project = false
  of_section section.System = false
  of_section section.Sequence = not (is_end o.name (trimmed text))
  of_section section.TrackList = false
  of_section section.SourceIndex = false
  of_section section.EventList = false
  of_section section.Skipped = false
  of_section section.Unsupported = false

  at_stage : Stage → Bool
  at_stage stage.Before = false
  at_stage stage.Outside = false
  at_stage (stage.Inside section) = of_section section
  at_stage stage.Behind = false

-- The frame rate that a line gives, if it is in SEQUENCE.
abbrev pub rate_in : Outline → List ℕ → Option ℕ
rate_in o text = if is_in_sequence o text then rate_of_line text else None

-- The frame rate of these lines: the first one that a line of SEQUENCE gives. It is 25 if none does, or if an
-- earlier line isn't allowed in its place.
unfoldable pub rate_from : Outline → List (List ℕ) → ℕ
rate_from o [] = 25
rate_from o (text ∷ lines) = elim (rate_in o text) [
  | Some rate ↦ rate
  | None ↦ elim (passed o text) [ Some next ↦ rate_from next lines | None ↦ 25 ]
]

-- The frame rate of a text.
unfoldable pub rate_of : List ℕ → ℕ
rate_of text = rate_from nothing_passed (lines_of text)

-- ---- the text

-- The project that the text spells at its frame rate, or the refusal of its first fault.
unfoldable pub text_value : List ℕ → Result ListProject Refusal
text_value text = err_map text_refusal (read_from (rate_of text) nothing_read 0 (lines_of text))
