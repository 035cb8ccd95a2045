-- The byte ranges of faults. A fault's range is the first token that can't be read; if no token can be cut, it
-- extends to the end of the line, and if a token is missing, it is empty and at the end. If a whole line is faulty,
-- the range is its first token. In ` (Gain) -3 x` after an entry, the range is `-3`, 2 bytes after the first 8; in
-- `(Infade)` it is empty after 8 bytes.
use Rattle.std.specs.Prelude.{◌≡◌, ℕ, zero, suc, ◌+◌, ◌-◌, ◌==◌, nat_le, Bool, List, [], ◌∷◌, length, Option, None, Some, Result, Ok, Err, if◌then◌else◌, codes, ⊤}
use Rattle.std.specs.List.{list_any}
use Rattle.adltoken.specs.declared.tokens.Span.{Span}
use Rattle.adltoken.specs.declared.tokens.Tokens.{Tokens}
use Rattle.adltoken.specs.Spans.{first_span}
use Rattle.sound_terms.specs.declared.Event.{Event}
use Rattle.list_terms.specs.declared.OpenEntry.{OpenEntry}
use Rattle.list_terms.specs.declared.Rates.{Rates}
use Rattle.list_terms.specs.declared.Section.{Section}
use Rattle.list_terms.specs.declared.Section.TheVariants as section
use Rattle.list_terms.specs.declared.Stage.{Stage}
use Rattle.list_terms.specs.declared.Stage.TheVariants as stage
use Rattle.list_terms.specs.declared.TextFault.TheVariants.{DuplicateNumber}
use Rattle.list_terms.specs.EntryLines.{entry_with, event_fields, remark, sequence_fields, source_fields, system_fields}
use Rattle.list_terms.specs.Fields.{is_keyword}
use Rattle.list_terms.specs.Forms.{Done, Form, May, Number, Refused, Then, Unless, any, value_at}
use Rattle.list_terms.specs.Lines.{lines_of}
use Rattle.list_terms.specs.Project.{Source}
use Rattle.list_terms.specs.Text.{Context, Entries, HeaderRead, all_events, is_behind, is_tag, nothing_read, rate_of, whole_token, with_line}
use Rattle.list_terms.specs.Tokens.{TokenText}
use Rattle.adlread.specs.declared.fault.AdlFault.{AdlFault}
use Rattle.adlread.specs.declared.fault.AdlFault.TheVariants.{Text, Memory}
use Rattle.adlread.specs.declared.fault.LineFault.{LineFault}
use Rattle.adlread.specs.declared.fault.LineFault.TheVariants as line

-- ---- in a line of `long` bytes

-- The range of the next token in the rest of the line.
unfoldable pub next_span : (long : ℕ) → List ℕ → Span
next_span long rest = first_span (long - length rest) rest

-- The range of the first token up to the end, of at most n, that fails a test or can't be cut.
unfoldable pub end_span : (TokenText → Bool) → (long most : ℕ) → List ℕ → Span
end_span test long zero rest = next_span long rest
end_span test long (suc n) rest = elim (whole_token rest) [
  | None ↦ next_span long rest
  | Some (token, more) ↦ if test token then end_span test long n more else next_span long rest
]

-- The range of the faulty token in the rest of a line of this form, or else `last`.
unfoldable pub form_span : {A : Type 0} → (long : ℕ) → Form A → (last : Span) → List ℕ → Span
form_span long (Done test x) last rest = end_span test long (length rest) rest
form_span long (Then field more) last rest = elim (value_at field rest) [
  | Err fault ↦ next_span long rest
  | Ok (value, others) ↦ form_span long (more value) (next_span long rest) others
]
form_span long (Unless wrong fault more) last rest = if wrong then last else form_span long more last rest
form_span long (May test fault x) last rest = elim (whole_token rest) [
  | None ↦ next_span long rest
  | Some (token, others) ↦ if test token then end_span any long (length others) others else next_span long rest
]
form_span long (Refused fault) last rest = last

-- The range of the faulty token in the rest of a line whose next token selects its form.
unfoldable pub line_span : {A : Type 0} → (long : ℕ) → (TokenText → Form A) → List ℕ → Span
line_span long form rest = elim (whole_token rest) [
  | None ↦ next_span long rest
  | Some (token, others) ↦ form_span long (form token) (next_span long rest) others
]

-- ---- in a line of a list

-- The range of the line's first token.
abbrev pub first_of_line : List ℕ → Span
first_of_line text = next_span (length text) text

-- The range `first` in a line that begins with `<`, and `other` in any other line.
abbrev pub untagged_span : List ℕ → (first other : Span) → Span
untagged_span text first other = if is_tag text then first else other

-- The range of the faulty token in a header line, by its section.
abbrev pub settings_span : ℕ → Section → Rates → (long : ℕ) → (first : Span) → List ℕ → Span
settings_span rate section.System rates long first text = untagged_span text first (line_span long (system_fields rate) text)
settings_span rate section.Sequence rates long first text =
    untagged_span text first (line_span long (sequence_fields rate rates) text)
settings_span rate other rates long first text = first

-- The range of a faulty header line; a line that is one too many is faulty as a whole.
abbrev pub header_span : ℕ → HeaderRead → Section → (long : ℕ) → (first : Span) → List ℕ → Span
header_span rate header section long first text =
    if nat_le 65535 header.kept then first else settings_span rate section header.rates long first text

-- The fields of a source, whose number must be new.
abbrev pub index_fields : ℕ → List Source → ℕ → Form Source
index_fields rate sources number =
    Unless (list_any (λ other. other.number == number) sources) DuplicateNumber (source_fields rate number)

-- The range of the faulty token in a line of SOURCE_INDEX.
unfoldable pub index_line_span : ℕ → List Source → List ℕ → Span
index_line_span rate sources text = untagged_span text (first_of_line text) (elim (whole_token text) [
  | None ↦ first_of_line text
  | Some (token, rest) ↦ if is_keyword (codes "Index") token
      then form_span (length text) (Then Number (index_fields rate sources)) (first_of_line text) rest
      else end_span any (length text) (length rest) rest
])

-- The fields of an entry, whose number must be new.
abbrev pub entry_fields : ℕ → Entries → ℕ → Form (Event × List ℕ)
entry_fields rate entries number =
    Unless (list_any (λ other. other.number == number) (all_events entries.events entries.entry)) DuplicateNumber
    (event_fields rate number)

-- The range in a line of an entry, or of no entry.
abbrev pub further_span : ℕ → Option OpenEntry → TokenText → (long : ℕ) → (first : Span) → List ℕ → Span
further_span rate None token long first rest = form_span long (remark token) first rest
further_span rate (Some entry) token long first rest = form_span long (entry_with rate entry token) first rest

-- The range of the faulty token in a line of EVENT_LIST.
unfoldable pub event_line_span : ℕ → Entries → List ℕ → Span
event_line_span rate entries text = untagged_span text (first_of_line text) (elim (whole_token text) [
  | None ↦ first_of_line text
  | Some (token, rest) ↦ if is_keyword (codes "Entry") token
      then form_span (length text) (Then Number (entry_fields rate entries)) (first_of_line text) rest
      else further_span rate entries.entry token (length text) (first_of_line text) rest
])

-- The range of the faulty token in a line of a section.
unfoldable pub section_span : ℕ → Context → List ℕ → Section → Span
section_span rate c text section.SourceIndex = index_line_span rate c.sources text
section_span rate c text section.EventList = event_line_span rate c.entries text
section_span rate c text section.Skipped = first_of_line text
section_span rate c text section.Unsupported = first_of_line text
section_span rate c text header = header_span rate c.header header (length text) (first_of_line text) text

-- The range of the faulty token in one more line.
unfoldable pub fault_span : ℕ → Context → List ℕ → Span
fault_span rate c text = at_stage c.stage where
  at_stage : Stage → Span
  at_stage (stage.Inside section) = section_span rate c text section
  at_stage other = first_of_line text

-- ---- in a list

-- The range of the first fault of the lines after line `number`, which was `last`. If a section, a rate or the end
-- of the list is missing, it is the first token of the last line read.
unfoldable pub lines_span : ℕ → Context → ℕ → (last : List ℕ) → List (List ℕ) → Span
lines_span rate c number last [] = first_of_line last
lines_span rate c number last (text ∷ lines) = elim (with_line rate c (number + 1) text) [
  | Err fault ↦ fault_span rate c text
  | Ok next ↦ if is_behind next.stage then first_of_line text else lines_span rate next (number + 1) text lines
]

-- The range of the first fault of a text.
unfoldable pub text_span : List ℕ → Span
text_span text = lines_span (rate_of text) nothing_read 0 [] (lines_of text)

-- ---- results of calls

-- If the text is faulty, the fault has this range.
abbrev pub IsAt : {X : Type 0} → Span → Result X AdlFault → Type 0
IsAt span (Ok x) = ⊤
IsAt span (Err (Text fault location stood)) = stood ≡ span
IsAt span (Err Memory) = ⊤

-- If the text of a line is faulty, the fact holds.
abbrev pub OnText : {X : Type 0} → Result X LineFault → Type 0 → Type 0
OnText (Ok x) fact = ⊤
OnText (Err (line.Text fault)) fact = fact
OnText (Err line.Memory) fact = ⊤

-- The length of the line that these tokens are read from.
unfoldable pub line_length : Tokens → ℕ
line_length tokens = tokens.at + length tokens.rest.now

-- The range of the last token requested, or of the next one if none was requested yet.
unfoldable pub reached : Tokens → Span
reached tokens = elim tokens.last [ None ↦ first_span tokens.at tokens.rest.now | Some span ↦ span ]

-- The range of the next token after these.
abbrev pub next_from : Tokens → Span
next_from tokens = next_span (line_length tokens) tokens.rest.now

-- One more token was requested, from the same line.
pub record StepsOver (old new : Tokens) : Type 0 where
  pub span : reached new ≡ next_from old
  pub long : line_length new ≡ line_length old

-- The range of the fault in the tokens up to the end of the line.
abbrev pub end_from : (TokenText → Bool) → Tokens → Span
end_from test tokens = end_span test (line_length tokens) (length tokens.rest.now) tokens.rest.now

-- The range of the fault in the rest of a line of this form.
abbrev pub form_from : {A : Type 0} → Form A → Tokens → Span
form_from form tokens = form_span (line_length tokens) form (reached tokens) tokens.rest.now

-- The range of the fault in a line whose next token selects its form.
abbrev pub line_from : {A : Type 0} → (TokenText → Form A) → Tokens → Span
line_from form tokens = line_span (line_length tokens) form tokens.rest.now
