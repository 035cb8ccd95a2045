-- The grammar of lists: the project that a text spells.
use Rattle.std.specs.Prelude.{◌≡◌, ℕ, ◌≤◌, ◌==◌, not, List, [], ◌∷◌, ◌++◌, map, flat_map, Option, None, Some, if◌then◌else◌, IsTrue, codes, unwrap_or, ⊤}
use Rattle.std.specs.List.{list_all}
use Rattle.sampletime.specs.FrameRate.{is_rate}
use Rattle.sampletime.specs.TimeCode.{default_separators}
use Rattle.sound_terms.specs.declared.Event.{Event}
use Rattle.list_terms.specs.declared.Notice.{Notice}
use Rattle.list_terms.specs.declared.Section.{Section}
use Rattle.list_terms.specs.declared.Section.TheVariants as section
use Rattle.list_terms.specs.Project.{Header, Source, ListProject}
use Rattle.list_terms.specs.Tokens.{trimmed}
use Rattle.list_terms.specs.Text.{is_end, is_list_begin, opened_name, section_of}
use Rattle.list_terms.specs.WholeProject.{AreDistinct, both_rates, entry_numbers, index_numbers, line_count, lines_of_section, no_rates}
use Rattle.adlread.specs.CutLines.{HasLines, HasTokens, NumberedLine, is_empty, with_numbers, texts}
use Rattle.adlread.specs.LineGrammar.{AreSettings, IsLineOf, SpellsLine, TellRates, entry_line, fade_line, is_no_source, is_remark, is_zero_gain, source_line}

-- ---- the source index and the event list

-- A notice at a line.
abbrev pub notice : ℕ → NumberedLine → Notice
notice kind line = record { kind = kind; at = line.number }

-- An event, and the separators of its destination in.
pub record SpelledEntry : Type 0 where
  pub event : Event
  pub separators : List ℕ

-- The event with the fades that are given.
abbrev pub faded : Event → (rise fall : Option ℕ) → Event
faded event rise fall = record event {
  rise = record { length = unwrap_or rise event.rise.length };
  fall = record { length = unwrap_or fall event.fall.length };
}

-- The entry of an `(Entry)` line with the fades of the lines after it.
abbrev pub with_fades : Event × List ℕ → (rise fall : Option ℕ) → SpelledEntry
with_fades entry rise fall = record { event = faded entry.0 rise fall; separators = entry.1 }

-- The separators of the first entry's destination in, or the default ones.
abbrev pub separators_of : List SpelledEntry → List ℕ
separators_of [] = default_separators
separators_of (entry ∷ entries) = entry.separators

-- ---- sections

-- A section in a list, and the notices of its skipped lines.
pub record SectionText : Type 0 where
  pub meaning : Section
  pub name : List ℕ
  pub opening : NumberedLine
  pub content : List NumberedLine
  pub ending : NumberedLine
  pub notices : List Notice

-- A part of a list: a blank line or a section.
pub data Block : Type 0 where
  Blank : (line : NumberedLine) → Block
  Titled : (text : SectionText) → Block

-- The lines of a block.
abbrev pub lines_of_block : Block → List NumberedLine
lines_of_block (Blank line) = line ∷ []
lines_of_block (Titled s) = s.opening ∷ (s.content ++ (s.ending ∷ []))

-- The notices of a block.
abbrev pub notices_of_block : Block → List Notice
notices_of_block (Blank line) = []
notices_of_block (Titled s) = s.notices

-- The notices of a section. A skipped section gives notice 1; one of gains, automation, pan, mute or fades may only
-- hold blank lines. SOURCE_INDEX gives a notice for each line that it drops.
abbrev pub IsPassedOver : Section → SectionText → Type 0
IsPassedOver section.Version s = s.notices ≡ []
IsPassedOver section.Project s = s.notices ≡ []
IsPassedOver section.System s = s.notices ≡ []
IsPassedOver section.Sequence s = s.notices ≡ []
IsPassedOver section.TrackList s = s.notices ≡ []
IsPassedOver section.SourceIndex s = ⊤
IsPassedOver section.EventList s = s.notices ≡ []
IsPassedOver section.Skipped s = s.notices ≡ notice 1 s.opening ∷ []
IsPassedOver section.Unsupported s =
    IsTrue (list_all is_empty (texts s.content)) × (s.notices ≡ notice 1 s.opening ∷ [])

-- A section: the line `<NAME>`, lines other than `</NAME>`, and the line `</NAME>`.
pub record IsSection (s : SectionText) : Type 0 where
  pub meant : section_of s.name ≡ s.meaning
  pub opens : opened_name (trimmed s.opening.text) ≡ Some s.name
  pub inside : IsTrue (list_all (λ text. not (is_end s.name (trimmed text))) (texts s.content))
  pub ends : IsTrue (is_end s.name (trimmed s.ending.text))
  pub noticed : IsPassedOver s.meaning s

-- Blocks that are blank lines or sections.
pub data AreBlocks : List Block → Type 0 where
  NoBlocks : AreBlocks []
  BlankBlock : (line : NumberedLine) {blocks : List Block} → IsTrue (is_empty line.text) → AreBlocks blocks
      → AreBlocks (Blank line ∷ blocks)
  SectionBlock : (s : SectionText) {blocks : List Block} → IsSection s → AreBlocks blocks
      → AreBlocks (Titled s ∷ blocks)

-- A number for each of the nine kinds of sections.
abbrev pub section_rank : Section → ℕ
section_rank section.Version = 0
section_rank section.Project = 1
section_rank section.System = 2
section_rank section.Sequence = 3
section_rank section.TrackList = 4
section_rank section.SourceIndex = 5
section_rank section.EventList = 6
section_rank section.Skipped = 7
section_rank section.Unsupported = 8

-- The sections of this kind.
abbrev pub sections : Section → List Block → List SectionText
sections meaning [] = []
sections meaning (Blank line ∷ blocks) = sections meaning blocks
sections meaning (Titled s ∷ blocks) =
    if section_rank s.meaning == section_rank meaning then s ∷ sections meaning blocks else sections meaning blocks

-- The kept lines of the sections of this kind.
abbrev pub kept : Section → List Block → List (List (List ℕ))
kept meaning blocks = map (λ s. texts s.content) (sections meaning blocks)

-- One element, or none.
abbrev pub one_or_none : {X : Type 0} → Option X → List X
one_or_none None = []
one_or_none (Some x) = x ∷ []

-- The text that a list spells at a frame rate.
module _ (rate : ℕ) where
  -- The lines of a source index: each is blank, spells a source, or is dropped with notice 2.
  pub data SpellsSources : List NumberedLine → List Source → List Notice → Type 0 where
    SourcesEnd : SpellsSources [] [] []
    BlankLine : (line : NumberedLine) {lines : List NumberedLine} {sources : List Source} {dropped : List Notice}
        → HasTokens line.text [] → SpellsSources lines sources dropped → SpellsSources (line ∷ lines) sources dropped
    SourceLine : (line : NumberedLine) (source : Source)
        {lines : List NumberedLine} {sources : List Source} {dropped : List Notice}
        → SpellsLine (source_line rate) line.text source → SpellsSources lines sources dropped
        → SpellsSources (line ∷ lines) (source ∷ sources) dropped
    DroppedLine : (line : NumberedLine) {lines : List NumberedLine} {sources : List Source} {dropped : List Notice}
        → IsLineOf is_no_source line.text → SpellsSources lines sources dropped
        → SpellsSources (line ∷ lines) sources (notice 2 line ∷ dropped)

  -- The lines after an entry: its fades, each given at most once, remarks, gains of zero, and the entries that
  -- follow.
  pub data SpellsBehind : List NumberedLine → (rise fall : Option ℕ) → List SpelledEntry → Type 0 where
    EntriesEnd : SpellsBehind [] None None []
    RemarkBehind : (line : NumberedLine)
        {lines : List NumberedLine} {rise fall : Option ℕ} {entries : List SpelledEntry}
        → IsLineOf is_remark line.text → SpellsBehind lines rise fall entries
        → SpellsBehind (line ∷ lines) rise fall entries
    GainLine : (line : NumberedLine) {lines : List NumberedLine} {rise fall : Option ℕ} {entries : List SpelledEntry}
        → IsLineOf is_zero_gain line.text → SpellsBehind lines rise fall entries
        → SpellsBehind (line ∷ lines) rise fall entries
    RiseLine : (line : NumberedLine) (fade : ℕ)
        {lines : List NumberedLine} {fall : Option ℕ} {entries : List SpelledEntry}
        → SpellsLine (fade_line rate (codes "Infade")) line.text fade → SpellsBehind lines None fall entries
        → SpellsBehind (line ∷ lines) (Some fade) fall entries
    FallLine : (line : NumberedLine) (fade : ℕ)
        {lines : List NumberedLine} {rise : Option ℕ} {entries : List SpelledEntry}
        → SpellsLine (fade_line rate (codes "Outfade")) line.text fade → SpellsBehind lines rise None entries
        → SpellsBehind (line ∷ lines) rise (Some fade) entries
    NextEntry : (line : NumberedLine) (entry : Event × List ℕ)
        {lines : List NumberedLine} {rise fall : Option ℕ} {entries : List SpelledEntry}
        → SpellsLine (entry_line rate) line.text entry → SpellsBehind lines rise fall entries
        → SpellsBehind (line ∷ lines) None None (with_fades entry rise fall ∷ entries)

  -- The lines of an event list: remarks, and entries with the lines after them.
  pub data SpellsEntries : List NumberedLine → List SpelledEntry → Type 0 where
    NoEntries : SpellsEntries [] []
    RemarkLine : (line : NumberedLine) {lines : List NumberedLine} {entries : List SpelledEntry}
        → IsLineOf is_remark line.text → SpellsEntries lines entries → SpellsEntries (line ∷ lines) entries
    FirstEntry : (line : NumberedLine) (entry : Event × List ℕ)
        {lines : List NumberedLine} {rise fall : Option ℕ} {entries : List SpelledEntry}
        → SpellsLine (entry_line rate) line.text entry → SpellsBehind lines rise fall entries
        → SpellsEntries (line ∷ lines) (with_fades entry rise fall ∷ entries)

  -- The sections of the header, each at most once and with verbatim lines. SEQUENCE gives both rates.
  pub record SpellsHeader (blocks : List Block) (header : Header) : Type 0 where
    pub version : kept section.Version blocks ≡ one_or_none header.version
    pub project : kept section.Project blocks ≡ one_or_none header.project
    pub system : kept section.System blocks ≡ one_or_none header.system
    pub sequence : kept section.Sequence blocks ≡ one_or_none header.sequence
    pub track_list : kept section.TrackList blocks ≡ one_or_none header.track_list
    pub few : line_count header ≤ 65535
    pub settings : AreSettings rate (lines_of_section header.system)
    pub rates : TellRates rate no_rates (lines_of_section header.sequence) both_rates

  -- The only source index, whose sources have distinct numbers.
  pub record SpellsIndex (blocks : List Block) (sources : List Source) : Type 0 where
    pub part : SectionText
    pub once : sections section.SourceIndex blocks ≡ part ∷ []
    pub lines : SpellsSources part.content sources part.notices
    pub distinct : AreDistinct (index_numbers sources)

  -- The only event list, whose entries have distinct numbers.
  pub record SpellsEvents (blocks : List Block) (events : List Event) (separators : List ℕ) : Type 0 where
    pub part : SectionText
    pub entries : List SpelledEntry
    pub once : sections section.EventList blocks ≡ part ∷ []
    pub lines : SpellsEntries part.content entries
    pub events_are : events ≡ map (λ entry. entry.event) entries
    pub distinct : AreDistinct (entry_numbers events)
    pub separators_are : separators ≡ separators_of entries

  -- The text spells the project at this frame rate: blank lines, `<ADL>`, blank lines and sections in any order,
  -- `</ADL>`, and anything after it.
  pub record SpellsAtRate (text : List ℕ) (project : ListProject) : Type 0 where
    pub all : List (List ℕ)
    pub before : List NumberedLine
    pub begin : NumberedLine
    pub blocks : List Block
    pub end : NumberedLine
    pub behind : List NumberedLine
    pub cut : HasLines text all
    pub lines : with_numbers 1 all ≡ before ++ (begin ∷ (flat_map lines_of_block blocks ++ (end ∷ behind)))
    pub blank : IsTrue (list_all is_empty (texts before))
    pub begins : IsTrue (is_list_begin (trimmed begin.text))
    pub are_blocks : AreBlocks blocks
    pub ends : IsTrue (is_end (codes "ADL") (trimmed end.text))
    pub header : SpellsHeader blocks project.header
    pub index : SpellsIndex blocks project.sources
    pub events : SpellsEvents blocks project.events project.separators
    pub notices : project.notices ≡ flat_map notices_of_block blocks

-- The text spells the project at the project's own frame rate, 24, 25 or 30.
pub record Spells (text : List ℕ) (project : ListProject) : Type 0 where
  pub rate : IsTrue (is_rate project.rate)
  pub spelled : SpellsAtRate project.rate text project
