-- The rest of a list that completes the state of reading to a project, section by section.
use Rattle.std.proofs.Common.{◌≡◌, ℕ, ◌+◌, ◌≤◌, Bool, true, false, List, [], ◌∷◌, ◌++◌, length, Option, None, Some, Ok, IsTrue, refl, ap, sym, subst, ◌∙◌, append_assoc, arith}
use Rattle.std.specs.Prelude.{flat_map, is_some, unwrap_or, ◌==◌}
use Rattle.std.specs.List.{list_all}
use Rattle.facts.specs.Tests.{and_left, and_right}
use Rattle.sampletime.specs.TimeCode.{default_separators}
use Rattle.sound_terms.specs.declared.Event.{Event}
use Rattle.list_terms.specs.declared.Notice.{Notice}
use Rattle.list_terms.specs.declared.Rates.{Rates}
use Rattle.list_terms.specs.declared.Section.{Section}
use Rattle.list_terms.specs.declared.Section.TheVariants as section
use Rattle.list_terms.specs.declared.Stage.TheVariants as stage
use Rattle.list_terms.specs.Project.{Header, ListProject, Source}
use Rattle.list_terms.specs.HeaderLaws.{IsKept, lines_at, project_kept, put_lines, sequence_kept, system_kept, told_in, told_in-none, told_in-sequence, told_in-system, track_list_kept, version_kept}
use Rattle.list_terms.specs.ReadingLaws.{begun}
use Rattle.list_terms.specs.Text.{Context, Entries, HeaderRead, all_events, in_section, in_unsupported, is_opened, no_entry, with_lines}
use Rattle.list_terms.specs.WholeProject.{AreDistinct, both_rates, entry_numbers, index_numbers, is_system_line, line_count, lines_of_section, no_rates, told_rates}
use Rattle.adlread.specs.CutLines.{NumberedLine, is_empty, texts}
use Rattle.adlread.specs.Spells.{Block, IsPassedOver, SectionText, SpellsEntries, SpellsSources, Titled, kept, notice, notices_of_block, one_or_none, section_rank, sections, separators_of, SpelledEntry}
use Rattle.adlread.proofs.EventLines.{events_of, first_separators, read_entries, with_entries}
use Rattle.adlread.proofs.FieldLaws.{ok_same}
use Rattle.adlread.proofs.KeptLines.{keep_all-put, read_header, with_header}
use Rattle.adlread.proofs.SourceLines.{read_sources}
use Rattle.adlread.proofs.Stages.{outside_of}
use Rattle.adlread.proofs.Walk.{walk}

-- The lines kept so far and those still to be kept are all lines.
abbrev pub Continues : Option (List (List ℕ)) → List (List (List ℕ)) → Option (List (List ℕ)) → Type 0
Continues now more all = one_or_none now ++ more ≡ one_or_none all

pub record IsContinued (now : Header) (versions projects systems sequences track_lists : List (List (List ℕ)))
    (all : Header) : Type 0 where
  pub version : Continues now.version versions all.version
  pub project : Continues now.project projects all.project
  pub system : Continues now.system systems all.system
  pub sequence : Continues now.sequence sequences all.sequence
  pub track_list : Continues now.track_list track_lists all.track_list

abbrev pub HeaderFits : Header → List Block → Header → Type 0
HeaderFits now blocks all =
    IsContinued now (kept section.Version blocks) (kept section.Project blocks) (kept section.System blocks)
    (kept section.Sequence blocks)
    (kept section.TrackList blocks) all

-- ---- one section of a kind

one_at_most :
    {X : Type 0} (x : X) (more : List X) (all : Option X) → x ∷ more ≡ one_or_none all → (all ≡ Some x) × (more ≡ [])
one_at_most x more None e = absurd (cc)
one_at_most x more (Some y) e = let same : x ≡ y = cc in let none : more ≡ [] = cc in (ap Some (sym same), none)

-- If a section of this kind follows, none was read before.
pub first_kept :
    (now : Option (List (List ℕ))) (lines : List (List ℕ)) (more : List (List (List ℕ)))
    (all : Option (List (List ℕ))) → Continues now (lines ∷ more) all
    → (now ≡ None) × Continues (Some lines) more all
first_kept None lines more all e = (refl, e)
first_kept (Some other) lines more all e =
    let none = (one_at_most other (lines ∷ more) all e).1 in absurd (cc)

-- If no section of this kind follows, all its lines were kept.
pub kept_is_all :
    (lines : List (List ℕ)) (more : List (List (List ℕ))) (all : Option (List (List ℕ)))
    → Continues (Some lines) more all → all ≡ Some lines
kept_is_all lines more all e = (one_at_most lines more all e).0

is_no_more :
    (now : Option (List (List ℕ))) (more : List (List (List ℕ))) (all : Option (List (List ℕ))) → Continues now more all
    → length (lines_of_section now) ≤ length (lines_of_section all)
is_no_more None more all e = omega arith
is_no_more (Some lines) more all e = rw (kept_is_all lines more all e) (omega arith)

no_more_lines :
    (now : Header) (blocks : List Block) (all : Header) → HeaderFits now blocks all → line_count now ≤ line_count all
no_more_lines now blocks all h =
    let a = is_no_more now.version _ all.version h.version in
    let b = is_no_more now.project _ all.project h.project in
    let c = is_no_more now.system _ all.system h.system in
    let d = is_no_more now.sequence _ all.sequence h.sequence in
    let e = is_no_more now.track_list _ all.track_list h.track_list in
    omega (arith, a, b, c, d, e)

-- ---- a section of the header

abbrev pub titled : Section → List ℕ → NumberedLine → List NumberedLine → NumberedLine → List Notice → SectionText
titled s name opening content ending notices =
    record { meaning = s; name = name; opening = opening; content = content; ending = ending; notices = notices }

-- The laws of a header section: its lines are kept, and reading it takes a header without it to one with it.
pub record IsHeaderPart (s : Section) : Type 0 where
  pub kept : IsKept s
  pub no_index : (section_rank s == section_rank section.SourceIndex) ≡ false
  pub no_events : (section_rank s == section_rank section.EventList) ≡ false
  pub silent : (part : SectionText) → part.notices ≡ [] → IsPassedOver s part
  pub counted :
      (h : Header) (lines : List (List ℕ)) → lines_at s h ≡ None
      → line_count (put_lines s (Some lines) h) ≡ line_count h + length lines
  pub behind :
      (part : SectionText) (blocks : List Block) (now all : Header)
      → HeaderFits now (Titled (record part { meaning = s }) ∷ blocks) all
      → (lines_at s now ≡ None) × HeaderFits (put_lines s (Some (texts part.content)) now) blocks all
  pub before :
      (part : SectionText) (blocks : List Block) (now all : Header) → lines_at s now ≡ None
      → HeaderFits (put_lines s (Some (texts part.content)) now) blocks all
      → HeaderFits now (Titled (record part { meaning = s }) ∷ blocks) all

pub continued :
    {now all : Header} {v p s q t : List (List (List ℕ))} → Continues now.version v all.version
    → Continues now.project p all.project → Continues now.system s all.system → Continues now.sequence q all.sequence
    → Continues now.track_list t all.track_list → IsContinued now v p s q t all
continued v p s q t = record { version = v; project = p; system = s; sequence = q; track_list = t }

-- If no section was read before, the next one continues the header.
none_kept :
    (now : Option (List (List ℕ))) (lines : List (List ℕ)) (more : List (List (List ℕ)))
    (all : Option (List (List ℕ))) → now ≡ None → Continues (Some lines) more all → Continues now (lines ∷ more) all
none_kept now lines more all none fits = subst (λ ls. Continues ls (lines ∷ more) all) (sym none) fits

pub version_part : IsHeaderPart section.Version
version_part = record {
  kept = version_kept;
  no_index = refl;
  no_events = refl;
  silent = λ part none. none;
  counted = λ h lines none. let e = ap (λ ls. line_count (put_lines section.Version ls h)) none in omega (arith, e);
  behind = λ part blocks now all h.
      let f = first_kept now.version (texts part.content) (kept section.Version blocks) all.version h.version in
      (f.0, continued f.1 h.project h.system h.sequence h.track_list);
  before = λ part blocks now all none h.
      continued (none_kept now.version (texts part.content) (kept section.Version blocks) all.version none h.version)
      h.project h.system h.sequence h.track_list;
}

pub project_part : IsHeaderPart section.Project
project_part = record {
  kept = project_kept;
  no_index = refl;
  no_events = refl;
  silent = λ part none. none;
  counted = λ h lines none. let e = ap (λ ls. line_count (put_lines section.Project ls h)) none in omega (arith, e);
  behind = λ part blocks now all h.
      let f = first_kept now.project (texts part.content) (kept section.Project blocks) all.project h.project in
      (f.0, continued h.version f.1 h.system h.sequence h.track_list);
  before = λ part blocks now all none h.
      continued h.version (none_kept now.project (texts part.content) (kept section.Project blocks)
      all.project none h.project) h.system h.sequence h.track_list;
}

pub system_part : IsHeaderPart section.System
system_part = record {
  kept = system_kept;
  no_index = refl;
  no_events = refl;
  silent = λ part none. none;
  counted = λ h lines none. let e = ap (λ ls. line_count (put_lines section.System ls h)) none in omega (arith, e);
  behind = λ part blocks now all h.
      let f = first_kept now.system (texts part.content) (kept section.System blocks) all.system h.system in
      (f.0, continued h.version h.project f.1 h.sequence h.track_list);
  before = λ part blocks now all none h.
      continued h.version h.project (none_kept now.system (texts part.content) (kept section.System blocks)
      all.system none h.system) h.sequence h.track_list;
}

pub sequence_part : IsHeaderPart section.Sequence
sequence_part = record {
  kept = sequence_kept;
  no_index = refl;
  no_events = refl;
  silent = λ part none. none;
  counted = λ h lines none. let e = ap (λ ls. line_count (put_lines section.Sequence ls h)) none in omega (arith, e);
  behind = λ part blocks now all h.
      let f = first_kept now.sequence (texts part.content) (kept section.Sequence blocks) all.sequence h.sequence in
      (f.0, continued h.version h.project h.system f.1 h.track_list);
  before = λ part blocks now all none h.
      continued h.version h.project h.system (none_kept now.sequence (texts part.content) (kept section.Sequence blocks)
      all.sequence none h.sequence) h.track_list;
}

pub track_list_part : IsHeaderPart section.TrackList
track_list_part = record {
  kept = track_list_kept;
  no_index = refl;
  no_events = refl;
  silent = λ part none. none;
  counted = λ h lines none. let e = ap (λ ls. line_count (put_lines section.TrackList ls h)) none in omega (arith, e);
  behind = λ part blocks now all h.
      let f = first_kept now.track_list (texts part.content) (kept section.TrackList blocks) all.track_list
      h.track_list in
      (f.0, continued h.version h.project h.system h.sequence f.1);
  before = λ part blocks now all none h.
      continued h.version h.project h.system h.sequence
      (none_kept now.track_list (texts part.content) (kept section.TrackList blocks) all.track_list none h.track_list);
}

-- ---- reading a section

-- A header section starts without lines.
pub begun_kept :
    (s : Section) → IsKept s → (c : Context) (n : ℕ) (name : List ℕ)
    → begun c n s name
    ≡ record (with_lines c (put_lines s (Some []) c.header.lines)) { stage = stage.Inside s; name = name }
begun_kept s is c n name = ap (λ (d : Context). record d { stage = stage.Inside s; name = name }) (is.begun c n)

-- A section of another kind in front doesn't matter.
pub other_section :
    (meaning : Section) (part : SectionText) (blocks : List Block)
    → (section_rank part.meaning == section_rank meaning) ≡ false
    → sections meaning blocks ≡ sections meaning (Titled part ∷ blocks)
other_section meaning part blocks other = rw other refl

pub first_are :
    (entries : List SpelledEntry) → unwrap_or (first_separators entries) default_separators ≡ separators_of entries
first_are [] = refl
first_are (entry ∷ entries) = refl

module _ (rate : ℕ) where
  -- The source index was read, or follows.
  abbrev pub IndexFits : Bool → List Source → List SectionText → List Source → Type 0
  IndexFits true now parts all = (parts ≡ []) × (now ≡ all)
  IndexFits false now parts all =
      (now ≡ []) × ((part : SectionText) × ((parts ≡ part ∷ []) × SpellsSources rate part.content all part.notices))

  -- The event list was read, or follows.
  abbrev pub EventsFit : Bool → Entries → List SectionText → List Event → List ℕ → Type 0
  EventsFit true now parts events separators =
      (parts ≡ []) ×
      ((all_events now.events now.entry ≡ events) × (unwrap_or now.separators default_separators ≡ separators))
  EventsFit false now parts events separators =
      (now ≡ no_entry) ×
      ((part : SectionText) ×
      ((entries : List SpelledEntry) × ((parts ≡ part ∷ []) × (SpellsEntries rate part.content entries
      × ((events ≡ events_of entries) × (separators ≡ separators_of entries))))))

  pub record Fits (c : Context) (blocks : List Block) (p : ListProject) : Type 0 where
    pub header : HeaderFits c.header.lines blocks p.header
    pub index : IndexFits c.has_index c.sources (sections section.SourceIndex blocks) p.sources
    pub events : EventsFit c.has_events c.entries (sections section.EventList blocks) p.events p.separators
    pub notices : c.notices ++ flat_map notices_of_block blocks ≡ p.notices

  -- The count and the rates of the header so far.
  pub record IsCounted (header : HeaderRead) : Type 0 where
    pub counted : header.kept ≡ line_count header.lines
    pub told : told_rates rate no_rates (lines_of_section header.lines.sequence) ≡ Ok header.rates

  -- The properties of the project itself.
  pub record IsSound (p : ListProject) : Type 0 where
    pub few : line_count p.header ≤ 65535
    pub settings : list_all (is_system_line rate) (lines_of_section p.header.system) ≡ true
    pub rates : told_rates rate no_rates (lines_of_section p.header.sequence) ≡ Ok both_rates
    pub indexes : AreDistinct (index_numbers p.sources)
    pub entries : AreDistinct (entry_numbers p.events)
    pub same_rate : p.rate ≡ rate

  -- The content of a section can be read, and the rest still fits.
  pub record IsWalked (s : Section) (c : Context) (content : List NumberedLine) (blocks : List Block)
      (p : ListProject) : Type 0 where
    pub last : Context
    pub walked : walk rate s c content ≡ Ok last
    pub fits : Fits (outside_of last) blocks p
    pub counts : IsCounted last.header

  -- If a source index follows, none was read before.
  index_free :
      (has : Bool) (now : List Source) (part : SectionText) (more : List SectionText) (all : List Source)
      → IndexFits has now (part ∷ more) all
      → (has ≡ false) × ((now ≡ []) × ((more ≡ []) × SpellsSources rate part.content all part.notices))
  index_free true now part more all fits = absurd (let none = fits.0 in cc)
  index_free false now part more all fits =
      let one = fits.1.1.0 in
      let same : fits.1.0 ≡ part = cc in
      let none : more ≡ [] = cc in
      (refl, (fits.0, (none, subst (λ (s : SectionText). SpellsSources rate s.content all s.notices) same fits.1.1.1)))

  -- If an event list follows, none was read before.
  record IsFirstList (has : Bool) (now : Entries) (part : SectionText) (more : List SectionText) (events : List Event)
      (separators : List ℕ) : Type 0 where
    free : has ≡ false
    none : now ≡ no_entry
    no_other : more ≡ []
    entries : List SpelledEntry
    spells : SpellsEntries rate part.content entries
    events_are : events ≡ events_of entries
    separators_are : separators ≡ separators_of entries

  events_free :
      (has : Bool) (now : Entries) (part : SectionText) (more : List SectionText) (events : List Event)
      (separators : List ℕ)
      → EventsFit has now (part ∷ more) events separators → IsFirstList has now part more events separators
  events_free true now part more events separators fits = absurd (let none = fits.0 in cc)
  events_free false now part more events separators fits =
      let one = fits.1.1.1.0 in
      let same : fits.1.0 ≡ part = cc in
      let other : more ≡ [] = cc in
      record {
        free = refl;
        none = fits.0;
        no_other = other;
        entries = fits.1.1.0;
        spells = subst (λ (s : SectionText). SpellsEntries rate s.content fits.1.1.0) same fits.1.1.1.1.0;
        events_are = fits.1.1.1.1.1.0;
        separators_are = fits.1.1.1.1.1.1;
      }

  pub skipped_lines : (content : List NumberedLine) (c : Context) → walk rate section.Skipped c content ≡ Ok c
  unfolding in_section
  skipped_lines [] c = refl
  skipped_lines (line ∷ content) c = skipped_lines content c

  unsupported_lines :
      (content : List NumberedLine) (c : Context) → list_all is_empty (texts content) ≡ true
      → walk rate section.Unsupported c content ≡ Ok c
  unfolding in_section in_unsupported
  unsupported_lines [] c empty = refl
  unsupported_lines (line ∷ content) c empty =
      rw (and_left (is_empty line.text) (list_all is_empty (texts content)) empty)
      (unsupported_lines content c (and_right (is_empty line.text) (list_all is_empty (texts content)) empty))

  module _ (p : ListProject) (sound : IsSound p) (blocks : List Block) where
    module _ (c : Context) (part : SectionText) (counts : IsCounted c.header) where
      -- A section of this kind comes next.
      abbrev Stands : Section → Type 0
      Stands s = Fits c (Titled (record part { meaning = s }) ∷ blocks) p

      abbrev Walked : Section → Type 0
      Walked s = (is_opened c s ≡ false) × IsWalked s (begun c part.opening.number s part.name) part.content blocks p

      -- The notices after those of this section.
      told_behind :
          (told : List Notice) → part.notices ≡ told
          → c.notices ++ (part.notices ++ flat_map notices_of_block blocks) ≡ p.notices
          → (c.notices ++ told) ++ flat_map notices_of_block blocks ≡ p.notices
      told_behind told same are = append_assoc c.notices told (flat_map notices_of_block blocks)
          ∙ subst (λ ns. c.notices ++ (ns ++ flat_map notices_of_block blocks) ≡ p.notices) same are

      header_walked :
          (s : Section) → IsHeaderPart s → Stands s → part.notices ≡ [] → (told : Rates)
          → told_in rate s c.header.rates (texts part.content) ≡ Ok told
          → told_rates rate no_rates
          (lines_of_section (put_lines s (Some (texts part.content)) c.header.lines).sequence) ≡ Ok told
          → Walked s
      header_walked s is fits none told e sequence =
          let this = record part { meaning = s } in
          let f = is.behind part blocks c.header.lines p.header fits.header in
          let lines = put_lines s (Some (texts part.content)) c.header.lines in
          let b = record (with_lines c (put_lines s (Some []) c.header.lines))
          { stage = stage.Inside s; name = part.name } in
          let last = with_header b (record { lines = lines; kept = line_count lines; rates = told }) in
          let short = no_more_lines lines blocks p.header f.1 in
          let more = is.counted c.header.lines (texts part.content) f.0 in
          let read : walk rate s b part.content ≡ Ok last =
          read_header rate s is.kept part.content b told (line_count lines) (omega (arith, counts.counted, more))
          (omega (arith, short, sound.few)) e
          ∙ ap (λ ls. Ok (with_header b (record { lines = ls; kept = line_count lines; rates = told })))
          (keep_all-put s is.kept c.header.lines [] (texts part.content)) in (
            is.kept.opened c ∙ ap is_some f.0,
            record {
              last = last;
              walked = ap (λ d. walk rate s d part.content) (begun_kept s is.kept c part.opening.number part.name)
                  ∙ read;
              fits = record {
                header = f.1;
                index = subst (λ parts. IndexFits c.has_index c.sources parts p.sources)
                    (sym (other_section section.SourceIndex this blocks is.no_index)) fits.index;
                events = subst (λ parts. EventsFit c.has_events c.entries parts p.events p.separators)
                    (sym (other_section section.EventList this blocks is.no_events)) fits.events;
                notices =
                    subst (λ ns. c.notices ++ (ns ++ flat_map notices_of_block blocks) ≡ p.notices) none fits.notices;
              };
              counts = record { counted = refl; told = sequence };
            },
          )

      system_walked : Stands section.System → part.notices ≡ [] → Walked section.System
      system_walked fits none =
          let f = system_part.behind part blocks c.header.lines p.header fits.header in
          let fine = subst (λ ls. list_all (is_system_line rate) (lines_of_section ls) ≡ true)
          (kept_is_all (texts part.content) _ p.header.system f.1.system) sound.settings in
          header_walked section.System system_part fits none c.header.rates
          (told_in-system rate c.header.rates (texts part.content) fine) counts.told

      sequence_walked : Stands section.Sequence → part.notices ≡ [] → Walked section.Sequence
      sequence_walked fits none =
          let f = sequence_part.behind part blocks c.header.lines p.header fits.header in
          let both = subst (λ ls. told_rates rate no_rates (lines_of_section ls) ≡ Ok both_rates)
          (kept_is_all (texts part.content) _ p.header.sequence f.1.sequence) sound.rates in
          let none_told : no_rates ≡ c.header.rates =
          ok_same _ _ (subst (λ ls. told_rates rate no_rates (lines_of_section ls) ≡ Ok c.header.rates) f.0 counts.told) in
          header_walked section.Sequence sequence_part fits none both_rates
          (told_in-sequence rate c.header.rates (texts part.content)
          ∙ (ap (λ r. told_rates rate r (texts part.content)) (sym none_told) ∙ both)) both

      index_walked : Stands section.SourceIndex → Walked section.SourceIndex
      index_walked fits =
          let this = record part { meaning = section.SourceIndex } in
          let i = index_free c.has_index c.sources this (sections section.SourceIndex blocks) p.sources fits.index in
          let b = begun c part.opening.number section.SourceIndex part.name in
          let distinct = subst (λ ss. AreDistinct (index_numbers (ss ++ p.sources))) (sym i.1.0) sound.indexes in (
            i.0,
            record {
              last = record b { sources = p.sources; notices = c.notices ++ part.notices };
              walked =
                  read_sources rate i.1.1.1 b distinct ∙ ap
                  (λ ss. Ok (record b { sources = ss ++ p.sources; notices = c.notices ++ part.notices })) i.1.0;
              fits = record {
                header = fits.header;
                index = (i.1.1.0, refl);
                events = fits.events;
                notices = told_behind part.notices refl fits.notices;
              };
              counts = counts;
            },
          )

      events_walked : Stands section.EventList → part.notices ≡ [] → Walked section.EventList
      events_walked fits none =
          let this = record part { meaning = section.EventList } in
          let i = events_free c.has_events c.entries this
          (sections section.EventList blocks) p.events p.separators fits.events in
          let b = begun c part.opening.number section.EventList part.name in
          let r = read_entries rate i.spells b (subst (λ es. AreDistinct (entry_numbers es)) i.events_are sound.entries) in
          let separators = ap (λ s. unwrap_or s default_separators) r.separators_are ∙ first_are i.entries in (
            i.free,
            record {
              last = with_entries b r.last;
              walked = ap (λ es. walk rate section.EventList (with_entries b es) part.content) i.none ∙ r.walked;
              fits = record {
                header = fits.header;
                index = fits.index;
                events = (i.no_other, (r.all_are ∙ sym i.events_are, separators ∙ sym i.separators_are));
                notices =
                    subst (λ ns. c.notices ++ (ns ++ flat_map notices_of_block blocks) ≡ p.notices) none fits.notices;
              };
              counts = counts;
            },
          )

      skipped_walked : Stands section.Skipped → part.notices ≡ notice 1 part.opening ∷ [] → Walked section.Skipped
      skipped_walked fits told =
          let b = begun c part.opening.number section.Skipped part.name in
          let behind = told_behind (notice 1 part.opening ∷ []) told fits.notices in (
            refl,
            record {
              last = b;
              walked = skipped_lines part.content b;
              fits = record { header = fits.header; index = fits.index; events = fits.events; notices = behind };
              counts = counts;
            },
          )

      unsupported_walked :
          Stands section.Unsupported → IsTrue (list_all is_empty (texts part.content))
          → part.notices ≡ notice 1 part.opening ∷ []
          → Walked section.Unsupported
      unsupported_walked fits empty told =
          let b = begun c part.opening.number section.Unsupported part.name in
          let behind = told_behind (notice 1 part.opening ∷ []) told fits.notices in (
            refl,
            record {
              last = b;
              walked = unsupported_lines part.content b empty;
              fits = record { header = fits.header; index = fits.index; events = fits.events; notices = behind };
              counts = counts;
            },
          )

      pub section_walked :
          (s : Section) → Stands s → IsPassedOver s (record part { meaning = s }) → Walked s
      section_walked section.Version fits over =
          header_walked section.Version version_part fits over c.header.rates
          (told_in-none rate section.Version (λ rates text. refl) c.header.rates (texts part.content)) counts.told
      section_walked section.Project fits over =
          header_walked section.Project project_part fits over c.header.rates
          (told_in-none rate section.Project (λ rates text. refl) c.header.rates (texts part.content)) counts.told
      section_walked section.System fits over = system_walked fits over
      section_walked section.Sequence fits over = sequence_walked fits over
      section_walked section.TrackList fits over =
          header_walked section.TrackList track_list_part fits over c.header.rates
          (told_in-none rate section.TrackList (λ rates text. refl) c.header.rates (texts part.content)) counts.told
      section_walked section.SourceIndex fits over = index_walked fits
      section_walked section.EventList fits over = events_walked fits over
      section_walked section.Skipped fits over = skipped_walked fits over
      section_walked section.Unsupported fits over = unsupported_walked fits over.0 over.1
