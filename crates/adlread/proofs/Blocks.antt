-- A list is read as the project that it spells.
use Rattle.std.proofs.Common.{◌≡◌, ℕ, Bool, true, false, List, [], ◌∷◌, ◌++◌, length, Option, None, Some, Ok, refl, ap, sym, subst, ◌∙◌, append_assoc, arith}
use Rattle.std.specs.Prelude.{codes, flat_map, nat_le, unwrap_or, ◌==◌}
use Rattle.std.specs.List.{list_all}
use Rattle.std.proofs.lemmas.Bool.Decides.{nat_tests}
use Rattle.std.proofs.lemmas.List.{append-nil}
use Rattle.std.proofs.Math.Bool.{and-false}
use Rattle.facts.specs.Tests.{and_left, and_right}
use Rattle.sampletime.specs.TimeCode.{default_separators}
use Rattle.sound_terms.specs.declared.Event.{Event}
use Rattle.list_terms.specs.declared.Rates.{Rates}
use Rattle.list_terms.specs.declared.Section.{Section}
use Rattle.list_terms.specs.declared.Stage.TheVariants as stage
use Rattle.list_terms.specs.Project.{Header, ListProject, Source}
use Rattle.list_terms.specs.HeaderLaws.{has_sequence}
use Rattle.list_terms.specs.Lines.{lines_of}
use Rattle.list_terms.specs.Tokens.{trimmed}
use Rattle.list_terms.specs.RateLaws.{rate_of-read}
use Rattle.list_terms.specs.ReadingLaws.{begun}
use Rattle.list_terms.specs.Text.{Context, Entries, all_events, before_list, finished, is_behind, is_end, is_list_begin, is_opened, nothing_read, opened, opened_name, outside, project_of, read_from, section_of, tag_of, text_value, with_line}
use Rattle.list_terms.specs.WholeProject.{both_rates, lines_of_section, no_rates, told_rates}
use Rattle.adlread.specs.CutLines.{NumberedLine, is_empty, with_numbers, texts}
use Rattle.adlread.specs.Spells.{AreBlocks, BlankBlock, Block, NoBlocks, SectionBlock, Spells, SpellsAtRate, Titled, lines_of_block}
use Rattle.adlread.proofs.FieldLaws.{ok_same}
use Rattle.adlread.proofs.Fits.{Continues, EventsFit, Fits, IndexFits, IsCounted, IsSound, continued, section_walked}
use Rattle.adlread.proofs.LineLaws.{lines_are_cut}
use Rattle.adlread.proofs.SettingLines.{rates_read, settings_read}
use Rattle.adlread.proofs.Stages.{outside_of, read_all, read_from-all, read_inside, read_last, read_step}

not_empty : (byte : ℕ) (text : List ℕ) → (length (byte ∷ text) == 0) ≡ false
not_empty byte text = grind (arith, nat_tests)

pub outside_blank : (c : Context) (n : ℕ) (text : List ℕ) → is_empty text ≡ true → outside c n (trimmed text) ≡ Ok c
unfolding outside
outside_blank c n text h = rw h refl

pub outside_end :
    (c : Context) (n : ℕ) (text : List ℕ) → is_end (codes "ADL") text ≡ true → outside c n text
    ≡ Ok (record c { stage = stage.Behind })
unfolding outside
outside_end c n [] h = absurd (cc)
outside_end c n (byte ∷ text) h = rw (not_empty byte text, h) refl

-- A line that opens a section closes none.
pub opens_no_end : (name other text : List ℕ) → opened_name text ≡ Some name → is_end other text ≡ false
opens_no_end name other text e = by_tag (tag_of text) refl where
  by_tag : (tag : Option (List ℕ)) → tag_of text ≡ tag → is_end other text ≡ false
  by_tag None t = rw t refl
  by_tag (Some []) t = rw t refl
  by_tag (Some (byte ∷ rest)) t = by_slash (byte == 47) refl where
    by_slash : (slash : Bool) → (byte == 47) ≡ slash → is_end other text ≡ false
    by_slash false s = rw (t, s) refl
    by_slash true s =
        let is : byte ≡ 47 = grind (arith, nat_tests) in
        let no : opened_name text ≡ None = rw (t, is, and-false (nat_le 1 (length (47 ∷ rest)))) refl in
        absurd (cc)

pub outside_opens :
    (c : Context) (n : ℕ) (name text : List ℕ) → opened_name text ≡ Some name → outside c n text ≡ opened c n name
unfolding outside
outside_opens c n name [] e = absurd (cc)
outside_opens c n name (byte ∷ text) e =
    rw (not_empty byte text, opens_no_end name (codes "ADL") (byte ∷ text) e, e) refl

pub opened_begun :
    (c : Context) (n : ℕ) (name : List ℕ) (s : Section) → section_of name ≡ s → is_opened c s ≡ false
    → opened c n name ≡ Ok (begun c n s name)
unfolding opened
opened_begun c n name s is free = rw (is, free) refl

pub before_blank : (c : Context) (n : ℕ) (text : List ℕ) → is_empty text ≡ true → before_list c n (trimmed text) ≡ Ok c
unfolding before_list
before_blank c n text h = rw h refl

pub before_begin :
    (c : Context) (n : ℕ) (text : List ℕ) → is_list_begin text ≡ true → before_list c n text ≡ Ok (outside_of c)
unfolding before_list
before_begin c n [] h = absurd (cc)
before_begin c n (byte ∷ text) h = rw (not_empty byte text, h) refl

-- ---- the end of a list

pub continues_end : (now all : Option (List (List ℕ))) → Continues now [] all → now ≡ all
continues_end None None e = refl
continues_end None (Some lines) e = absurd (cc)
continues_end (Some lines) None e = absurd (cc)
continues_end (Some lines) (Some others) e = let same : lines ≡ others = cc in ap Some same

same_header :
    (a b : Header) → a.version ≡ b.version → a.project ≡ b.project → a.system ≡ b.system → a.sequence ≡ b.sequence
    → a.track_list ≡ b.track_list → a ≡ b
same_header a b v p y q t = λ i. record { version = v i; project = p i; system = y i; sequence = q i; track_list = t i }

same_project :
    (a b : ListProject) → a.header ≡ b.header → a.rate ≡ b.rate → a.sources ≡ b.sources → a.events ≡ b.events
    → a.separators ≡ b.separators
    → a.notices ≡ b.notices → a ≡ b
same_project a b h r s e p n =
    λ i. record { header = h i; rate = r i; sources = s i; events = e i; separators = p i; notices = n i }

module _ (rate : ℕ) where
  -- ---- lines between sections

  outside_known :
      (c : Context) (n : ℕ) (text : List ℕ) → with_line rate (outside_of c) n text ≡ outside (outside_of c) n (trimmed text)
  unfolding with_line
  outside_known c n text = refl

  pub outside_line_is :
      (c : Context) (n : ℕ) (text : List ℕ) → c.stage ≡ stage.Outside → with_line rate c n text ≡ outside c n (trimmed text)
  outside_line_is c n text is =
      let same : c ≡ outside_of c = ap (λ st. record c { stage = st }) is in
      subst (λ d. with_line rate d n text ≡ outside d n (trimmed text)) (sym same) (outside_known c n text)

  -- ---- lines before the list

  before_known :
      (c : Context) (n : ℕ) (text : List ℕ) → with_line rate (record c { stage = stage.Before }) n text
      ≡ before_list (record c { stage = stage.Before }) n (trimmed text)
  unfolding with_line
  before_known c n text = refl

  pub before_line_is :
      (c : Context) (n : ℕ) (text : List ℕ) → c.stage ≡ stage.Before
      → with_line rate c n text ≡ before_list c n (trimmed text)
  before_line_is c n text is =
      let same : c ≡ record c { stage = stage.Before } = ap (λ st. record c { stage = st }) is in
      subst (λ d. with_line rate d n text ≡ before_list d n (trimmed text)) (sym same) (before_known c n text)

  read_before :
      (before : List NumberedLine) (c : Context) (n : ℕ) (begin : NumberedLine) (rest : List NumberedLine)
      → c.stage ≡ stage.Before
      → list_all is_empty (texts before) ≡ true → is_list_begin (trimmed begin.text) ≡ true
      → read_all rate c n (before ++ (begin ∷ rest)) ≡ read_all rate (outside_of c) begin.number rest
  read_before [] c n begin rest is blank begins =
      read_step rate c (outside_of c) n begin rest
      (before_line_is c begin.number begin.text is ∙ before_begin c begin.number (trimmed begin.text) begins) refl
  read_before (line ∷ before) c n begin rest is blank begins =
      read_step rate c c n line (before ++ (begin ∷ rest))
      (before_line_is c line.number line.text is
      ∙ before_blank c line.number line.text (and_left (is_empty line.text) (list_all is_empty (texts before)) blank))
      (ap is_behind is)
      ∙ read_before before c line.number begin rest is
      (and_right (is_empty line.text) (list_all is_empty (texts before)) blank) begins

  index_end : (has : Bool) (now all : List Source) → IndexFits rate has now [] all → (has ≡ true) × (now ≡ all)
  index_end true now all fits = (refl, fits.1)
  index_end false now all fits = absurd (let one = fits.1.1.0 in cc)

  events_end :
      (has : Bool) (now : Entries) (events : List Event) (separators : List ℕ) → EventsFit rate has now [] events separators
      → (has ≡ true) ×
      ((all_events now.events now.entry ≡ events) × (unwrap_or now.separators default_separators ≡ separators))
  events_end true now events separators fits = (refl, fits.1)
  events_end false now events separators fits = absurd (let one = fits.1.1.1.0 in cc)

  read_end :
      (c : Context) (p : ListProject) (n : ℕ) → IsSound rate p → Fits rate c [] p → IsCounted rate c.header
      → finished rate (record c { stage = stage.Behind }) n ≡ Ok p
  unfolding finished
  read_end c p n sound fits counts =
      let sequence = continues_end c.header.lines.sequence p.header.sequence fits.header.sequence in
      let header = same_header c.header.lines p.header
      (continues_end c.header.lines.version p.header.version fits.header.version)
      (continues_end c.header.lines.project p.header.project fits.header.project)
      (continues_end c.header.lines.system p.header.system fits.header.system)
      sequence (continues_end c.header.lines.track_list p.header.track_list fits.header.track_list) in
      let told : told_rates rate no_rates (lines_of_section c.header.lines.sequence) ≡ Ok both_rates =
      subst (λ ls. told_rates rate no_rates (lines_of_section ls) ≡ Ok both_rates) (sym sequence) sound.rates in
      let rates : c.header.rates ≡ both_rates = ok_same _ _ (sym counts.told ∙ told) in
      let index = index_end c.has_index c.sources p.sources fits.index in
      let events = events_end c.has_events c.entries p.events p.separators fits.events in
      let notices = sym (append-nil c.notices) ∙ fits.notices in
      let there = has_sequence rate c.header.lines.sequence told in
      let same = same_project (project_of rate c) p header (sym sound.same_rate) index.1 events.1.0 events.1.1 notices in
      rw (there, index.0, events.0, ap (λ (r : Rates). r.sample_rate) rates, ap (λ (r : Rates). r.frame_rate) rates)
      (ap Ok same)

  -- ---- sections, one after another

  read_blocks :
      {blocks : List Block} → AreBlocks blocks → (p : ListProject) → IsSound rate p
      → (c : Context) (n : ℕ) (end : NumberedLine) (behind : List NumberedLine)
      → c.stage ≡ stage.Outside → Fits rate c blocks p → IsCounted rate c.header → is_end (codes "ADL") (trimmed end.text) ≡ true
      → read_all rate c n (flat_map lines_of_block blocks ++ (end ∷ behind)) ≡ Ok p
  read_blocks NoBlocks p sound c n end behind is fits counts ends =
      read_last rate c (record c { stage = stage.Behind }) n end behind
      (outside_line_is c end.number end.text is ∙ outside_end c end.number (trimmed end.text) ends) refl
      ∙ read_end c p end.number sound fits counts
  read_blocks (BlankBlock line {blocks} empty others) p sound c n end behind is fits counts ends =
      read_step rate c c n line (flat_map lines_of_block blocks ++ (end ∷ behind))
      (outside_line_is c line.number line.text is ∙ outside_blank c line.number line.text empty) (ap is_behind is)
      ∙ read_blocks others p sound c line.number end behind is
      (record { header = fits.header; index = fits.index; events = fits.events; notices = fits.notices }) counts ends
  read_blocks (SectionBlock s {blocks} h others) p sound c n end behind is fits counts ends =
      let w = section_walked rate p sound blocks c s counts s.meaning fits h.noticed in
      let begin = begun c s.opening.number s.meaning s.name in
      let rest = flat_map lines_of_block blocks ++ (end ∷ behind) in
      let apart : flat_map lines_of_block (Titled s ∷ blocks) ++ (end ∷ behind)
      ≡ s.opening ∷ (s.content ++ (s.ending ∷ rest)) =
      ap (λ ls. s.opening ∷ ls)
      (append_assoc (s.content ++ (s.ending ∷ [])) (flat_map lines_of_block blocks) (end ∷ behind)
      ∙ append_assoc s.content (s.ending ∷ []) rest) in
      ap (read_all rate c n) apart
      ∙ (read_step rate c begin n s.opening (s.content ++ (s.ending ∷ rest))
      (outside_line_is c s.opening.number s.opening.text is
      ∙ (outside_opens c s.opening.number s.name (trimmed s.opening.text) h.opens
      ∙ opened_begun c s.opening.number s.name s.meaning h.meant w.0)) refl
      ∙ (read_inside rate s.meaning s.content begin w.1.last s.opening.number s.ending rest refl h.inside h.ends w.1.walked
      ∙ read_blocks others p sound (outside_of w.1.last) s.ending.number end behind refl w.1.fits w.1.counts ends))

  -- ---- the whole list

  read_at :
      (text : List ℕ) (p : ListProject) → p.rate ≡ rate → SpellsAtRate rate text p
      → read_from rate nothing_read 0 (lines_of text) ≡ Ok p
  read_at text p same_rate h =
      let sound : IsSound rate p = record {
        few = h.header.few;
        settings = settings_read rate h.header.settings;
        rates = rates_read rate h.header.rates;
        indexes = h.index.distinct;
        entries = h.events.distinct;
        same_rate = same_rate;
      } in
      let first = outside_of nothing_read in
      let fits : Fits rate first h.blocks p = record {
        header = continued h.header.version h.header.project h.header.system h.header.sequence h.header.track_list;
        index = (refl, (h.index.part, (h.index.once, h.index.lines)));
        events = (
          refl,
          (
            h.events.part,
            (h.events.entries, (h.events.once, (h.events.lines, (h.events.events_are, h.events.separators_are)))),
          ),
        );
        notices = sym h.notices;
      } in
      let counts : IsCounted rate first.header = record { counted = refl; told = refl } in
      let rest = flat_map lines_of_block h.blocks ++ (h.end ∷ h.behind) in
      read_from-all rate nothing_read 0 (lines_of text)
      ∙ (ap (read_all rate nothing_read 0) (ap (with_numbers 1) (lines_are_cut text h.all h.cut) ∙ h.lines)
      ∙ (read_before h.before nothing_read 0 h.begin rest refl h.blank h.begins
      ∙ read_blocks h.are_blocks p sound first h.begin.number h.end h.behind refl fits counts h.ends))

pub value_of : (text : List ℕ) (p : ListProject) → Spells text p → text_value text ≡ Ok p
unfolding text_value
value_of text p h =
    let read = read_at p.rate text p refl h.spelled in
    rw (rate_of-read p.rate text p read, read) refl
