-- Inversions of reading: the line that was read, for each section and each stage.
use Rattle.std.specs.Prelude.{◌≡◌, ◌+◌, ◌==◌, ℕ, Bool, true, false, List, [], ◌∷◌, ◌++◌, length, Option, None, Some, Result, Ok, Err, codes, if◌then◌else◌, is_some, nat_le, refl}
use Rattle.std.specs.List.{list_any}
use Rattle.std.proofs.Common.{◌∙◌, ap, subst, sym}
use Rattle.sound_terms.specs.declared.Event.{Event}
use Rattle.list_terms.specs.declared.OpenEntry.{OpenEntry}
use Rattle.list_terms.specs.declared.Rates.{Rates}
use Rattle.list_terms.specs.declared.Section.{Section}
use Rattle.list_terms.specs.declared.Section.TheVariants as section
use Rattle.list_terms.specs.declared.Stage.TheVariants as stage
use Rattle.list_terms.specs.declared.TextFault.{TextFault}
use Rattle.list_terms.specs.declared.TextFault.TheVariants as fault
use Rattle.list_terms.specs.EntryLines.{entry_with, event_fields, remark, source_fields}
use Rattle.list_terms.specs.Fields.{end_line, is_keyword}
use Rattle.list_terms.specs.FormLaws.{always, reads_numbered, reads_whole}
use Rattle.list_terms.specs.EndLaws.{whole-token}
use Rattle.list_terms.specs.Forms.{Form, Number, Then, reads, value_at}
use Rattle.list_terms.specs.Project.{Source}
use Rattle.list_terms.specs.StepLaws.{chain, err_map_ok, if_ok, ok_map_ok, ok_same, unless_ok}
use Rattle.list_terms.specs.Steps.{err_map, ok_map}
use Rattle.list_terms.specs.Text.{Context, Entries, LocatedFault, Outline, all_events, at_entry, at_index, at_line, at_open, before_list, dropped_line, entry_line, entry_of, further_line, in_event_list, in_header, in_section, in_source_index, in_unsupported, index_line, is_end, is_list_begin, is_opened, is_tag, keep, kept_line, opened, opened_name, outside, rates_with, section_of, source_with, with_event, with_notice, with_section, with_text}
use Rattle.list_terms.specs.Tokens.{Cut, TokenText, token_at, trimmed}

-- The outline of the text read so far.
abbrev pub outline_of : Context → Outline
outline_of c = record {
  stage = c.stage;
  name = c.name;
  opened = record {
    version = is_some c.header.lines.version;
    project = is_some c.header.lines.project;
    system = is_some c.header.lines.system;
    sequence = is_some c.header.lines.sequence;
    track_list = is_some c.header.lines.track_list;
    source_index = c.has_index;
    event_list = c.has_events;
  };
}

abbrev pub begun : Context → ℕ → Section → List ℕ → Context
begun c n s name = record (with_section c n s) { stage = stage.Inside s; name = name }

-- ---- a line after its keyword

-- A line with this keyword, whose fields yield `x`.
pub record IsNamed {A : Type 0} (name : List ℕ) (form : Form A) (text : List ℕ) (x : A) : Type 0 where
  pub keyword : TokenText
  pub rest : List ℕ
  pub at : token_at text ≡ Ok (Some (keyword, rest))
  pub is : is_keyword name keyword ≡ true
  pub says : reads form rest ≡ Ok x

pub named_whole :
    {A : Type 0} (name : List ℕ) (form : Form A) (text : List ℕ) (x : A) → IsNamed name form text x
    → end_line text ≡ Ok tt
named_whole name form text x h = whole-token text h.rest h.keyword h.at (reads_whole form h.rest x h.says)

pub unsupported_line_is :
    (c next : Context) (n : ℕ) (text : List ℕ) → in_unsupported c n text ≡ Ok next
    → ((length (trimmed text) == 0) ≡ true) × (c ≡ next)
unfolding in_unsupported
unsupported_line_is c next n text e = if_ok (length (trimmed text) == 0) c (at_line n fault.Unsupported) next e

some_with : (text : List ℕ) (lines : Option (List (List ℕ))) → is_some (with_text text lines) ≡ is_some lines
some_with text None = refl
some_with text (Some lines) = refl

kept_outline :
    (s : Section) (c : Context) (text : List ℕ) (kept : ℕ) (rates : Rates)
    → outline_of (record c { header = record { lines = keep s text c.header.lines; kept = kept; rates = rates } })
    ≡ outline_of c
kept_outline section.Version c text kept rates = rw (some_with text c.header.lines.version) refl
kept_outline section.Project c text kept rates = rw (some_with text c.header.lines.project) refl
kept_outline section.System c text kept rates = rw (some_with text c.header.lines.system) refl
kept_outline section.Sequence c text kept rates = rw (some_with text c.header.lines.sequence) refl
kept_outline section.TrackList c text kept rates = rw (some_with text c.header.lines.track_list) refl
kept_outline section.SourceIndex c text kept rates = refl
kept_outline section.EventList c text kept rates = refl
kept_outline section.Skipped c text kept rates = refl
kept_outline section.Unsupported c text kept rates = refl

-- A line before the list: blank, or `<ADL>`.
pub data IsBeforeLine (c : Context) (text : List ℕ) : Context → Type 0 where
  BlankBefore : (length (trimmed text) == 0) ≡ true → IsBeforeLine c text c
  Begins :
      (length (trimmed text) == 0) ≡ false → is_list_begin (trimmed text) ≡ true
      → IsBeforeLine c text (record c { stage = stage.Outside })

pub before_is :
    (c next : Context) (n : ℕ) (text : List ℕ) → before_list c n (trimmed text) ≡ Ok next → IsBeforeLine c text next
unfolding before_list
before_is c next n text e = by_tests (length (trimmed text) == 0) refl (is_list_begin (trimmed text)) refl where
  by_tests :
      (blank : Bool) → (length (trimmed text) == 0) ≡ blank → (begins : Bool) → is_list_begin (trimmed text) ≡ begins
      → IsBeforeLine c text next
  by_tests true b begins g = rw (← ok_same {E = LocatedFault} c next (rw b at e)) (BlankBefore b)
  by_tests false b true g =
      rw (← ok_same {E = LocatedFault} (record c { stage = stage.Outside }) next (rw (b, g) at e)) (Begins b g)
  by_tests false b false g =
      absurd (let no : ◌≡◌ {A = Result Context LocatedFault} (Err (at_line n fault.SectionMismatch)) (Ok next) =
      rw (b, g) at e in cc)

-- A line between sections: blank, `</ADL>`, or the first opening of a section.
pub data IsOutsideLine (c : Context) (n : ℕ) (text : List ℕ) : Context → Type 0 where
  BlankOutside : (length (trimmed text) == 0) ≡ true → IsOutsideLine c n text c
  Ends :
      (length (trimmed text) == 0) ≡ false → is_end (codes "ADL") (trimmed text) ≡ true
      → IsOutsideLine c n text (record c { stage = stage.Behind })
  Opens :
      (name : List ℕ) → (length (trimmed text) == 0) ≡ false → is_end (codes "ADL") (trimmed text) ≡ false
      → opened_name (trimmed text) ≡ Some name → is_opened c (section_of name) ≡ false
      → IsOutsideLine c n text (begun c n (section_of name) name)

pub outside_is :
    (c next : Context) (n : ℕ) (text : List ℕ) → outside c n (trimmed text) ≡ Ok next → IsOutsideLine c n text next
unfolding outside opened
outside_is c next n text e =
    by_tests (length (trimmed text) == 0) refl (is_end (codes "ADL") (trimmed text)) refl (opened_name (trimmed text))
    refl where
      by_tests :
          (blank : Bool) → (length (trimmed text) == 0) ≡ blank → (ends : Bool)
          → is_end (codes "ADL") (trimmed text) ≡ ends → (name : Option (List ℕ)) → opened_name (trimmed text) ≡ name
          → IsOutsideLine c n text next
      by_tests true b ends g name o = rw (← ok_same {E = LocatedFault} c next (rw b at e)) (BlankOutside b)
      by_tests false b true g name o =
          rw (← ok_same {E = LocatedFault} (record c { stage = stage.Behind }) next (rw (b, g) at e)) (Ends b g)
      by_tests false b false g None o =
          absurd (let no : ◌≡◌ {A = Result Context LocatedFault} (Err (at_line n fault.SectionMismatch)) (Ok next) =
          rw (b, g, o) at e in cc)
      by_tests false b false g (Some name) o =
          let u = unless_ok (is_opened c (section_of name)) (at_line n fault.RepeatedSection)
          (Ok (begun c n (section_of name) name)) next (rw (b, g, o) at e) in
          rw (← ok_same {E = LocatedFault} (begun c n (section_of name) name) next u.1) (Opens name b g o u.0)

-- ---- one line of a section

module _ (rate : ℕ) where
  -- A header line that was read.
  pub record IsHeaderLine (s : Section) (c next : Context) (text : List ℕ) : Type 0 where
    pub rates : Rates
    pub room : nat_le 65535 c.header.kept ≡ false
    pub says : rates_with rate s c.header.rates text ≡ Ok rates
    pub is : next ≡
        record c { header = record { lines = keep s text c.header.lines; kept = c.header.kept + 1; rates = rates } }

  pub header_line_is :
      (s : Section) (c next : Context) (n : ℕ) (text : List ℕ) → in_header rate c n text s ≡ Ok next
      → IsHeaderLine s c next text
  unfolding in_header kept_line
  header_line_is s c next n text e =
      let f = ok_map_ok _ _ next (err_map_ok (at_line n) _ next e) in
      let u = unless_ok _ fault.TooMany _ f.value f.is in
      let k = ok_map_ok _ (rates_with rate s c.header.rates text) f.value u.1 in
      record {
        rates = k.value;
        room = u.0;
        says = k.is;
        is = sym f.same ∙ ap (λ header. record c { header = header }) (sym k.same);
      }

  -- A line of SOURCE_INDEX: blank, a source with a new number, or a dropped line.
  pub data IsSourceLine (c : Context) (n : ℕ) (text : List ℕ) : Context → Type 0 where
    BlankSource : token_at text ≡ Ok None → IsSourceLine c n text c
    ToldSource :
        (source : Source) → IsNamed (codes "Index") (Then Number (source_fields rate)) text source
        → list_any (λ other. other.number == source.number) c.sources ≡ false
        → IsSourceLine c n text (record c { sources = c.sources ++ source ∷ [] })
    DroppedSource :
        (token : TokenText) (rest : List ℕ) → token_at text ≡ Ok (Some (token, rest))
        → is_keyword (codes "Index") token ≡ false → end_line rest ≡ Ok tt
        → IsSourceLine c n text (with_notice c 2 n)

  -- A source has the number in its line.
  pub source_number :
      (n : ℕ) (line : List ℕ) (source : Source) → reads (source_fields rate n) line ≡ Ok source → source.number ≡ n
  source_number n line source e =
      always (λ s. s.number ≡ n) (source_fields rate n) line source (λ _ url uid start length. refl) e

  index_line_is :
      (c next : Context) (n : ℕ) (text rest : List ℕ) (index : TokenText) → token_at text ≡ Ok (Some (index, rest))
      → is_keyword (codes "Index") index ≡ true → index_line rate c n rest ≡ Ok next → IsSourceLine c n text next
  unfolding index_line source_with
  index_line_is c next n text rest index at is e =
      let a = chain (err_map (at_line n) (value_at Number rest)) _ next e in
      let numbered = err_map_ok (at_line n) (value_at Number rest) a.value a.is in
      let b = ok_map_ok (λ sources. record c { sources = sources }) (source_with rate c.sources a.value.0 a.value.1)
      next (err_map_ok (at_index n a.value.0) _ next a.others) in
      let free = unless_ok (list_any (λ other. other.number == a.value.0) c.sources) fault.DuplicateNumber _ b.value
      b.is in
      let s = chain (reads (source_fields rate a.value.0) a.value.1) (λ source. Ok (c.sources ++ source ∷ [])) b.value
      free.1 in
      rw (← b.same, ← ok_same (c.sources ++ s.value ∷ []) b.value s.others) (ToldSource s.value (record {
        keyword = index;
        rest = rest;
        at = at;
        is = is;
        says = reads_numbered (source_fields rate) rest a.value.1 a.value.0 s.value numbered s.is;
      }) (subst (λ m. list_any (λ other. other.number == m) c.sources ≡ false)
      (sym (source_number a.value.0 a.value.1 s.value s.is)) free.0))

  dropped_line_is :
      (c next : Context) (n : ℕ) (text rest : List ℕ) (token : TokenText) → token_at text ≡ Ok (Some (token, rest))
      → is_keyword (codes "Index") token ≡ false → dropped_line c n rest ≡ Ok next → IsSourceLine c n text next
  unfolding dropped_line
  dropped_line_is c next n text rest token at other e =
      let d = ok_map_ok (λ _. with_notice c 2 n) (end_line rest) next (err_map_ok (at_line n) _ next e) in
      rw (← d.same) (DroppedSource token rest at other d.is)

  pub source_line_is :
      (c next : Context) (n : ℕ) (text : List ℕ) → in_source_index rate c n text ≡ Ok next
      → (is_tag text ≡ false) × IsSourceLine c n text next
  unfolding in_source_index
  source_line_is c next n text e = by_cut (is_tag text) refl (token_at text) refl where
    by_test :
        (token : TokenText) (rest : List ℕ) → token_at text ≡ Ok (Some (token, rest))
        → (is : Bool) → is_keyword (codes "Index") token ≡ is
        → (if is_keyword (codes "Index") token then index_line rate c n rest else dropped_line c n rest) ≡ Ok next
        → IsSourceLine c n text next
    by_test token rest at true is o = index_line_is c next n text rest token at is (rw is at o)
    by_test token rest at false other o = dropped_line_is c next n text rest token at other (rw other at o)

    by_cut :
        (tag : Bool) → is_tag text ≡ tag → (found : Result (Option Cut) TextFault) → token_at text ≡ found
        → (is_tag text ≡ false) × IsSourceLine c n text next
    by_cut true t found f =
        absurd (let no : ◌≡◌ {A = Result Context LocatedFault} (Err (at_line n fault.SectionMismatch)) (Ok next) =
        rw t at e in cc)
    by_cut false t (Err fault) f =
        absurd (let no : ◌≡◌ {A = Result Context LocatedFault} (Err (at_line n fault)) (Ok next) = rw (t, f) at e in cc)
    by_cut false t (Ok None) f = (t, rw (← ok_same {E = LocatedFault} c next (rw (t, f) at e)) (BlankSource f))
    by_cut false t (Ok (Some (token, rest))) f =
        (t, by_test token rest f (is_keyword (codes "Index") token) refl (rw (t, f) at e))

  -- A line of EVENT_LIST: blank, an entry with a new number, a remark before the first entry, or a line of the
  -- entry before it.
  pub data IsEventLine (c : Context) (text : List ℕ) : Context → Type 0 where
    BlankEvent : token_at text ≡ Ok None → IsEventLine c text c
    ToldEntry :
        (g : Event × List ℕ) → IsNamed (codes "Entry") (Then Number (event_fields rate)) text g
        → list_any (λ other. other.number == g.0.number) (all_events c.entries.events c.entries.entry) ≡ false
        → IsEventLine c text (record c { entries = with_event c.entries g.0 g.1 })
    FrontRemark :
        (token : TokenText) (rest : List ℕ) → token_at text ≡ Ok (Some (token, rest)) → c.entries.entry ≡ None
        → reads (remark token) rest ≡ Ok tt
        → IsEventLine c text (record c { entries = record c.entries { entry = None } })
    Further :
        (entry new : OpenEntry) (token : TokenText) (rest : List ℕ) → token_at text ≡ Ok (Some (token, rest))
        → c.entries.entry ≡ Some entry → reads (entry_with rate entry token) rest ≡ Ok new
        → IsEventLine c text (record c { entries = record c.entries { entry = Some new } })

  -- An entry has the number in its line.
  pub entry_number :
      (n : ℕ) (line : List ℕ) (g : Event × List ℕ) → reads (event_fields rate n) line ≡ Ok g → g.0.number ≡ n
  entry_number n line g e =
      always (λ g. g.0.number ≡ n) (event_fields rate n) line g (λ _ kind index source dest a b c. refl) e

  entry_line_is :
      (c next : Context) (n : ℕ) (text rest : List ℕ) (token : TokenText) → token_at text ≡ Ok (Some (token, rest))
      → is_keyword (codes "Entry") token ≡ true → entry_line rate c n rest ≡ Ok next → IsEventLine c text next
  unfolding entry_line entry_of
  entry_line_is c next n text rest token at is e =
      let a = chain (err_map (at_line n) (value_at Number rest)) _ next e in
      let numbered = err_map_ok (at_line n) (value_at Number rest) a.value a.is in
      let b = ok_map_ok (λ entries. record c { entries = entries }) (entry_of rate c.entries a.value.0 a.value.1) next
      (err_map_ok (at_entry n a.value.0) _ next a.others) in
      let free = unless_ok (list_any (λ other. other.number == a.value.0) (all_events c.entries.events c.entries.entry))
      fault.DuplicateNumber _ b.value b.is in
      let s = chain (reads (event_fields rate a.value.0) a.value.1) (λ g. Ok (with_event c.entries g.0 g.1)) b.value
      free.1 in
      rw (← b.same, ← ok_same (with_event c.entries s.value.0 s.value.1) b.value s.others) (ToldEntry s.value (record {
        keyword = token;
        rest = rest;
        at = at;
        is = is;
        says = reads_numbered (event_fields rate) rest a.value.1 a.value.0 s.value numbered s.is;
      }) (subst (λ m. list_any (λ other. other.number == m) (all_events c.entries.events c.entries.entry) ≡ false)
      (sym (entry_number a.value.0 a.value.1 s.value s.is)) free.0))

  further_line_is :
      (c : Context) (new : Entries) (text rest : List ℕ) (token : TokenText) → token_at text ≡ Ok (Some (token, rest))
      → (entry : Option OpenEntry) → c.entries.entry ≡ entry → further_line rate c.entries token rest ≡ Ok new
      → IsEventLine c text (record c { entries = new })
  unfolding further_line
  further_line_is c new text rest token at None is e =
      let b = ok_map_ok _ (reads (remark token) rest) new (rw is at e) in
      rw (← b.same) (FrontRemark token rest at is b.is)
  further_line_is c new text rest token at (Some entry) is e =
      let b = ok_map_ok _ (reads (entry_with rate entry token) rest) new (rw is at e) in
      rw (← b.same) (Further entry b.value token rest at is b.is)

  pub event_line_is :
      (c next : Context) (n : ℕ) (text : List ℕ) → in_event_list rate c n text ≡ Ok next
      → (is_tag text ≡ false) × IsEventLine c text next
  unfolding in_event_list
  event_line_is c next n text e = by_cut (is_tag text) refl (token_at text) refl where
    by_test :
        (token : TokenText) (rest : List ℕ) → token_at text ≡ Ok (Some (token, rest))
        → (is : Bool) → is_keyword (codes "Entry") token ≡ is
        → (if is_keyword (codes "Entry") token then entry_line rate c n rest
        else err_map (at_open n c.entries.entry)
        (ok_map (λ entries. record c { entries = entries }) (further_line rate c.entries token rest))) ≡ Ok next
        → IsEventLine c text next
    by_test token rest at true is o = entry_line_is c next n text rest token at is (rw is at o)
    by_test token rest at false other o =
        let a = ok_map_ok (λ entries. record c { entries = entries }) (further_line rate c.entries token rest) next
        (err_map_ok (at_open n c.entries.entry) _ next (rw other at o)) in
        rw (← a.same) (further_line_is c a.value text rest token at c.entries.entry refl a.is)

    by_cut :
        (tag : Bool) → is_tag text ≡ tag → (found : Result (Option Cut) TextFault) → token_at text ≡ found
        → (is_tag text ≡ false) × IsEventLine c text next
    by_cut true t found f =
        absurd (let no : ◌≡◌ {A = Result Context LocatedFault} (Err (at_line n fault.SectionMismatch)) (Ok next) =
        rw t at e in cc)
    by_cut false t (Err fault) f =
        absurd (let no : ◌≡◌ {A = Result Context LocatedFault} (Err (at_open n c.entries.entry fault)) (Ok next) =
        rw (t, f) at e in cc)
    by_cut false t (Ok None) f = (t, rw (← ok_same {E = LocatedFault} c next (rw (t, f) at e)) (BlankEvent f))
    by_cut false t (Ok (Some (token, rest))) f =
        (t, by_test token rest f (is_keyword (codes "Entry") token) refl (rw (t, f) at e))

  -- ---- a line inside a section leaves the outline unchanged

  header_line_leaves :
      (s : Section) (c next : Context) (n : ℕ) (text : List ℕ) → in_header rate c n text s ≡ Ok next
      → outline_of next ≡ outline_of c
  header_line_leaves s c next n text e =
      let h = header_line_is s c next n text e in
      ap outline_of h.is ∙ kept_outline s c text (c.header.kept + 1) h.rates

  source_line_leaves :
      {c next : Context} {n : ℕ} {text : List ℕ} → IsSourceLine c n text next → outline_of next ≡ outline_of c
  source_line_leaves (BlankSource at) = refl
  source_line_leaves (ToldSource source h free) = refl
  source_line_leaves (DroppedSource token rest at other ends) = refl

  event_line_leaves : {c next : Context} {text : List ℕ} → IsEventLine c text next → outline_of next ≡ outline_of c
  event_line_leaves (BlankEvent at) = refl
  event_line_leaves (ToldEntry g h free) = refl
  event_line_leaves (FrontRemark token rest at none says) = refl
  event_line_leaves (Further entry new token rest at is says) = refl

  pub line_leaves :
      (s : Section) (c next : Context) (n : ℕ) (text : List ℕ) → in_section rate c n text s ≡ Ok next
      → outline_of next ≡ outline_of c
  unfolding in_section
  line_leaves section.Version c next n text e = header_line_leaves section.Version c next n text e
  line_leaves section.Project c next n text e = header_line_leaves section.Project c next n text e
  line_leaves section.System c next n text e = header_line_leaves section.System c next n text e
  line_leaves section.Sequence c next n text e = header_line_leaves section.Sequence c next n text e
  line_leaves section.TrackList c next n text e = header_line_leaves section.TrackList c next n text e
  line_leaves section.SourceIndex c next n text e = source_line_leaves (source_line_is c next n text e).1
  line_leaves section.EventList c next n text e = event_line_leaves (event_line_is c next n text e).1
  line_leaves section.Skipped c next n text e = ap outline_of (sym (ok_same {E = LocatedFault} c next e))
  line_leaves section.Unsupported c next n text e = ap outline_of (sym (unsupported_line_is c next n text e).1)

  -- A line inside a section closes it or belongs to it.
  pub data IsInsideLine (s : Section) (c : Context) (n : ℕ) (text : List ℕ) (next : Context) : Type 0 where
    Closes : is_end c.name (trimmed text) ≡ true → record c { stage = stage.Outside } ≡ next
        → IsInsideLine s c n text next
    Within : is_end c.name (trimmed text) ≡ false → in_section rate c n text s ≡ Ok next
        → IsInsideLine s c n text next

  pub inside_is :
      (s : Section) (c next : Context) (n : ℕ) (text : List ℕ)
      → (if is_end c.name (trimmed text) then Ok (record c { stage = stage.Outside }) else in_section rate c n text s)
      ≡ Ok next → IsInsideLine s c n text next
  inside_is s c next n text e = by_test (is_end c.name (trimmed text)) refl where
    by_test : (ends : Bool) → is_end c.name (trimmed text) ≡ ends → IsInsideLine s c n text next
    by_test true ends = Closes ends (ok_same {E = LocatedFault} _ _ (rw ends at e))
    by_test false more = Within more (rw more at e)
