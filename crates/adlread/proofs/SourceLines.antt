-- A line of SOURCE_INDEX is read as the source that its tokens spell, and as no other.
use Rattle.std.proofs.Common.{◌≡◌, ℕ, true, false, List, [], ◌∷◌, ◌++◌, Ok, refl, ap, sym, subst, ◌∙◌, append_assoc}
use Rattle.std.specs.Prelude.{codes, ◌==◌, not}
use Rattle.std.specs.List.{list_any}
use Rattle.std.proofs.lemmas.List.{append-nil}
use Rattle.std.proofs.lemmas.Bool.{not-true}
use Rattle.facts.specs.Distinct.{moved, not_taken}
use Rattle.list_terms.specs.declared.Notice.{Notice}
use Rattle.list_terms.specs.declared.Section.TheVariants as section
use Rattle.list_terms.specs.Project.{Source}
use Rattle.list_terms.specs.ReadingLaws.{BlankSource, DroppedSource, IsSourceLine, ToldSource, source_line_is, source_number}
use Rattle.list_terms.specs.Tokens.{TokenText}
use Rattle.list_terms.specs.Fields.{is_keyword}
use Rattle.list_terms.specs.Forms.{Number, Then}
use Rattle.list_terms.specs.EntryLines.{source_fields}
use Rattle.list_terms.specs.Text.{Context, dropped_line, in_source_index, index_line, is_tag, source_with, with_notice}
use Rattle.list_terms.specs.Text.{in_section}
use Rattle.list_terms.specs.WholeProject.{AreDistinct, index_numbers}
use Rattle.adlread.specs.CutLines.{HasTokens, NumberedLine}
use Rattle.adlread.specs.Spells.{BlankLine, DroppedLine, SourceLine, SourcesEnd, SpellsSources}
use Rattle.adlread.specs.LineGrammar.{SpellsLine, is_no_source, source_line}
use Rattle.adlread.proofs.CutLaws.{cut_next, cut_none, first_cut, no_cut}
use Rattle.adlread.proofs.Walk.{walk, walk_step}
use Rattle.adlread.proofs.FieldLaws.{chain, end_is, is_end_of, is_named, is_numbered, spells_named}

module _ (rate : ℕ) where
  -- ---- reading one line

  module _ (c : Context) (n : ℕ) (text : List ℕ) where
    blank_source_line : HasTokens text [] → in_source_index rate c n text ≡ Ok c
    unfolding in_source_index
    blank_source_line h = rw (h.untagged, no_cut h.cut) refl

    source_line_read :
        (source : Source) → SpellsLine (source_line rate) text source
        → list_any (λ other. other.number == source.number) c.sources ≡ false
        → in_source_index rate c n text ≡ Ok (record c { sources = c.sources ++ source ∷ [] })
    unfolding in_source_index index_line source_with
    source_line_read source h free =
        let l = is_named (codes "Index") (Then Number (source_fields rate)) text source h in
        let f = is_numbered (source_fields rate) l.rest source l.says in
        let new : list_any (λ other. other.number == f.number) c.sources ≡ false =
        subst (λ m. list_any (λ other. other.number == m) c.sources ≡ false)
        (source_number rate f.number f.rest source f.says) free in
        rw (h.cut.untagged, l.at, l.is, f.numbered, new, f.says) refl

    dropped_source_line :
        (tokens : List TokenText) → HasTokens text tokens → is_no_source tokens ≡ true
        → in_source_index rate c n text ≡ Ok (with_notice c 2 n)
    unfolding in_source_index dropped_line
    dropped_source_line [] h other = absurd (cc)
    dropped_source_line (token ∷ tokens) h other =
        let f = first_cut h.cut in
        rw (h.untagged, f.at, not-true (is_keyword (codes "Index") token) other, is_end_of f.rest tokens f.cut) refl

  -- ---- all lines

  pub read_sources :
      {lines : List NumberedLine} {sources : List Source} {dropped : List Notice} → SpellsSources rate lines sources dropped
      → (c : Context) → AreDistinct (index_numbers (c.sources ++ sources))
      → walk rate section.SourceIndex c lines
      ≡ Ok (record c { sources = c.sources ++ sources; notices = c.notices ++ dropped })
  unfolding in_section
  read_sources SourcesEnd c distinct = rw (append-nil c.sources, append-nil c.notices) refl
  read_sources (BlankLine line {lines} h others) c distinct =
      walk_step rate section.SourceIndex c c line lines (blank_source_line c line.number line.text h)
      ∙ read_sources others c distinct
  read_sources (SourceLine line source {lines} {sources} {dropped} h others) c distinct =
      let next = record c { sources = c.sources ++ source ∷ [] } in
      let free = not_taken (λ s. s.number) c.sources source sources distinct in
      walk_step rate section.SourceIndex c next line lines (source_line_read c line.number line.text source h free)
      ∙ read_sources others next (moved (λ s. s.number) c.sources source sources distinct)
      ∙ ap (λ all. Ok (record c { sources = all; notices = c.notices ++ dropped }))
      (append_assoc c.sources (source ∷ []) sources)
  read_sources (DroppedLine line {lines} {sources} {dropped} h others) c distinct =
      let next = with_notice c 2 line.number in
      walk_step rate section.SourceIndex c next line lines
      (dropped_source_line c line.number line.text h.tokens h.cut h.passes)
      ∙ read_sources others next distinct
      ∙ ap (λ all. Ok (record c { sources = c.sources ++ sources; notices = all }))
      (append_assoc c.notices (record { kind = 2; at = line.number } ∷ []) dropped)

  pub record AreReadSources (lines : List NumberedLine) (c next : Context) : Type 0 where
    pub sources : List Source
    pub dropped : List Notice
    pub spells : SpellsSources rate lines sources dropped
    pub is : next ≡ record c { sources = c.sources ++ sources; notices = c.notices ++ dropped }

  with_line :
      (line : NumberedLine) (lines : List NumberedLine) (c middle next : Context) → is_tag line.text ≡ false
      → IsSourceLine rate c line.number line.text middle → AreReadSources lines middle next
      → AreReadSources (line ∷ lines) c next
  with_line line lines c middle next t (BlankSource at) r =
      let blank : HasTokens line.text [] = record { untagged = t; cut = cut_none line.text at } in
      record { sources = r.sources; dropped = r.dropped; spells = BlankLine line blank r.spells; is = r.is }
  with_line line lines c middle next t (ToldSource source h free) r = record {
    sources = source ∷ r.sources;
    dropped = r.dropped;
    spells = SourceLine line source
        (spells_named (codes "Index") (Then Number (source_fields rate)) line.text source t h) r.spells;
    is =
        r.is ∙ ap (λ all. record c { sources = all; notices = c.notices ++ r.dropped })
        (append_assoc c.sources (source ∷ []) r.sources);
  }
  with_line line lines c middle next t (DroppedSource token rest at other ends) r =
      let further = end_is rest ends in
      let cut : HasTokens line.text (token ∷ further.tokens) =
      record { untagged = t; cut = cut_next line.text rest token further.tokens at further.cut } in
      record {
        sources = r.sources;
        dropped = record { kind = 2; at = line.number } ∷ r.dropped;
        spells = DroppedLine line (record { tokens = token ∷ further.tokens; cut = cut; passes = ap not other })
            r.spells;
        is =
            r.is ∙ ap (λ all. record c { sources = c.sources ++ r.sources; notices = all })
            (append_assoc c.notices (record { kind = 2; at = line.number } ∷ []) r.dropped);
      }

  pub sources_are_read :
      (lines : List NumberedLine) (c next : Context) → walk rate section.SourceIndex c lines ≡ Ok next
      → AreReadSources lines c next
  unfolding in_section
  sources_are_read [] c next e =
      let same : c ≡ next = cc in
      record {
        sources = [];
        dropped = [];
        spells = SourcesEnd;
        is = sym same ∙ rw (append-nil c.sources, append-nil c.notices) refl;
      }
  sources_are_read (line ∷ lines) c next e =
      let f = chain (in_section rate c line.number line.text section.SourceIndex) _ next e in
      let l = source_line_is rate c f.value line.number line.text f.is in
      with_line line lines c f.value next l.0 l.1 (sources_are_read lines f.value next f.others)
