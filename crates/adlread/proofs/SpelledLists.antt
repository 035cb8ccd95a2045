-- A list that was read spells the project that was read.
use Rattle.std.proofs.Common.{◌≡◌, ℕ, zero, suc, ◌≤◌, Bool, true, false, List, [], ◌∷◌, ◌++◌, length, Some, Ok, refl, ap, sym, subst, ◌∙◌, append_assoc, length-append, arith}
use Rattle.std.specs.Prelude.{codes, flat_map, is_some, not, unwrap_or, ◌&&◌}
use Rattle.std.specs.List.{list_all}
use Rattle.std.proofs.lemmas.List.{append-nil}
use Rattle.facts.specs.Tests.{and_both}
use Rattle.sampletime.specs.TimeCode.{default_separators}
use Rattle.list_terms.specs.declared.Stage.TheVariants as stage
use Rattle.list_terms.specs.declared.TextFault.TheVariants.{MissingSection, MissingSequence}
use Rattle.list_terms.specs.Project.{ListProject}
use Rattle.list_terms.specs.Lines.{lines_of}
use Rattle.list_terms.specs.Tokens.{trimmed}
use Rattle.list_terms.specs.ReadingLaws.{begun, Begins, BlankBefore, BlankOutside, Ends, IsBeforeLine, IsOutsideLine, Opens, before_is, outside_is}
use Rattle.list_terms.specs.Text.{Context, all_events, at_line, finished, is_behind, is_end, is_list_begin, nothing_read, opened_name, project_of, rate_of, read_from, section_of, text_refusal, text_value, with_line}
use Rattle.list_terms.specs.WholeProject.{IsProject, IsHeader, both_rates, lines_of_section, no_rates}
use Rattle.adlread.specs.CutLines.{NumberedLine, is_empty, with_numbers, texts}
use Rattle.adlread.specs.Spells.{AreBlocks, Blank, BlankBlock, Block, NoBlocks, SectionBlock, SectionText, Spells, SpellsAtRate, Titled, lines_of_block, one_or_none}
use Rattle.adlread.proofs.Blocks.{before_line_is, outside_line_is}
use Rattle.adlread.proofs.FieldLaws.{chain, err_map_ok, ok_same, unless_ok}
use Rattle.adlread.proofs.Fits.{EventsFit, Fits, IndexFits, continued, titled}
use Rattle.adlread.proofs.LineLaws.{has_lines}
use Rattle.adlread.proofs.SettingLines.{rates_are, settings_are}
use Rattle.adlread.proofs.Stages.{Parted, at_first, goes_on, one_before, read_on, outside_of, read_all, read_from-all, section_is_read, stays_inside}
use Rattle.adlread.proofs.WalkedSections.{IsFresh, IsWalkedOver, walked_over}

-- ---- the end of a list

all_there : (a b c : Bool) → not (a && b && c) ≡ false → (b ≡ true) × (c ≡ true)
all_there true true true h = (refl, refl)
all_there true true false h = absurd (cc)
all_there true false c h = absurd (cc)
all_there false b c h = absurd (cc)

-- The lines after a section are fewer than all lines.
shorter :
    (lines : List NumberedLine) (c : Parted lines) (fuel : ℕ) → length lines ≤ fuel → length c.after ≤ fuel
shorter lines c fuel short = omega (arith, ap length c.are, length-append c.before (c.line ∷ c.after))

module _ (rate : ℕ) where
  end_is_read : (c : Context) (p : ListProject) (n : ℕ) → finished rate (record c { stage = stage.Behind }) n ≡ Ok p
      → Fits rate c [] p × (p.rate ≡ rate)
  unfolding finished
  end_is_read c p n e =
      let there = unless_ok (not (is_some c.header.lines.sequence && c.has_index && c.has_events))
      (at_line n MissingSection) _ p e in
      let told = unless_ok (not (c.header.rates.sample_rate && c.header.rates.frame_rate))
      (at_line n MissingSequence) _ p there.1 in
      let both = all_there (is_some c.header.lines.sequence) c.has_index c.has_events there.0 in
      let same : project_of rate c ≡ p = ok_same _ _ told.1 in
      let known : Fits rate c [] (project_of rate c) = record {
        header = continued (append-nil (one_or_none c.header.lines.version))
            (append-nil (one_or_none c.header.lines.project)) (append-nil (one_or_none c.header.lines.system))
            (append-nil (one_or_none c.header.lines.sequence)) (append-nil (one_or_none c.header.lines.track_list));
        index = subst (λ has. IndexFits rate has c.sources [] c.sources) (sym both.0) (refl, refl);
        events =
            subst (λ has. EventsFit rate has c.entries [] (all_events c.entries.events c.entries.entry)
            (unwrap_or c.entries.separators default_separators))
            (sym both.1) (refl, (refl, refl));
        notices = append-nil c.notices;
      } in (subst (λ q. Fits rate c [] q) same known, sym (ap (λ (q : ListProject). q.rate) same))

  -- ---- sections, one after another

  record IsBody (c : Context) (lines : List NumberedLine) (p : ListProject) : Type 0 where
    blocks : List Block
    cut : Parted lines
    before_are : cut.before ≡ flat_map lines_of_block blocks
    are : AreBlocks blocks
    ends : is_end (codes "ADL") (trimmed cut.line.text) ≡ true
    fits : Fits rate c blocks p
    same_rate : p.rate ≡ rate

  with_blank :
      (c : Context) (line : NumberedLine) (lines : List NumberedLine) (p : ListProject) → is_empty line.text ≡ true
      → IsBody c lines p → IsBody c (line ∷ lines) p
  with_blank c line lines p empty r = record {
    blocks = Blank line ∷ r.blocks;
    cut = one_before line r.cut;
    before_are = ap (λ ls. line ∷ ls) r.before_are;
    are = BlankBlock line empty r.are;
    ends = r.ends;
    fits = record { header = r.fits.header; index = r.fits.index; events = r.fits.events; notices = r.fits.notices };
    same_rate = r.same_rate;
  }

  with_section_text :
      (c last : Context) (part : SectionText) (rest : List NumberedLine) (p : ListProject)
      → opened_name (trimmed part.opening.text) ≡ Some part.name
      → list_all (stays_inside part.name) (texts part.content) ≡ true
      → is_end part.name (trimmed part.ending.text) ≡ true
      → IsWalkedOver rate c (section_of part.name) part last → IsBody (outside_of last) rest p
      → IsBody c (part.opening ∷ (part.content ++ (part.ending ∷ rest))) p
  with_section_text c last part rest p opens inside ends w r =
      let f = w.fits r.blocks p r.fits in
      let s : SectionText = record part { meaning = section_of part.name; notices = f.0 } in
      record {
        blocks = Titled s ∷ r.blocks;
        cut = record {
          before = lines_of_block (Titled s) ++ r.cut.before;
          line = r.cut.line;
          after = r.cut.after;
          are = ap (λ ls. part.opening ∷ (part.content ++ (part.ending ∷ ls))) r.cut.are
              ∙ sym (ap (λ ls. part.opening ∷ ls)
              (append_assoc (part.content ++ (part.ending ∷ [])) r.cut.before (r.cut.line ∷ r.cut.after)
              ∙ append_assoc part.content (part.ending ∷ []) (r.cut.before ++ (r.cut.line ∷ r.cut.after))));
        };
        before_are = ap (λ ls. lines_of_block (Titled s) ++ ls) r.before_are;
        are =
            SectionBlock s (record { meant = refl; opens = opens; inside = inside; ends = ends; noticed = f.1.1 }) r.are;
        ends = r.ends;
        fits = f.1.0;
        same_rate = r.same_rate;
      }

  module _ (p : ListProject) where
    -- Induction hypothesis: lists with at most this many lines.
    abbrev IsReadWithin : ℕ → Type 0
    IsReadWithin fuel =
        (lines : List NumberedLine) (c : Context) (n : ℕ) → length lines ≤ fuel → c.stage ≡ stage.Outside → IsFresh c
        → read_all rate c n lines ≡ Ok p → IsBody c lines p

    with_first :
        (c : Context) (line : NumberedLine) (lines : List NumberedLine) (next : Context) (fuel : ℕ)
        → length lines ≤ fuel
        → c.stage ≡ stage.Outside → IsFresh c → IsOutsideLine c line.number line.text next
        → read_on rate next line.number lines ≡ Ok p → IsReadWithin fuel → IsBody c (line ∷ lines) p
    with_first c line lines next fuel short is fresh (BlankOutside blank) e ih =
        with_blank c line lines p blank
        (ih lines c line.number short is fresh (goes_on rate c line.number lines p (ap is_behind is) e))
    with_first c line lines next fuel short is fresh (Ends some ends) e ih =
        let last = end_is_read c p line.number e in
        record {
          blocks = [];
          cut = at_first line lines;
          before_are = refl;
          are = NoBlocks;
          ends = ends;
          fits = last.0;
          same_rate = last.1;
        }
    with_first c line lines next fuel short is fresh (Opens name some more opens free) e ih =
        let b = begun c line.number (section_of name) name in
        let s = section_is_read rate (section_of name) lines b line.number p refl e in
        let part = titled (section_of name) name line s.cut.before s.cut.line [] in
        let w = walked_over rate c part s.last fresh (section_of name) free s.walked in
        let r = ih s.cut.after (outside_of s.last) s.cut.line.number (shorter lines s.cut fuel short) refl w.fresh
        s.others in
        subst (λ ls. IsBody c (line ∷ ls) p) (sym s.cut.are)
        (with_section_text c s.last part s.cut.after p opens s.inside s.ends w r)

    body_is_read : (fuel : ℕ) → IsReadWithin fuel
    body_is_read fuel [] c n short is fresh e = absurd (cc)
    body_is_read zero (line ∷ lines) c n short is fresh e = absurd (omega arith)
    body_is_read (suc fuel) (line ∷ lines) c n short is fresh e =
        let f = chain (with_line rate c line.number line.text) (λ next. read_on rate next line.number lines) p e in
        let l = outside_is c f.value line.number line.text
        (sym (outside_line_is rate c line.number line.text is) ∙ f.is) in
        with_first c line lines f.value fuel (omega arith) is fresh l f.others
        (λ ls d m s i g h. body_is_read fuel ls d m s i g h)

  -- ---- the whole list

  record IsList (c : Context) (lines : List NumberedLine) (p : ListProject) : Type 0 where
    cut : Parted lines
    blank : list_all is_empty (texts cut.before) ≡ true
    begins : is_list_begin (trimmed cut.line.text) ≡ true
    others : read_all rate (outside_of c) cut.line.number cut.after ≡ Ok p

  list_is_read :
      (lines : List NumberedLine) (c : Context) (n : ℕ) (p : ListProject) → c.stage ≡ stage.Before
      → read_all rate c n lines ≡ Ok p → IsList c lines p
  list_is_read [] c n p is e = absurd (cc)
  list_is_read (line ∷ lines) c n p is e =
      let f = chain (with_line rate c line.number line.text) (λ next. read_on rate next line.number lines) p e in
      by_line f.value f.others (before_is c f.value line.number line.text
      (sym (before_line_is rate c line.number line.text is) ∙ f.is))
      (λ g. list_is_read lines c line.number p is g) where
        by_line :
            (next : Context) → read_on rate next line.number lines ≡ Ok p → IsBeforeLine c line.text next
            → (read_all rate c line.number lines ≡ Ok p → IsList c lines p)
            → IsList c (line ∷ lines) p
        by_line next g (BlankBefore blank) ih =
            let r = ih (goes_on rate c line.number lines p (ap is_behind is) g) in
            record {
              cut = one_before line r.cut;
              blank = and_both (is_empty line.text) (list_all is_empty (texts r.cut.before)) blank r.blank;
              begins = r.begins;
              others = r.others;
            }
        by_line next g (Begins some begins) ih =
            record { cut = at_first line lines; blank = refl; begins = begins; others = g }

  -- A list that was read at this rate.
  record IsSpelledAt (text : List ℕ) (p : ListProject) : Type 0 where
    spelled : SpellsAtRate rate text p
    same_rate : p.rate ≡ rate

  spelled_at :
      (text : List ℕ) (p : ListProject) → IsProject p → read_from rate nothing_read 0 (lines_of text) ≡ Ok p
      → IsSpelledAt text p
  spelled_at text p is read =
      let l = list_is_read (with_numbers 1 (lines_of text)) nothing_read 0 p refl
      (sym (read_from-all rate nothing_read 0 (lines_of text)) ∙ read) in
      let b = body_is_read p (length l.cut.after) l.cut.after (outside_of nothing_read) l.cut.line.number
      (omega arith) refl (record { index = λ _. refl; events = λ _. refl }) l.others in
      let whole = subst (λ r. IsHeader r p.header) b.same_rate is.header in
      record {
        spelled = record {
          all = lines_of text;
          cut = has_lines text;
          before = l.cut.before;
          begin = l.cut.line;
          blocks = b.blocks;
          end = b.cut.line;
          behind = b.cut.after;
          lines = l.cut.are ∙ ap (λ ls. l.cut.before ++ (l.cut.line ∷ ls))
              (b.cut.are ∙ ap (λ ls. ls ++ (b.cut.line ∷ b.cut.after)) b.before_are);
          blank = l.blank;
          begins = l.begins;
          are_blocks = b.are;
          ends = b.ends;
          header = record {
            version = b.fits.header.version;
            project = b.fits.header.project;
            system = b.fits.header.system;
            sequence = b.fits.header.sequence;
            track_list = b.fits.header.track_list;
            few = whole.few;
            settings = settings_are rate (lines_of_section p.header.system) whole.settings;
            rates = rates_are rate no_rates both_rates (lines_of_section p.header.sequence) whole.rates;
          };
          index =
              record {
                part = b.fits.index.1.0;
                once = b.fits.index.1.1.0;
                lines = b.fits.index.1.1.1;
                distinct = is.sources.numbered.distinct;
              };
          events = record {
            part = b.fits.events.1.0;
            entries = b.fits.events.1.1.0;
            once = b.fits.events.1.1.1.0;
            lines = b.fits.events.1.1.1.1.0;
            events_are = b.fits.events.1.1.1.1.1.0;
            distinct = is.events.distinct;
            separators_are = b.fits.events.1.1.1.1.1.1;
          };
          notices = sym b.fits.notices;
        };
        same_rate = b.same_rate;
      }

pub spelled_of : (text : List ℕ) (p : ListProject) → IsProject p → text_value text ≡ Ok p → Spells text p
unfolding text_value
spelled_of text p is e =
    let rate = rate_of text in
    let read = err_map_ok text_refusal (read_from rate nothing_read 0 (lines_of text)) p e in
    let s = spelled_at rate text p is read in
    record { rate = is.rate; spelled = subst (λ r. SpellsAtRate r text p) (sym s.same_rate) s.spelled }
