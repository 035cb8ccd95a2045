-- The lines of a section that was read spell it.
use Rattle.std.proofs.Common.{◌≡◌, ℕ, true, false, List, [], ◌∷◌, ◌++◌, Some, Ok, refl, ap, sym, subst, ◌∙◌, append_assoc}
use Rattle.std.specs.Prelude.{flat_map, unwrap_or}
use Rattle.std.specs.List.{list_all}
use Rattle.facts.specs.Tests.{and_both, not_some}
use Rattle.sampletime.specs.TimeCode.{default_separators}
use Rattle.list_terms.specs.declared.Notice.{Notice}
use Rattle.list_terms.specs.declared.Section.{Section}
use Rattle.list_terms.specs.declared.Section.TheVariants as section
use Rattle.list_terms.specs.declared.Stage.TheVariants as stage
use Rattle.list_terms.specs.HeaderLaws.{lines_at, put_lines}
use Rattle.list_terms.specs.Project.{ListProject}
use Rattle.list_terms.specs.ReadingLaws.{begun, unsupported_line_is}
use Rattle.list_terms.specs.Text.{Context, in_section, is_opened, no_entry, with_lines}
use Rattle.adlread.specs.CutLines.{NumberedLine, is_empty, texts}
use Rattle.adlread.specs.Spells.{Block, SectionText, IsPassedOver, Titled, notice, notices_of_block, sections}
use Rattle.adlread.proofs.EventLines.{entries_are_read, nothing, with_entries}
use Rattle.adlread.proofs.FieldLaws.{chain, ok_same}
use Rattle.adlread.proofs.Fits.{EventsFit, Fits, IndexFits, IsHeaderPart, begun_kept, first_are, other_section, project_part, sequence_part, skipped_lines, system_part, track_list_part, version_part}
use Rattle.adlread.proofs.KeptLines.{header_is_read, keep_all-put, with_header}
use Rattle.adlread.proofs.SourceLines.{sources_are_read}
use Rattle.adlread.proofs.Stages.{outside_of}
use Rattle.adlread.proofs.Walk.{walk}

-- A section that wasn't opened has left no trace.
pub record IsFresh (c : Context) : Type 0 where
  pub index : c.has_index ≡ false → c.sources ≡ []
  pub events : c.has_events ≡ false → c.entries ≡ no_entry

module _ (rate : ℕ) where
  unsupported_are : (content : List NumberedLine) (c last : Context) → walk rate section.Unsupported c content ≡ Ok last
      → (list_all is_empty (texts content) ≡ true) × (last ≡ c)
  unfolding in_section
  unsupported_are [] c last e = (refl, sym (ok_same _ _ e))
  unsupported_are (line ∷ content) c last e =
      let f = chain (in_section rate c line.number line.text section.Unsupported)
      (λ m. walk rate section.Unsupported m content) last e in
      let first = unsupported_line_is c f.value line.number line.text f.is in
      let others = unsupported_are content f.value last f.others in
      (and_both (is_empty line.text) (list_all is_empty (texts content)) first.0 others.0, others.1 ∙ sym first.1)

  -- The outcome of a section that was read, and its notices.
  pub record IsWalkedOver (c : Context) (s : Section) (part : SectionText) (last : Context) : Type 0 where
    pub fresh : IsFresh (outside_of last)
    pub fits :
        (blocks : List Block) (p : ListProject) → Fits rate (outside_of last) blocks p
        → (notices : List Notice) × (Fits rate c (Titled (record part { meaning = s; notices = notices }) ∷ blocks) p
        × IsPassedOver s (record part { meaning = s; notices = notices }))

  module _ (c : Context) (part : SectionText) (last : Context) (fresh : IsFresh c) where
    -- The section of this kind, with these notices.
    abbrev with : Section → List Notice → SectionText
    with s notices = record part { meaning = s; notices = notices }

    abbrev Walks : Section → Type 0
    Walks s = walk rate s (begun c part.opening.number s part.name) part.content ≡ Ok last

    -- The notice at the opening line.
    noticed :
        (blocks : List Block) (p : ListProject)
        → (c.notices ++ notice 1 part.opening ∷ []) ++ flat_map notices_of_block blocks ≡ p.notices
        → c.notices ++ (notice 1 part.opening ∷ flat_map notices_of_block blocks) ≡ p.notices
    noticed blocks p told =
        sym (append_assoc c.notices (notice 1 part.opening ∷ []) (flat_map notices_of_block blocks)) ∙ told

    -- A section of the header.
    header_over : (s : Section) → IsHeaderPart s → is_opened c s ≡ false → Walks s → IsWalkedOver c s part last
    header_over s is free e =
        let lines = put_lines s (Some (texts part.content)) c.header.lines in
        let b = record (with_lines c (put_lines s (Some []) c.header.lines))
        { stage = stage.Inside s; name = part.name } in
        let h = header_is_read rate s is.kept part.content b last
        (subst (λ d. walk rate s d part.content ≡ Ok last) (begun_kept s is.kept c part.opening.number part.name) e) in
        let none = not_some (lines_at s c.header.lines) (sym (is.kept.opened c) ∙ free) in
        let same : last ≡ with_header b (record { lines = lines; kept = h.kept; rates = h.rates }) =
        h.is ∙ ap (λ ls. with_header b (record { lines = ls; kept = h.kept; rates = h.rates }))
        (keep_all-put s is.kept c.header.lines [] (texts part.content)) in
        subst (IsWalkedOver c s part) (sym same) (record {
          fresh = record { index = fresh.index; events = fresh.events };
          fits = λ blocks p known. (
            [],
            (
              record {
                header = is.before (with s []) blocks c.header.lines p.header none known.header;
                index = subst (λ parts. IndexFits rate c.has_index c.sources parts p.sources)
                    (other_section section.SourceIndex (with s []) blocks is.no_index) known.index;
                events = subst (λ parts. EventsFit rate c.has_events c.entries parts p.events p.separators)
                    (other_section section.EventList (with s []) blocks is.no_events) known.events;
                notices = known.notices;
              },
              is.silent (with s []) refl,
            ),
          );
        })

    index_over :
        is_opened c section.SourceIndex ≡ false → Walks section.SourceIndex
        → IsWalkedOver c section.SourceIndex part last
    index_over free e =
        let h = sources_are_read rate part.content (begun c part.opening.number section.SourceIndex part.name) last e in
        let none = fresh.index free in
        record {
          fresh =
              subst (λ l. IsFresh (outside_of l)) (sym h.is)
              (record { index = λ no. absurd (cc); events = fresh.events });
          fits = λ blocks p fits.
              let known = subst (λ l. Fits rate (outside_of l) blocks p) h.is fits in
              let this = with section.SourceIndex h.dropped in
              let are : h.sources ≡ p.sources = ap (λ ss. ss ++ h.sources) (sym none) ∙ known.index.1 in
              let index : IndexFits rate false c.sources (this ∷ sections section.SourceIndex blocks) p.sources =
              (none, (this, (ap (λ ss. this ∷ ss) known.index.0, rw (← are) h.spells))) in (
                h.dropped,
                (
                  record {
                    header = known.header;
                    index =
                        subst (λ has. IndexFits rate has c.sources (this ∷ sections section.SourceIndex blocks)
                        p.sources)
                        (sym free) index;
                    events = known.events;
                    notices = sym (append_assoc c.notices h.dropped (flat_map notices_of_block blocks)) ∙ known.notices;
                  },
                  tt,
                ),
              );
        }

    events_over :
        is_opened c section.EventList ≡ false → Walks section.EventList → IsWalkedOver c section.EventList part last
    events_over free e =
        let b = begun c part.opening.number section.EventList part.name in
        let none = fresh.events free in
        let same : b ≡ with_entries b nothing = ap (λ es. with_entries b es) none in
        let h = entries_are_read rate part.content b last
        (subst (λ d. walk rate section.EventList d part.content ≡ Ok last) same e) in
        record {
          fresh =
              subst (λ l. IsFresh (outside_of l)) (sym h.is)
              (record { index = fresh.index; events = λ no. absurd (cc) });
          fits = λ blocks p fits.
              let known = subst (λ l. Fits rate (outside_of l) blocks p) h.is fits in
              let this = with section.EventList [] in
              let separators = sym known.events.1.1
              ∙ (ap (λ s. unwrap_or s default_separators) h.separators_are ∙ first_are h.entries) in
              let events : EventsFit rate false c.entries (this ∷ sections section.EventList blocks) p.events
              p.separators
              = (
                none,
                (
                  this,
                  (
                    h.entries,
                    (
                      ap (λ ss. this ∷ ss) known.events.0,
                      (h.spells, (sym known.events.1.0 ∙ h.all_are, separators)),
                    ),
                  ),
                ),
              ) in (
                [],
                (
                  record {
                    header = known.header;
                    index = known.index;
                    events =
                        subst (λ has. EventsFit rate has c.entries
                        (this ∷ sections section.EventList blocks) p.events p.separators) (sym free) events;
                    notices = known.notices;
                  },
                  refl,
                ),
              );
        }

    skipped_over : Walks section.Skipped → IsWalkedOver c section.Skipped part last
    skipped_over e =
        let b = begun c part.opening.number section.Skipped part.name in
        subst (IsWalkedOver c section.Skipped part) (ok_same _ _ (sym (skipped_lines rate part.content b) ∙ e))
        (record {
          fresh = record { index = fresh.index; events = fresh.events };
          fits = λ blocks p known.
              let told = noticed blocks p known.notices in (
                notice 1 part.opening ∷ [],
                (record { header = known.header; index = known.index; events = known.events; notices = told }, refl),
              );
        })

    unsupported_over : Walks section.Unsupported → IsWalkedOver c section.Unsupported part last
    unsupported_over e =
        let empty = unsupported_are part.content (begun c part.opening.number section.Unsupported part.name) last e in
        subst (IsWalkedOver c section.Unsupported part) (sym empty.1) (record {
          fresh = record { index = fresh.index; events = fresh.events };
          fits = λ blocks p known.
              let told = noticed blocks p known.notices in (
                notice 1 part.opening ∷ [],
                (
                  record { header = known.header; index = known.index; events = known.events; notices = told },
                  (empty.0, refl),
                ),
              );
        })

    pub walked_over : (s : Section) → is_opened c s ≡ false → Walks s → IsWalkedOver c s part last
    walked_over section.Version free e = header_over section.Version version_part free e
    walked_over section.Project free e = header_over section.Project project_part free e
    walked_over section.System free e = header_over section.System system_part free e
    walked_over section.Sequence free e = header_over section.Sequence sequence_part free e
    walked_over section.TrackList free e = header_over section.TrackList track_list_part free e
    walked_over section.SourceIndex free e = index_over free e
    walked_over section.EventList free e = events_over free e
    walked_over section.Skipped free e = skipped_over e
    walked_over section.Unsupported free e = unsupported_over e
