-- One more line preserves the invariants of reading.
use Rattle.std.proofs.Common.{◌≡◌, ℕ, ◌+◌, true, false, List, [], ◌∷◌, ◌++◌, Option, None, Some, Result, Ok, refl, subst, sym, ◌∙◌}
use Rattle.std.specs.Prelude.{codes, is_some, nat_le, if◌then◌else◌}
use Rattle.std.specs.List.{list_all}
use Rattle.facts.specs.Lists.{all_push}
use Rattle.list_terms.specs.declared.Rates.{Rates}
use Rattle.list_terms.specs.declared.Section.{Section}
use Rattle.list_terms.specs.declared.Section.TheVariants as section
use Rattle.list_terms.specs.declared.Stage.{Stage}
use Rattle.list_terms.specs.declared.Stage.TheVariants as stage
use Rattle.list_terms.specs.Fields.{is_same_name}
use Rattle.list_terms.specs.ReadingLaws.{Begins, BlankBefore, BlankEvent, BlankOutside, BlankSource, Closes, DroppedSource, Ends, FrontRemark, Further, IsBeforeLine, IsEventLine, IsInsideLine, IsOutsideLine, IsSourceLine, Opens, ToldEntry, ToldSource, Within, before_is, event_line_is, header_line_is, inside_is, outside_is, source_line_is, unsupported_line_is}
use Rattle.list_terms.specs.StepLaws.{ok_same}
use Rattle.list_terms.specs.Text.{Context, LocatedFault, all_events, before_list, in_header, in_section, is_end, is_opened, keep, nothing_read, outside, rates_with, section_of, with_line, with_section, with_text}
use Rattle.list_terms.specs.Tokens.{trimmed}
use Rattle.list_terms.specs.WholeProject.{has_whole_texts, is_kept, is_line_byte}
use Rattle.adlread.specs.SoFar.{IsHeaderSoFar, IsOpen, IsSoFar}
use Rattle.adlread.proofs.HeaderSoFar.{IsHeaderSoFar-none, is_kept_line, opens_project, opens_sequence, opens_system, opens_track_list, opens_version, with_project, with_sequence, with_system, with_track_list, with_version}
use Rattle.adlread.proofs.SectionNames.{is_end-same, passed_as}
use Rattle.adlread.proofs.SourceTexts.{named_has_texts}

not_nil : {X : Type 0} (xs : List X) (x : X) → xs ++ x ∷ [] ≡ [] → ⊥
not_nil [] x e = absurd (cc)
not_nil (y ∷ xs) x e = absurd (cc)

-- ---- a line of the header

with_text_there :
    (text : List ℕ) (lines : Option (List (List ℕ))) → is_some lines ≡ true → is_some (with_text text lines) ≡ true
with_text_there text None h = h
with_text_there text (Some front) h = refl

module _ (rate : ℕ) where
  -- The invariants of reading, from one fact each.
  so_far :
      {c : Context} → IsOpen c.stage c.name
      → (c.stage ≡ stage.Inside section.Sequence → is_some c.header.lines.sequence ≡ true)
      → IsHeaderSoFar rate c.header → list_all has_whole_texts c.sources ≡ true
      → (all_events c.entries.events c.entries.entry ≡ [] → c.entries.separators ≡ None) → IsSoFar rate c
  so_far name in_sequence header texts standard =
      record { name = name; in_sequence = in_sequence; header = header; texts = texts; standard = standard }

  pub IsSoFar-nothing : IsSoFar rate nothing_read
  IsSoFar-nothing = so_far tt (λ e. absurd (cc)) (IsHeaderSoFar-none rate) refl (λ e. refl)

  module _ (c : Context) (is : IsSoFar rate c) (n : ℕ) (text : List ℕ) (whole : list_all is_line_byte text ≡ true) where
    -- The header after one more kept line.
    header_so_far :
        (next : Context) (s : Section)
        → ((told : Rates) → nat_le 65535 c.header.kept ≡ false → rates_with rate s c.header.rates text ≡ Ok told
        → IsHeaderSoFar rate (record { lines = keep s text c.header.lines; kept = c.header.kept + 1; rates = told }))
        → (c.stage ≡ stage.Inside section.Sequence → is_some (keep s text c.header.lines).sequence ≡ true)
        → in_header rate c n text s ≡ Ok next → IsSoFar rate next
    header_so_far next s more there e =
        let h = header_line_is rate s c next n text e in
        rw h.is (so_far is.name there (more h.rates h.room h.says) is.texts is.standard)

    source_line_so_far : {next : Context} → IsSourceLine rate c n text next → IsSoFar rate next
    source_line_so_far (BlankSource at) = is
    source_line_so_far (ToldSource source h free) =
        so_far is.name is.in_sequence is.header
        (all_push has_whole_texts c.sources source is.texts (named_has_texts rate text whole source h)) is.standard
    source_line_so_far (DroppedSource token rest at other ends) =
        so_far is.name is.in_sequence is.header is.texts is.standard

    -- An entry that was read has separators.
    event_line_so_far : {next : Context} → IsEventLine rate c text next → IsSoFar rate next
    event_line_so_far (BlankEvent at) = is
    event_line_so_far (ToldEntry g h free) =
        so_far is.name is.in_sequence is.header is.texts
        (λ none. absurd (not_nil (all_events c.entries.events c.entries.entry) g.0 none))
    event_line_so_far (FrontRemark token rest at none says) =
        so_far is.name is.in_sequence is.header is.texts (λ nothing. is.standard (rw none nothing))
    event_line_so_far (Further entry new token rest at there says) =
        so_far is.name is.in_sequence is.header is.texts (λ none. absurd (not_nil c.entries.events new.event none))

    module _ (inside : is_end c.name (trimmed text) ≡ false) where
      -- A line that doesn't close the open section is kept under the section's standard name.
      kept : (title : List ℕ) → is_same_name c.name title ≡ true → is_kept title text ≡ true
      kept title same = is_kept_line title text whole (sym (is_end-same c.name title (trimmed text) same) ∙ inside)

      in_section_so_far :
          (next : Context) (s : Section) → c.stage ≡ stage.Inside s → section_of c.name ≡ s
          → in_section rate c n text s ≡ Ok next → IsSoFar rate next
      unfolding in_section
      in_section_so_far next section.Version st e =
          header_so_far next section.Version (λ told room. with_version rate c.header is.header text told room
          (kept (codes "VERSION") (passed_as c.name section.Version e))) is.in_sequence
      in_section_so_far next section.Project st e =
          header_so_far next section.Project (λ told room. with_project rate c.header is.header text told room
          (kept (codes "PROJECT") (passed_as c.name section.Project e))) is.in_sequence
      in_section_so_far next section.System st e =
          header_so_far next section.System (λ told room. with_system rate c.header is.header text told room
          (kept (codes "SYSTEM") (passed_as c.name section.System e))) is.in_sequence
      in_section_so_far next section.Sequence st e =
          header_so_far next section.Sequence (λ told room. with_sequence rate c.header is.header text told room
          (is.in_sequence st) (kept (codes "SEQUENCE") (passed_as c.name section.Sequence e)))
          (λ now. with_text_there text c.header.lines.sequence (is.in_sequence now))
      in_section_so_far next section.TrackList st e =
          header_so_far next section.TrackList (λ told room. with_track_list rate c.header is.header text told room
          (kept (codes "TRACKLIST") (passed_as c.name section.TrackList e))) is.in_sequence
      in_section_so_far next section.SourceIndex st e = λ f. source_line_so_far (source_line_is rate c next n text f).1
      in_section_so_far next section.EventList st e = λ f. event_line_so_far (event_line_is rate c next n text f).1
      in_section_so_far next section.Skipped st e = λ f. subst (IsSoFar rate) (ok_same {E = LocatedFault} c next f) is
      in_section_so_far next section.Unsupported st e = λ f.
          subst (IsSoFar rate) (unsupported_line_is c next n text f).1 is

    -- ---- sections

    in_stage :
        (new : Stage) (name : List ℕ) → IsOpen new name
        → (new ≡ stage.Inside section.Sequence → is_some c.header.lines.sequence ≡ true)
        → IsSoFar rate (record c { stage = new; name = name })
    in_stage new name known there =
        so_far known there is.header is.texts is.standard

    begins_so_far :
        (name : List ℕ) (s : Section) → section_of name ≡ s → is_opened c s ≡ false
        → IsSoFar rate (record (with_section c n s) { stage = stage.Inside s; name = name })
    begins_so_far name section.Version e new =
        so_far e (λ f. absurd (cc)) (opens_version rate c.header is.header) is.texts is.standard
    begins_so_far name section.Project e new =
        so_far e (λ f. absurd (cc)) (opens_project rate c.header is.header) is.texts is.standard
    begins_so_far name section.System e new =
        so_far e (λ f. absurd (cc)) (opens_system rate c.header is.header) is.texts is.standard
    begins_so_far name section.Sequence e new =
        so_far e (λ f. refl) (opens_sequence rate c.header is.header new) is.texts is.standard
    begins_so_far name section.TrackList e new =
        so_far e (λ f. absurd (cc)) (opens_track_list rate c.header is.header) is.texts is.standard
    begins_so_far name section.SourceIndex e new = so_far e (λ f. absurd (cc)) is.header is.texts is.standard
    begins_so_far name section.EventList e new = so_far e (λ f. absurd (cc)) is.header is.texts is.standard
    begins_so_far name section.Skipped e new = so_far e (λ f. absurd (cc)) is.header is.texts is.standard
    begins_so_far name section.Unsupported e new = so_far e (λ f. absurd (cc)) is.header is.texts is.standard

    before_line_so_far : {next : Context} → IsBeforeLine c text next → IsSoFar rate next
    before_line_so_far (BlankBefore blank) = is
    before_line_so_far (Begins some begins) = in_stage stage.Outside c.name tt (λ f. absurd (cc))

    outside_line_so_far : {next : Context} → IsOutsideLine c n text next → IsSoFar rate next
    outside_line_so_far (BlankOutside blank) = is
    outside_line_so_far (Ends some ends) = in_stage stage.Behind c.name tt (λ f. absurd (cc))
    outside_line_so_far (Opens name some more named free) = begins_so_far name (section_of name) refl free

    inside_line_so_far :
        (next : Context) (s : Section) → c.stage ≡ stage.Inside s → IsInsideLine rate s c n text next
        → IsSoFar rate next
    inside_line_so_far next s st (Closes ends same) =
        subst (IsSoFar rate) same (in_stage stage.Outside c.name tt (λ f. absurd (cc)))
    inside_line_so_far next s st (Within more e) =
        in_section_so_far more next s st (subst (λ at. IsOpen at c.name) st is.name) e

    line_so_far : (next : Context) → with_line rate c n text ≡ Ok next → IsSoFar rate next
    unfolding with_line
    line_so_far next e = by_stage c.stage refl e where
      staged : Stage → Result Context LocatedFault
      staged stage.Before = before_list c n (trimmed text)
      staged stage.Outside = outside c n (trimmed text)
      staged (stage.Inside s) =
          if is_end c.name (trimmed text) then Ok (record c { stage = stage.Outside }) else in_section rate c n text s
      staged stage.Behind = Ok c

      by_stage : (at : Stage) → c.stage ≡ at → staged at ≡ Ok next → IsSoFar rate next
      by_stage stage.Before st e = before_line_so_far (before_is c next n text e)
      by_stage stage.Outside st e = outside_line_so_far (outside_is c next n text e)
      by_stage (stage.Inside s) st e = inside_line_so_far next s st (inside_is rate s c next n text e)
      by_stage stage.Behind st e = subst (IsSoFar rate) (ok_same {E = LocatedFault} c next e) is

  -- One more line.
  pub IsSoFar-line :
      (c next : Context) (n : ℕ) (text : List ℕ) → IsSoFar rate c → list_all is_line_byte text ≡ true
      → with_line rate c n text ≡ Ok next → IsSoFar rate next
  IsSoFar-line c next n text is whole e = line_so_far c is n text whole next e
