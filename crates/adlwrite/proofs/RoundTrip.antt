-- The text written for a project is read as that project.
use Rattle.std.proofs.Common.{◌≡◌, ℕ, ◌+◌, true, false, List, [], ◌∷◌, ◌++◌, Option, None, Some, Ok, MatchOption, refl, ap, sym, ◌∙◌, subst, append_assoc}
use Rattle.std.specs.Prelude.{codes, flat_map, map, unwrap_or}
use Rattle.sampletime.specs.TimeCode.{default_separators}
use Rattle.list_terms.specs.declared.Stage.TheVariants.{Behind, Outside}
use Rattle.list_terms.specs.HeaderLaws.{has_sequence}
use Rattle.list_terms.specs.Project.{ListProject}
use Rattle.list_terms.specs.Lines.{lines_of}
use Rattle.list_terms.specs.RateLaws.{rate_of-read}
use Rattle.list_terms.specs.Text.{Entries, HeaderRead, all_events, before_list, finished, no_entry, no_header, nothing_read, opened, outside, read_from, section_of, text_value, with_line}
use Rattle.list_terms.specs.WholeProject.{IsProject, both_rates, without_notices}
use Rattle.list_terms.specs.WrittenText.{event_lines, source_line, text_of_project}
use Rattle.adlwrite.proofs.Events.{events_are_read}
use Rattle.adlwrite.proofs.Head.{count, header_is_read}
use Rattle.adlwrite.proofs.Reading.{Gives, ending, in_head, last_line, one_line, opening, so_far, written_section}
use Rattle.adlwrite.proofs.Sources.{sources_are_read}
use Rattle.adlwrite.proofs.TextLines.{lines_of-text_of_project, written_lines}

-- The separators found are the project's.
separators_again :
    (project : ListProject) (found : Option (List ℕ)) → IsProject project
    → MatchOption found (project.events ≡ []) (λ f. f ≡ project.separators)
    → unwrap_or found default_separators ≡ project.separators
separators_again project None h none = sym (h.standard none)
separators_again project (Some found) h same = same

module _ (project : ListProject) (h : IsProject project) where
  abbrev header_read : HeaderRead
  header_read =
      record {
        lines = project.header;
        kept = 0 + count project.header.version + count project.header.project + count project.header.system + count
            project.header.sequence + count project.header.track_list;
        rates = both_rates;
      }

  ends :
      (last : Entries) → all_events last.events last.entry ≡ project.events
      → MatchOption last.separators (project.events ≡ []) (λ f. f ≡ project.separators) → (n : ℕ)
      → finished project.rate (so_far Behind (codes "EVENT_LIST") header_read true project.sources true last) n
      ≡ Ok (without_notices project)
  unfolding finished
  ends last same found n =
      rw (
        has_sequence project.rate project.header.sequence h.header.rates,
        same,
        separators_again project last.separators h found,
      ) refl

  events_end :
      Gives project.rate (so_far Outside (codes "SOURCE_INDEX") header_read true project.sources false no_entry)
      (written_section (codes "EVENT_LIST") (Some (flat_map (event_lines project) project.events))
      ++ (codes "</ADL>" ∷ [])) (without_notices project)
  unfolding with_line outside opened section_of
  events_end =
      let lines = flat_map (event_lines project) project.events in
      let end = ending (codes "EVENT_LIST") in
      subst (λ more. Gives project.rate (so_far Outside (codes "SOURCE_INDEX") header_read true project.sources false no_entry)
      (opening (codes "EVENT_LIST") ∷ more) (without_notices project))
      (sym (append_assoc lines (end ∷ []) (codes "</ADL>" ∷ [])))
      (one_line project.rate _ _ (opening (codes "EVENT_LIST")) (lines ++ (end ∷ codes "</ADL>" ∷ [])) (without_notices project)
      (λ n. refl) refl
      (events_are_read project h.rate h.separators header_read project.sources no_entry [] project.events
      (codes "</ADL>" ∷ []) (without_notices project)
      refl refl h.events.each h.events.distinct
      (λ last same found. last_line project.rate _ _ (codes "</ADL>") (without_notices project)
      (λ n. refl) refl (ends last same found))))

  index_and_events :
      (known : List ℕ)
      → Gives project.rate (in_head Outside known header_read)
      (written_section (codes "SOURCE_INDEX") (Some (map (source_line project) project.sources))
      ++ (written_section (codes "EVENT_LIST") (Some (flat_map (event_lines project) project.events))
      ++ (codes "</ADL>" ∷ []))) (without_notices project)
  unfolding with_line outside opened section_of
  index_and_events known =
      let lines = map (source_line project) project.sources in
      let end = ending (codes "SOURCE_INDEX") in
      let rest =
      written_section (codes "EVENT_LIST") (Some (flat_map (event_lines project) project.events))
      ++ (codes "</ADL>" ∷ []) in
      subst (λ more. Gives project.rate (in_head Outside known header_read) (opening (codes "SOURCE_INDEX") ∷ more)
      (without_notices project))
      (sym (append_assoc lines (end ∷ []) rest))
      (one_line project.rate _ _ (opening (codes "SOURCE_INDEX")) (lines ++ (end ∷ rest)) (without_notices project)
      (λ n. refl) refl
      (sources_are_read project h.rate h.separators header_read [] project.sources rest (without_notices project)
      h.sources.numbered.each h.sources.texts h.sources.numbered.distinct events_end))

  list_is_read : Gives project.rate nothing_read (written_lines project) (without_notices project)
  unfolding with_line before_list
  list_is_read =
      one_line project.rate nothing_read (in_head Outside [] no_header) (codes "<ADL>") _ (without_notices project)
      (λ n. refl) refl
      (header_is_read project.rate project.header h.header _ (without_notices project) index_and_events [])

pub text_value-text_of_project :
    (project : ListProject) → IsProject project → text_value (text_of_project project) ≡ Ok (without_notices project)
unfolding text_value
text_value-text_of_project project h =
    let lines = lines_of-text_of_project project h in
    let read : read_from project.rate nothing_read 0 (lines_of (text_of_project project)) ≡ Ok (without_notices project)
    = ap (read_from project.rate nothing_read 0) lines ∙ list_is_read project h 0 in
    rw (rate_of-read project.rate (text_of_project project) (without_notices project) read, read) refl
