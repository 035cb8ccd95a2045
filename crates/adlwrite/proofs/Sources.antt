-- The written source index is read as the sources.
use Rattle.std.proofs.Common.{◌≡◌, ℕ, zero, suc, true, false, List, [], ◌∷◌, ◌++◌, take, Ok, IsTrue, refl, sym, subst, append_assoc}
use Rattle.std.specs.Prelude.{codes, map, ◌==◌}
use Rattle.std.specs.List.{list_all, list_any}
use Rattle.std.proofs.lemmas.List.{append-nil}
use Rattle.facts.specs.Distinct.{moved, not_taken}
use Rattle.facts.specs.Tests.{and_left, and_right}
use Rattle.sampletime.specs.FrameRate.{is_rate}
use Rattle.sampletime.specs.TimeCode.{are_separators}
use Rattle.list_terms.specs.declared.Section.TheVariants as section
use Rattle.list_terms.specs.declared.Stage.TheVariants.{Inside, Outside}
use Rattle.list_terms.specs.Project.{ListProject, Source}
use Rattle.list_terms.specs.Text.{Context, HeaderRead, in_section, in_source_index, index_line, is_end, no_entry, source_with, with_line}
use Rattle.list_terms.specs.Tokens.{token_at, trimmed}
use Rattle.list_terms.specs.WholeProject.{AreDistinct, has_whole_texts, index_numbers, is_source}
use Rattle.list_terms.specs.WrittenText.{number_text, source_line, time_text}
use Rattle.adlwrite.proofs.Facts.{source_facts}
use Rattle.adlwrite.proofs.Fields.{number_field-written}
use Rattle.adlwrite.proofs.Lines.{source_fields-written}
use Rattle.adlwrite.proofs.Reading.{Gives, ending, one_line, so_far}

-- A line that begins with a parenthesis closes no section.
front_is_no_end : (name rest : List ℕ) (k : ℕ) → is_end name (take k (40 ∷ rest)) ≡ false
front_is_no_end name rest zero = refl
front_is_no_end name rest (suc k) = refl

pub is_no_end : (name rest : List ℕ) → is_end name (trimmed (40 ∷ rest)) ≡ false
is_no_end name rest = front_is_no_end name rest _

-- ---- the source index

module _ (project : ListProject) (rate : IsTrue (is_rate project.rate)) (separators : IsTrue (are_separators project.separators))
    (header : HeaderRead) where
  -- The states inside and after the source index, with these sources.
  abbrev in_index : List Source → Context
  in_index sources = so_far (Inside section.SourceIndex) (codes "SOURCE_INDEX") header true sources false no_entry

  abbrev behind_index : List Source → Context
  behind_index sources = so_far Outside (codes "SOURCE_INDEX") header true sources false no_entry

  source_is_read :
      (front : List Source) (source : Source) (n : ℕ) → IsTrue (is_source source) → IsTrue (has_whole_texts source)
      → list_any (λ other. other.number == source.number) front ≡ false
      → with_line project.rate (in_index front) n (source_line project source)
      ≡ Ok (in_index (front ++ source ∷ []))
  unfolding with_line in_section in_source_index index_line source_with token_at
  source_is_read front source n h k new =
      let facts = source_facts source h k in
      let fields = codes " (F) \"" ++ (source.url ++ (codes "\" " ++ (source.uid
      ++ (codes " " ++ (time_text project source.start ++ (codes " " ++ time_text project source.length)))))) in
      rw (
        is_no_end (codes "SOURCE_INDEX") (codes "Index) " ++ (number_text source.number ++ fields)),
        number_field-written source.number fields facts.number refl,
        new,
        source_fields-written project rate separators source h k,
      )

  pub sources_are_read :
      (front written : List Source) (rest : List (List ℕ)) (result : ListProject)
      → IsTrue (list_all is_source written) → IsTrue (list_all has_whole_texts written)
      → AreDistinct (index_numbers (front ++ written))
      → Gives project.rate (behind_index (front ++ written)) rest result
      → Gives project.rate (in_index front)
      (map (source_line project) written ++ (ending (codes "SOURCE_INDEX") ∷ rest)) result
  unfolding with_line
  sources_are_read front [] rest result all texts distinct gives =
      one_line project.rate _ _ (ending (codes "SOURCE_INDEX")) rest result (λ n. refl) refl
      (subst (λ sources. Gives project.rate (behind_index sources) rest result) (append-nil front) gives)
  sources_are_read front (s ∷ written) rest result all texts distinct gives =
      let h = and_left (is_source s) (list_all is_source written) all in
      let k = and_left (has_whole_texts s) (list_all has_whole_texts written) texts in
      one_line project.rate _ _ (source_line project s) (map (source_line project) written ++ (ending (codes "SOURCE_INDEX") ∷ rest))
      result
      (λ n. source_is_read front s n h k (not_taken (λ t. t.number) front s written distinct)) refl
      (sources_are_read (front ++ s ∷ []) written rest result (and_right (is_source s) (list_all is_source written) all)
      (and_right (has_whole_texts s) (list_all has_whole_texts written) texts)
      (moved (λ t. t.number) front s written distinct)
      (subst (λ sources. Gives project.rate (behind_index sources) rest result)
      (sym (append_assoc front (s ∷ []) written)) gives))
