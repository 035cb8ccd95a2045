-- The written header is read as the header.
use Rattle.std.proofs.Common.{ℕ, ◌+◌, List, ◌++◌, length, Option, refl, ◌∙◌, arith}
use Rattle.std.specs.Prelude.{codes}
use Rattle.list_terms.specs.declared.Rates.{Rates}
use Rattle.list_terms.specs.declared.Section.{Section}
use Rattle.list_terms.specs.declared.Section.TheVariants as section
use Rattle.list_terms.specs.declared.Stage.TheVariants.{Outside}
use Rattle.list_terms.specs.Project.{Header, ListProject}
use Rattle.list_terms.specs.HeaderLaws.{project_kept, put_lines, sequence_kept, system_kept, told_in-none, told_in-sequence, told_in-system, track_list_kept, version_kept}
use Rattle.list_terms.specs.Text.{HeaderRead, no_header, opened, outside, section_of, with_line}
use Rattle.list_terms.specs.WholeProject.{IsHeader, both_rates, lines_of_section, no_rates}
use Rattle.adlwrite.proofs.Reading.{Gives, in_head, optional_section, read_to, written_section}

-- The number of lines in a section.
abbrev pub count : Option (List (List ℕ)) → ℕ
count lines = length (lines_of_section lines)

-- The header with one more section, and the rates given after it.
abbrev with_section : Section → Option (List (List ℕ)) → Rates → HeaderRead → HeaderRead
with_section s lines rates head = read_to (put_lines s lines head.lines) (head.kept + count lines) rates

module _ (rate : ℕ) (header : Header) (is : IsHeader rate header) (rest : List (List ℕ)) (project : ListProject) where
  -- The header with its first one to five sections.
  abbrev head_one : HeaderRead
  head_one = with_section section.Version header.version no_rates no_header

  abbrev head_two : HeaderRead
  head_two = with_section section.Project header.project no_rates head_one

  abbrev head_three : HeaderRead
  head_three = with_section section.System header.system no_rates head_two

  abbrev head_four : HeaderRead
  head_four = with_section section.Sequence header.sequence both_rates head_three

  abbrev head_five : HeaderRead
  head_five = with_section section.TrackList header.track_list both_rates head_four

  -- Reading these lines after this header yields the project, whatever the last section is called.
  abbrev GivesBehind : HeaderRead → List (List ℕ) → Type 0
  GivesBehind head lines = (known : List ℕ) → Gives rate (in_head Outside known head) lines project

  -- One section after another.
  pub header_is_read :
      GivesBehind head_five rest
      → GivesBehind no_header (written_section (codes "VERSION") header.version
      ++ (written_section (codes "PROJECT") header.project ++ (written_section (codes "SYSTEM") header.system
      ++ (written_section (codes "SEQUENCE") header.sequence
      ++ (written_section (codes "TRACKLIST") header.track_list ++ rest)))))
  unfolding with_line outside opened section_of
  header_is_read gives before =
      optional_section rate section.Version (codes "VERSION") version_kept refl before header.version no_header.lines
      no_header.kept no_rates no_rates _ project refl (λ n. refl) is.version (omega (arith, is.few))
      (told_in-none rate section.Version (λ rates text. refl) no_rates (lines_of_section header.version))
      (λ behind. optional_section rate section.Project (codes "PROJECT") project_kept refl behind header.project
      head_one.lines head_one.kept no_rates no_rates _ project refl (λ n. refl) is.project (omega (arith, is.few))
      (told_in-none rate section.Project (λ rates text. refl) no_rates (lines_of_section header.project))
      (λ behind. optional_section rate section.System (codes "SYSTEM") system_kept refl behind header.system
      head_two.lines head_two.kept no_rates no_rates _ project refl (λ n. refl) is.system (omega (arith, is.few))
      (told_in-system rate no_rates (lines_of_section header.system) is.settings)
      (λ behind. optional_section rate section.Sequence (codes "SEQUENCE") sequence_kept refl behind header.sequence
      head_three.lines head_three.kept no_rates both_rates _ project refl (λ n. refl) is.sequence
      (omega (arith, is.few))
      (told_in-sequence rate no_rates (lines_of_section header.sequence) ∙ is.rates)
      (λ behind. optional_section rate section.TrackList (codes "TRACKLIST") track_list_kept refl behind
      header.track_list head_four.lines head_four.kept both_rates both_rates _ project refl (λ n. refl) is.track_list
      (omega (arith, is.few))
      (told_in-none rate section.TrackList (λ rates text. refl) both_rates (lines_of_section header.track_list))
      gives))))
