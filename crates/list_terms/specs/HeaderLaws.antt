-- Laws of the header's sections: the place of their lines, and the rates that these give.
use Rattle.std.specs.Prelude.{◌≡◌, ℕ, true, List, [], ◌∷◌, ◌++◌, Option, None, Some, Result, Ok, Err, is_ok, is_some, not, refl}
use Rattle.std.specs.List.{list_all}
use Rattle.std.proofs.Common.{ap}
use Rattle.std.proofs.lemmas.Bool.{not-true}
use Rattle.facts.specs.Tests.{and_left, and_right}
use Rattle.list_terms.specs.declared.Rates.{Rates}
use Rattle.list_terms.specs.declared.Section.{Section}
use Rattle.list_terms.specs.declared.Section.TheVariants as section
use Rattle.list_terms.specs.declared.TextFault.{TextFault}
use Rattle.list_terms.specs.EntryLines.{system_line}
use Rattle.list_terms.specs.Project.{Header}
use Rattle.list_terms.specs.Steps.{◌>>=◌}
use Rattle.list_terms.specs.Text.{Context, in_header, in_section, is_opened, is_tag, keep, rates_with, sequence_rates, system_rates, with_lines, with_section}
use Rattle.list_terms.specs.WholeProject.{both_rates, is_system_line, lines_of_section, no_rates, told_rates}

-- The lines of a section in a header.
abbrev pub lines_at : Section → Header → Option (List (List ℕ))
lines_at section.Version h = h.version
lines_at section.Project h = h.project
lines_at section.System h = h.system
lines_at section.Sequence h = h.sequence
lines_at section.TrackList h = h.track_list
lines_at section.SourceIndex h = None
lines_at section.EventList h = None
lines_at section.Skipped h = None
lines_at section.Unsupported h = None

-- The header with these lines in a section.
abbrev pub put_lines : Section → Option (List (List ℕ)) → Header → Header
put_lines section.Version lines h = record h { version = lines }
put_lines section.Project lines h = record h { project = lines }
put_lines section.System lines h = record h { system = lines }
put_lines section.Sequence lines h = record h { sequence = lines }
put_lines section.TrackList lines h = record h { track_list = lines }
put_lines section.SourceIndex lines h = h
put_lines section.EventList lines h = h
put_lines section.Skipped lines h = h
put_lines section.Unsupported lines h = h

-- A section whose lines the header keeps.
pub record IsKept (s : Section) : Type 0 where
  pub read : (rate : ℕ) (c : Context) (n : ℕ) (text : List ℕ) → in_section rate c n text s ≡ in_header rate c n text s
  pub opened : (c : Context) → is_opened c s ≡ is_some (lines_at s c.header.lines)
  pub begun : (c : Context) (n : ℕ) → with_section c n s ≡ with_lines c (put_lines s (Some []) c.header.lines)
  pub keeps :
      (h : Header) (front : List (List ℕ)) (text : List ℕ)
      → keep s text (put_lines s (Some front) h) ≡ put_lines s (Some (front ++ text ∷ [])) h

pub version_kept : IsKept section.Version
unfolding in_section
version_kept =
    record { read = λ rate c n text. refl; opened = λ c. refl; begun = λ c n. refl; keeps = λ h front text. refl }

pub project_kept : IsKept section.Project
unfolding in_section
project_kept =
    record { read = λ rate c n text. refl; opened = λ c. refl; begun = λ c n. refl; keeps = λ h front text. refl }

pub system_kept : IsKept section.System
unfolding in_section
system_kept =
    record { read = λ rate c n text. refl; opened = λ c. refl; begun = λ c n. refl; keeps = λ h front text. refl }

pub sequence_kept : IsKept section.Sequence
unfolding in_section
sequence_kept =
    record { read = λ rate c n text. refl; opened = λ c. refl; begun = λ c n. refl; keeps = λ h front text. refl }

pub track_list_kept : IsKept section.TrackList
unfolding in_section
track_list_kept =
    record { read = λ rate c n text. refl; opened = λ c. refl; begun = λ c n. refl; keeps = λ h front text. refl }

-- ---- the rates that lines give

pub was_ok : (r : Result (Unit {0}) TextFault) → is_ok r ≡ true → r ≡ Ok tt
was_ok (Ok u) h = refl
was_ok (Err fault) h = absurd (cc)

module _ (rate : ℕ) where
  -- The rates after these lines of a section.
  abbrev pub told_in : Section → Rates → List (List ℕ) → Result Rates TextFault
  told_in s rates [] = Ok rates
  told_in s rates (text ∷ lines) = rates_with rate s rates text >>= (λ next. told_in s next lines)

  -- A section whose lines give no rate leaves the rates unchanged.
  pub told_in-none :
      (s : Section) → ((rates : Rates) (text : List ℕ) → rates_with rate s rates text ≡ Ok rates)
      → (rates : Rates) (lines : List (List ℕ)) → told_in s rates lines ≡ Ok rates
  told_in-none s none rates [] = refl
  told_in-none s none rates (text ∷ lines) = rw (none rates text) (told_in-none s none rates lines)

  system_line_told :
      (rates : Rates) (text : List ℕ) → is_system_line rate text ≡ true → system_rates rate rates text ≡ Ok rates
  system_line_told rates text h =
      rw (
        not-true (is_tag text) (and_left (not (is_tag text)) (is_ok (system_line rate text)) h),
        was_ok (system_line rate text) (and_right (not (is_tag text)) (is_ok (system_line rate text)) h),
      ) refl

  pub told_in-system :
      (rates : Rates) (lines : List (List ℕ)) → list_all (is_system_line rate) lines ≡ true
      → told_in section.System rates lines ≡ Ok rates
  told_in-system rates [] h = refl
  told_in-system rates (text ∷ lines) h =
      rw (system_line_told rates text (and_left (is_system_line rate text) (list_all (is_system_line rate) lines) h))
      (told_in-system rates lines (and_right (is_system_line rate text) (list_all (is_system_line rate) lines) h))

  pub told_in-sequence :
      (rates : Rates) (lines : List (List ℕ)) → told_in section.Sequence rates lines ≡ told_rates rate rates lines
  told_in-sequence rates [] = refl
  told_in-sequence rates (text ∷ lines) =
      by_first (sequence_rates rate rates text) refl (λ next. told_in-sequence next lines) where
        by_first :
            (first : Result Rates TextFault) → sequence_rates rate rates text ≡ first
            → ((next : Rates) → told_in section.Sequence next lines ≡ told_rates rate next lines)
            → told_in section.Sequence rates (text ∷ lines) ≡ told_rates rate rates (text ∷ lines)
        by_first (Ok next) e ih = rw e (ih next)
        by_first (Err fault) e ih = rw e refl

-- A header that gives both rates has a SEQUENCE.
pub has_sequence :
    (rate : ℕ) (sequence : Option (List (List ℕ)))
    → told_rates rate no_rates (lines_of_section sequence) ≡ Ok both_rates → is_some sequence ≡ true
has_sequence rate None h = let e : no_rates ≡ both_rates = cc in ap (λ (r : Rates). r.sample_rate) e
has_sequence rate (Some lines) h = refl
