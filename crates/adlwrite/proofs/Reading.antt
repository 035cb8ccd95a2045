-- Reading the rest of a list: one line, and the lines of a kept section.
use Rattle.std.proofs.Common.{◌≡◌, ℕ, ◌+◌, ◌≤◌, ◌<◌, Bool, true, false, List, [], ◌∷◌, ◌++◌, length, Option, None, Some, Ok, refl, sym, subst, append_assoc, arith}
use Rattle.std.specs.Prelude.{codes, nat_le}
use Rattle.std.specs.List.{list_all}
use Rattle.std.proofs.lemmas.Bool.{not-true}
use Rattle.std.proofs.lemmas.Bool.Decides.{nat_tests}
use Rattle.std.proofs.lemmas.List.{append-nil}
use Rattle.facts.specs.Tests.{and_left, and_right}
use Rattle.list_terms.specs.declared.Rates.{Rates}
use Rattle.list_terms.specs.declared.Section.{Section}
use Rattle.list_terms.specs.declared.Stage.{Stage}
use Rattle.list_terms.specs.declared.Stage.TheVariants.{Inside, Outside}
use Rattle.list_terms.specs.Project.{Header, ListProject, Source}
use Rattle.list_terms.specs.HeaderLaws.{IsKept, put_lines, told_in}
use Rattle.list_terms.specs.StepLaws.{chain}
use Rattle.list_terms.specs.Text.{Context, Entries, HeaderRead, finished, in_header, is_behind, is_end, kept_line, no_entry, rates_with, read_from, with_line}
use Rattle.list_terms.specs.Tokens.{trimmed}
use Rattle.list_terms.specs.WholeProject.{is_kept, is_line_byte, lines_of_section}

-- The state of reading, without notices.
abbrev pub so_far : Stage → List ℕ → HeaderRead → Bool → List Source → Bool → Entries → Context
so_far stage name header has_index sources has_events entries = record {
  stage = stage;
  name = name;
  header = header;
  has_index = has_index;
  sources = sources;
  has_events = has_events;
  entries = entries;
  notices = [];
}

-- The state before the source index and the event list.
abbrev pub in_head : Stage → List ℕ → HeaderRead → Context
in_head stage name header = so_far stage name header false [] false no_entry

abbrev pub read_to : Header → ℕ → Rates → HeaderRead
read_to lines kept rates = record { lines = lines; kept = kept; rates = rates }

-- The lines that open and close a section.
abbrev pub opening : List ℕ → List ℕ
opening name = codes "<" ++ (name ++ codes ">")

abbrev pub ending : List ℕ → List ℕ
ending name = codes "</" ++ (name ++ codes ">")

-- The lines of a section, if it exists.
abbrev pub written_section : List ℕ → Option (List (List ℕ)) → List (List ℕ)
written_section name None = []
written_section name (Some lines) = opening name ∷ (lines ++ (ending name ∷ []))

module _ (rate : ℕ) where
  -- The lines yield this project from this state on, whatever their numbers.
  abbrev pub Gives : Context → List (List ℕ) → ListProject → Type 0
  Gives c lines project = (n : ℕ) → read_from rate c n lines ≡ Ok project

  pub one_line :
      (c next : Context) (line : List ℕ) (lines : List (List ℕ)) (project : ListProject)
      → ((n : ℕ) → with_line rate c n line ≡ Ok next)
      → is_behind next.stage ≡ false → Gives next lines project → Gives c (line ∷ lines) project
  unfolding read_from
  one_line c next line lines project e before gives n = rw (e (n + 1), before) (gives (n + 1))

  pub last_line :
      (c next : Context) (line : List ℕ) (project : ListProject) → ((n : ℕ) → with_line rate c n line ≡ Ok next)
      → is_behind next.stage ≡ true → ((n : ℕ) → finished rate next n ≡ Ok project) → Gives c (line ∷ []) project
  unfolding read_from
  last_line c next line project e behind ends n = rw (e (n + 1), behind) (ends (n + 1))

  -- A section whose lines are kept.
  module _ (section : Section) (name : List ℕ) (is : IsKept section) (ends : is_end name (trimmed (ending name)) ≡ true)
    where
      line_is_kept :
          (text : List ℕ) (front : List (List ℕ)) (h : Header) (kept : ℕ) (rates next : Rates) (n : ℕ)
          → is_end name (trimmed text) ≡ false → kept < 65535 → rates_with rate section rates text ≡ Ok next
          → with_line rate (in_head (Inside section) name (read_to (put_lines section (Some front) h) kept rates)) n text
          ≡ Ok (in_head (Inside section) name (read_to (put_lines section (Some (front ++ text ∷ [])) h) (kept + 1) next))
      unfolding with_line in_header kept_line
      line_is_kept text front h kept rates next n inside few says =
          let room : nat_le 65535 kept ≡ false = grind (arith, nat_tests) in
          rw (inside, is.read rate _ n text, room, says, is.keeps h front text)

      section_ends :
          (header : HeaderRead) (n : ℕ)
          → with_line rate (in_head (Inside section) name header) n (ending name) ≡ Ok (in_head Outside name header)
      unfolding with_line
      section_ends header n = rw ends

      gives_same :
          (lines known : List (List ℕ)) (h : Header) (kept count : ℕ) (rates after : Rates) (rest : List (List ℕ))
          (project : ListProject)
          → lines ≡ known → kept ≡ count → rates ≡ after
          → Gives (in_head Outside name (read_to (put_lines section (Some lines) h) kept rates)) rest project
          → Gives (in_head Outside name (read_to (put_lines section (Some known) h) count after)) rest project
      gives_same lines known h kept count rates after rest project e f g gives = rw (← e, ← f, ← g) gives

      kept_lines :
          (front lines : List (List ℕ)) (h : Header) (kept : ℕ) (rates after : Rates) (rest : List (List ℕ))
          (project : ListProject)
          → list_all (is_kept name) lines ≡ true → kept + length lines ≤ 65535 → told_in rate section rates lines ≡ Ok after
          → Gives (in_head Outside name (read_to (put_lines section (Some (front ++ lines)) h) (kept + length lines)
          after))
          rest project
          → Gives (in_head (Inside section) name (read_to (put_lines section (Some front) h) kept rates))
          (lines ++ (ending name ∷ rest)) project
      kept_lines front [] h kept rates after rest project all few says gives =
          one_line _ _ (ending name) rest project (section_ends (read_to (put_lines section (Some front) h) kept rates))
          refl
          (gives_same (front ++ []) front h (kept + 0) kept after rates rest project (append-nil front) (omega arith) (cc)
          gives)
      kept_lines front (text ∷ lines) h kept rates after rest project all few says gives =
          let next = chain (rates_with rate section rates text) (λ told. told_in rate section told lines) after says in
          let fine = and_left (is_kept name text) (list_all (is_kept name) lines) all in
          let inside = not-true (is_end name (trimmed text)) (and_right (list_all is_line_byte text) _ fine) in
          one_line _ _ text (lines ++ (ending name ∷ rest)) project
          (λ n. line_is_kept text front h kept rates next.value n inside (omega (arith, few)) next.is) refl
          (kept_lines (front ++ text ∷ []) lines h (kept + 1) next.value after rest project
          (and_right (is_kept name text) (list_all (is_kept name) lines) all) (omega (arith, few)) next.others
          (gives_same (front ++ text ∷ lines) ((front ++ text ∷ []) ++ lines) h (kept + length (text ∷ lines))
          (kept + 1 + length lines) after after rest project
          (sym (append_assoc front (text ∷ []) lines)) (omega arith) refl gives))

      gives_without :
          (before : List ℕ) (h : Header) (kept : ℕ) (rates after : Rates) (rest : List (List ℕ)) (project : ListProject)
          → put_lines section None h ≡ h → rates ≡ after
          → Gives (in_head Outside before (read_to (put_lines section None h) (kept + 0) after)) rest project
          → Gives (in_head Outside before (read_to h kept rates)) rest project
      gives_without before h kept rates after rest project absent same gives =
          let none : kept + 0 ≡ kept = omega arith in rw (same, ← absent, ← none) gives

      pub kept_section :
          (before : List ℕ) (lines : List (List ℕ)) (h : Header) (kept : ℕ) (rates after : Rates) (rest : List (List ℕ))
          (project : ListProject)
          → ((n : ℕ) → with_line rate (in_head Outside before (read_to h kept rates)) n (opening name)
          ≡ Ok (in_head (Inside section) name (read_to (put_lines section (Some []) h) kept rates)))
          → list_all (is_kept name) lines ≡ true → kept + length lines ≤ 65535 → told_in rate section rates lines ≡ Ok after
          → Gives (in_head Outside name (read_to (put_lines section (Some lines) h) (kept + length lines) after))
          rest project
          → Gives (in_head Outside before (read_to h kept rates)) (opening name ∷ (lines ++ (ending name ∷ rest))) project
      kept_section before lines h kept rates after rest project opens all few says gives =
          one_line _ _ (opening name) (lines ++ (ending name ∷ rest)) project opens refl
          (kept_lines [] lines h kept rates after rest project all few says gives)

      -- A section that may exist.
      pub optional_section :
          (before : List ℕ) (option : Option (List (List ℕ))) (h : Header) (kept : ℕ) (rates after : Rates)
          (rest : List (List ℕ)) (project : ListProject)
          → put_lines section None h ≡ h
          → ((n : ℕ) → with_line rate (in_head Outside before (read_to h kept rates)) n (opening name)
          ≡ Ok (in_head (Inside section) name (read_to (put_lines section (Some []) h) kept rates)))
          → list_all (is_kept name) (lines_of_section option) ≡ true → kept + length (lines_of_section option) ≤ 65535
          → told_in rate section rates (lines_of_section option) ≡ Ok after
          → ((known : List ℕ)
          → Gives (in_head Outside known (read_to (put_lines section option h) (kept + length (lines_of_section option))
          after)) rest project)
          → Gives (in_head Outside before (read_to h kept rates)) (written_section name option ++ rest) project
      optional_section before None h kept rates after rest project absent opens all few says gives =
          gives_without before h kept rates after rest project absent (cc) (gives before)
      optional_section before (Some lines) h kept rates after rest project absent opens all few says gives =
          subst (λ more. Gives (in_head Outside before (read_to h kept rates)) (opening name ∷ more) project)
          (sym (append_assoc lines (ending name ∷ []) rest))
          (kept_section before lines h kept rates after rest project opens all few says (gives name))
