-- The header after one more section or line.
use Rattle.std.proofs.Common.{◌≡◌, ℕ, ◌+◌, ◌≤◌, Bool, true, false, List, [], ◌∷◌, ◌++◌, length, Option, None, Some, Result, Ok, refl, ap, sym, ◌∙◌, length-append, arith}
use Rattle.std.specs.Prelude.{codes, is_some, nat_le, not}
use Rattle.std.specs.List.{list_all}
use Rattle.std.proofs.lemmas.Bool.Decides.{nat_tests}
use Rattle.facts.specs.Lists.{all_push}
use Rattle.facts.specs.Tests.{and_both}
use Rattle.list_terms.specs.declared.Rates.{Rates}
use Rattle.list_terms.specs.declared.Section.{Section}
use Rattle.list_terms.specs.declared.Section.TheVariants as section
use Rattle.list_terms.specs.declared.TextFault.{TextFault}
use Rattle.list_terms.specs.declared.TextFault.TheVariants.{SectionMismatch}
use Rattle.list_terms.specs.EntryLines.{system_line}
use Rattle.list_terms.specs.StepLaws.{chain, ok_same, unless_ok}
use Rattle.list_terms.specs.Steps.{◌>>=◌}
use Rattle.list_terms.specs.Text.{HeaderRead, is_end, is_tag, keep, no_header, rates_with, sequence_rates, system_rates, with_text}
use Rattle.list_terms.specs.Tokens.{trimmed}
use Rattle.list_terms.specs.WholeProject.{are_kept, is_kept, is_line_byte, is_system_line, line_count, lines_of_section, no_rates, told_rates}
use Rattle.adlread.specs.SoFar.{IsHeaderSoFar}

-- ---- one more line

all_with :
    (test : List ℕ → Bool) (text : List ℕ) (lines : Option (List (List ℕ)))
    → list_all test (lines_of_section lines) ≡ true
    → test text ≡ true → list_all test (lines_of_section (with_text text lines)) ≡ true
all_with test text None h k = refl
all_with test text (Some front) h k = all_push test front text h k

length_with :
    (text : List ℕ) (lines : Option (List (List ℕ)))
    → length (lines_of_section (with_text text lines)) ≤ length (lines_of_section lines) + 1
length_with text None = omega arith
length_with text (Some front) = omega (arith, length-append front (text ∷ []))

pub is_kept_line :
    (name text : List ℕ) → list_all is_line_byte text ≡ true → is_end name (trimmed text) ≡ false
    → is_kept name text ≡ true
is_kept_line name text h k = and_both (list_all is_line_byte text) (not (is_end name (trimmed text))) h (rw k refl)

-- ---- one more section

nothing_told : (lines : Option (List (List ℕ))) → is_some lines ≡ false → lines_of_section lines ≡ []
nothing_told None h = refl
nothing_told (Some lines) h = absurd (cc)

module _ (rate : ℕ) where
  -- The invariants of the header, from one fact each.
  so_far :
      {header : HeaderRead} → let lines = header.lines in
      are_kept (codes "VERSION") lines.version ≡ true → are_kept (codes "PROJECT") lines.project ≡ true
      → are_kept (codes "SYSTEM") lines.system ≡ true → are_kept (codes "SEQUENCE") lines.sequence ≡ true
      → are_kept (codes "TRACKLIST") lines.track_list ≡ true
      → list_all (is_system_line rate) (lines_of_section lines.system) ≡ true
      → told_rates rate no_rates (lines_of_section lines.sequence) ≡ Ok header.rates → line_count lines ≤ header.kept
      → header.kept ≤ 65535 → IsHeaderSoFar rate header
  so_far v p s q t settings rates counted few = record {
    version = v;
    project = p;
    system = s;
    sequence = q;
    track_list = t;
    settings = settings;
    rates = rates;
    counted = counted;
    few = few;
  }

  told_rates-push :
      (rates told next : Rates) (front : List (List ℕ)) (text : List ℕ) → told_rates rate rates front ≡ Ok told
      → sequence_rates rate told text ≡ Ok next → told_rates rate rates (front ++ text ∷ []) ≡ Ok next
  told_rates-push rates told next [] text h k = let e : rates ≡ told = cc in rw (e, k) refl
  told_rates-push rates told next (line ∷ front) text h k =
      let c = chain (sequence_rates rate rates line) (λ mid. told_rates rate mid front) told h in
      rw c.is (told_rates-push c.value told next front text c.others k)

  told_with :
      (told next : Rates) (lines : Option (List (List ℕ))) (text : List ℕ) → is_some lines ≡ true
      → told_rates rate no_rates (lines_of_section lines) ≡ Ok told → sequence_rates rate told text ≡ Ok next
      → told_rates rate no_rates (lines_of_section (with_text text lines)) ≡ Ok next
  told_with told next None text there h k = absurd (cc)
  told_with told next (Some front) text there h k = told_rates-push no_rates told next front text h k

  -- A line of SYSTEM that was read gives no rate.
  record SaysNothing (rates told : Rates) (text : List ℕ) : Type 0 where
    same : rates ≡ told
    line : is_system_line rate text ≡ true

  system_rates-says :
      (rates told : Rates) (text : List ℕ) → system_rates rate rates text ≡ Ok told → SaysNothing rates told text
  system_rates-says rates told text h =
      let u = unless_ok (is_tag text) SectionMismatch (system_line rate text >>= (λ _. Ok rates)) told h in
      let l = chain (system_line rate text) (λ _. Ok rates) told u.1 in
      record { same = ok_same _ _ l.others; line = rw (u.0, l.is) refl }

  module _ (header : HeaderRead) (is : IsHeaderSoFar rate header) (text : List ℕ) (told : Rates)
      (room : nat_le 65535 header.kept ≡ false) where
    room_for_one : header.kept + 1 ≤ 65535
    room_for_one = grind (arith, nat_tests)

    -- The rates after a line of this section, and the header with the line.
    abbrev Tells : Section → Type 0
    Tells s = rates_with rate s header.rates text ≡ Ok told

    abbrev Keeps : Section → Type 0
    Keeps s = IsHeaderSoFar rate (record { lines = keep s text header.lines; kept = header.kept + 1; rates = told })

    pub with_version : is_kept (codes "VERSION") text ≡ true → Tells section.Version → Keeps section.Version
    with_version kept says =
        so_far (all_with (is_kept (codes "VERSION")) text header.lines.version is.version kept)
        is.project is.system is.sequence is.track_list is.settings (is.rates ∙ says)
        (omega (arith, length_with text header.lines.version, is.counted)) room_for_one

    pub with_project : is_kept (codes "PROJECT") text ≡ true → Tells section.Project → Keeps section.Project
    with_project kept says =
        so_far is.version (all_with (is_kept (codes "PROJECT")) text header.lines.project is.project kept)
        is.system is.sequence is.track_list is.settings (is.rates ∙ says)
        (omega (arith, length_with text header.lines.project, is.counted)) room_for_one

    pub with_system : is_kept (codes "SYSTEM") text ≡ true → Tells section.System → Keeps section.System
    with_system kept says =
        let nothing = system_rates-says header.rates told text says in
        so_far is.version is.project (all_with (is_kept (codes "SYSTEM")) text header.lines.system is.system kept)
        is.sequence is.track_list (all_with (is_system_line rate) text header.lines.system is.settings nothing.line)
        (is.rates ∙ ap (λ (r : Rates). let x : Result Rates TextFault = Ok r in x) nothing.same)
        (omega (arith, length_with text header.lines.system, is.counted)) room_for_one

    pub with_sequence :
        is_some header.lines.sequence ≡ true → is_kept (codes "SEQUENCE") text ≡ true → Tells section.Sequence
        → Keeps section.Sequence
    with_sequence there kept says =
        so_far is.version is.project is.system (all_with (is_kept (codes "SEQUENCE"))
        text header.lines.sequence is.sequence kept) is.track_list is.settings
        (told_with header.rates told header.lines.sequence text there is.rates says)
        (omega (arith, length_with text header.lines.sequence, is.counted)) room_for_one

    pub with_track_list : is_kept (codes "TRACKLIST") text ≡ true → Tells section.TrackList → Keeps section.TrackList
    with_track_list kept says =
        so_far is.version is.project is.system is.sequence
        (all_with (is_kept (codes "TRACKLIST")) text header.lines.track_list is.track_list kept) is.settings
        (is.rates ∙ says) (omega (arith, length_with text header.lines.track_list, is.counted)) room_for_one

  module _ (header : HeaderRead) (is : IsHeaderSoFar rate header) where
    pub opens_version : IsHeaderSoFar rate (record header { lines = record header.lines { version = Some [] } })
    opens_version =
        so_far refl is.project is.system is.sequence is.track_list is.settings is.rates (omega (arith, is.counted)) is.few

    pub opens_project : IsHeaderSoFar rate (record header { lines = record header.lines { project = Some [] } })
    opens_project =
        so_far is.version refl is.system is.sequence is.track_list is.settings is.rates (omega (arith, is.counted)) is.few

    pub opens_system : IsHeaderSoFar rate (record header { lines = record header.lines { system = Some [] } })
    opens_system =
        so_far is.version is.project refl is.sequence is.track_list refl is.rates (omega (arith, is.counted)) is.few

    pub opens_sequence :
        is_some header.lines.sequence ≡ false
        → IsHeaderSoFar rate (record header { lines = record header.lines { sequence = Some [] } })
    opens_sequence new =
        so_far is.version is.project is.system refl is.track_list is.settings
        (ap (told_rates rate no_rates) (sym (nothing_told header.lines.sequence new)) ∙ is.rates) (omega (arith, is.counted))
        is.few

    pub opens_track_list : IsHeaderSoFar rate (record header { lines = record header.lines { track_list = Some [] } })
    opens_track_list =
        so_far is.version is.project is.system is.sequence refl is.settings is.rates (omega (arith, is.counted)) is.few

  pub IsHeaderSoFar-none : IsHeaderSoFar rate no_header
  IsHeaderSoFar-none = so_far refl refl refl refl refl refl refl (omega arith) (omega arith)
