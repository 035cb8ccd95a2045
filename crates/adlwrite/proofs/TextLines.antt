-- The lines of the written text.
use Rattle.std.proofs.lemmas.Grind.{flat_map-append}
use Rattle.std.proofs.Common.{◌≡◌, ℕ, ◌≤◌, Bool, true, false, List, [], ◌∷◌, ◌++◌, length, Option, None, Some, IsTrue, refl, ap, sym, ◌∙◌, append_assoc, arith}
use Rattle.std.specs.Prelude.{codes, flat_map, map, ◌==◌}
use Rattle.std.specs.List.{list_all}
use Rattle.std.proofs.lemmas.Bool.Decides.{nat_tests}
use Rattle.std.proofs.lemmas.List.{append-nil}
use Rattle.std.proofs.lemmas.List.Folds.{list_all-append}
use Rattle.facts.specs.Tests.{and_both, and_left, and_right}
use Rattle.sampletime.specs.FrameRate.{is_rate}
use Rattle.sampletime.specs.TimeCode.{are_separators, day, text_of}
use Rattle.sound_terms.specs.declared.Event.{Event}
use Rattle.list_terms.specs.LineLaws.{without_cr-cr}
use Rattle.list_terms.specs.Lines.{cut_lines, lines_in, lines_of}
use Rattle.list_terms.specs.Project.{ListProject, Source}
use Rattle.list_terms.specs.TokenLaws.{all_weaker, is_word}
use Rattle.list_terms.specs.Tokens.{is_word_byte}
use Rattle.list_terms.specs.WholeProject.{IsProject, are_kept, has_whole_texts, is_event, is_kept, is_line_byte, is_number, is_source, is_time_of_day}
use Rattle.list_terms.specs.WrittenText.{channels_text, event_line, event_lines, fade_lines, line, number_text, section, source_line, text_of_project, time_text}
use Rattle.adlwrite.proofs.Facts.{EventFacts, event_facts, source_facts}
use Rattle.adlwrite.proofs.Reading.{ending, opening, written_section}
use Rattle.adlwrite.proofs.Words.{channels_are_read, number_is_a_word, time_is_a_word}

-- ---- the text is cut into its lines

cut_lines-line :
    (text rest : List ℕ) → list_all is_line_byte text ≡ true
    → cut_lines (text ++ (13 ∷ 10 ∷ rest)) ≡ (text ++ (13 ∷ [])) ∷ cut_lines rest
unfolding cut_lines
cut_lines-line [] rest h = refl
cut_lines-line (b ∷ text) rest h =
    let other : (b == 10) ≡ false = grind (arith, nat_tests) in
    rw (other, cut_lines-line text rest (and_right (is_line_byte b) (list_all is_line_byte text) h)) refl

lines_in-lines :
    (lines : List (List ℕ)) → list_all (list_all is_line_byte) lines ≡ true → lines_in (flat_map line lines) ≡ lines
unfolding cut_lines
lines_in-lines [] h = refl
lines_in-lines (text ∷ lines) h =
    let is = and_left (list_all is_line_byte text) (list_all (list_all is_line_byte) lines) h in
    let rest = flat_map line lines in
    rw (append_assoc text (13 ∷ 10 ∷ []) rest, cut_lines-line text rest is, without_cr-cr text)
    (ap (λ ls. text ∷ ls) (lines_in-lines lines (and_right (list_all is_line_byte text) _ h)))

-- ---- the text consists of these lines

abbrev pub written_lines : ListProject → List (List ℕ)
written_lines project =
    codes "<ADL>" ∷ (written_section (codes "VERSION") project.header.version
    ++ (written_section (codes "PROJECT") project.header.project
    ++ (written_section (codes "SYSTEM") project.header.system
    ++ (written_section (codes "SEQUENCE") project.header.sequence
    ++ (written_section (codes "TRACKLIST") project.header.track_list
    ++ (written_section (codes "SOURCE_INDEX") (Some (map (source_line project) project.sources))
    ++ (written_section (codes "EVENT_LIST") (Some (flat_map (event_lines project) project.events))
    ++ (codes "</ADL>" ∷ []))))))))

section_is_its_lines :
    (name : List ℕ) (lines : Option (List (List ℕ))) (rest : List (List ℕ)) (text : List ℕ) → text ≡ flat_map line rest
    → section name lines ++ text ≡ flat_map line (written_section name lines ++ rest)
section_is_its_lines name None rest text e = e
section_is_its_lines name (Some lines) rest text e =
    let middle = flat_map line lines in
    let end = line (ending name) in
    append_assoc (line (opening name)) (middle ++ end) text
    ∙ ap (λ t. line (opening name) ++ t) (ap (λ t. (middle ++ end) ++ t) e
    ∙ sym (flat_map-append line (lines ++ (ending name ∷ [])) rest
    ∙ ap (λ t. t ++ flat_map line rest) (flat_map-append line lines (ending name ∷ [])
    ∙ ap (λ t. middle ++ t) (append-nil end))))

source_lines :
    (project : ListProject) (sources : List Source)
    → flat_map (λ s. source_line project s ∷ []) sources ≡ map (source_line project) sources
source_lines project [] = refl
source_lines project (s ∷ sources) = ap (λ ls. source_line project s ∷ ls) (source_lines project sources)

text_is_its_lines : (project : ListProject) → text_of_project project ≡ flat_map line (written_lines project)
unfolding text_of_project
text_is_its_lines project =
    rw (source_lines project project.sources)
    (ap (λ t. line (codes "<ADL>") ++ t)
    (section_is_its_lines (codes "VERSION") project.header.version _ _
    (section_is_its_lines (codes "PROJECT") project.header.project _ _
    (section_is_its_lines (codes "SYSTEM") project.header.system _ _
    (section_is_its_lines (codes "SEQUENCE") project.header.sequence _ _
    (section_is_its_lines (codes "TRACKLIST") project.header.track_list _ _
    (section_is_its_lines (codes "SOURCE_INDEX") (Some (map (source_line project) project.sources)) _ _
    (section_is_its_lines (codes "EVENT_LIST") (Some (flat_map (event_lines project) project.events))
    (codes "</ADL>" ∷ []) (line (codes "</ADL>")) refl))))))))

-- ---- no line contains LF

pub record IsLine (text : List ℕ) : Type 0 where
  pub each : list_all is_line_byte text ≡ true

all-append :
    {X : Type 0} (test : X → Bool) (s t : List X) → list_all test s ≡ true → list_all test t ≡ true
    → list_all test (s ++ t) ≡ true
all-append test s t a b = list_all-append test s t ∙ and_both (list_all test s) (list_all test t) a b

-- A part in front.
part : (s : List ℕ) {t : List ℕ} → IsLine s → IsLine t → IsLine (s ++ t)
part s {t} a b = record { each = all-append is_line_byte s t a.each b.each }

literal : (s : List ℕ) {t : List ℕ} → list_all is_line_byte s ≡ true → IsLine t → IsLine (s ++ t)
literal s {t} a b = record { each = all-append is_line_byte s t a b.each }

word_is_line : (text : List ℕ) → is_word text ≡ true → IsLine text
word_is_line [] h = absurd (cc)
word_is_line (b ∷ text) h =
    record { each = all_weaker is_word_byte is_line_byte (λ c e. grind (arith, nat_tests)) (b ∷ text) h }

pub record AreLines (lines : List (List ℕ)) : Type 0 where
  pub each : list_all (list_all is_line_byte) lines ≡ true

first_line : (text : List ℕ) {lines : List (List ℕ)} → IsLine text → AreLines lines → AreLines (text ∷ lines)
first_line text h all = record { each = rw h.each all.each }

no_lines : AreLines []
no_lines = record { each = refl }

front_lines : (a : List (List ℕ)) {b : List (List ℕ)} → AreLines a → AreLines b → AreLines (a ++ b)
front_lines a {b} x y = record { each = all-append (list_all is_line_byte) a b x.each y.each }

kept_are_lines : (name : List ℕ) (lines : List (List ℕ)) → list_all (is_kept name) lines ≡ true → AreLines lines
kept_are_lines name [] h = no_lines
kept_are_lines name (text ∷ lines) h =
    let is = and_left (is_kept name text) (list_all (is_kept name) lines) h in
    first_line text (record { each = and_left (list_all is_line_byte text) _ is })
    (kept_are_lines name lines (and_right (is_kept name text) (list_all (is_kept name) lines) h))

section_of_lines :
    (name : List ℕ) (lines : List (List ℕ)) → IsLine name → AreLines lines
    → AreLines (written_section name (Some lines))
section_of_lines name lines is all =
    first_line (opening name) (literal (codes "<") refl (part name is (record { each = refl })))
    (front_lines lines all (first_line (ending name) (literal (codes "</") refl (part name is (record { each = refl })))
    no_lines))

kept_section_of_lines :
    (name : List ℕ) (lines : Option (List (List ℕ))) → IsLine name → IsTrue (are_kept name lines)
    → AreLines (written_section name lines)
kept_section_of_lines name None is h = no_lines
kept_section_of_lines name (Some lines) is h = section_of_lines name lines is (kept_are_lines name lines h)

module _ (project : ListProject) (rate : IsTrue (is_rate project.rate)) (separators : IsTrue (are_separators project.separators))
  where
    time_is_line : (t : ℕ) → t ≤ day → IsLine (time_text project (Some t))
    time_is_line t h =
        word_is_line (text_of project.rate t project.separators)
        (time_is_a_word project.rate t project.separators rate h separators)

    optional_time_is_line : (time : Option ℕ) → IsTrue (is_time_of_day time) → IsLine (time_text project time)
    optional_time_is_line None h = record { each = refl }
    optional_time_is_line (Some t) h = time_is_line t (grind (arith, nat_tests))

    number_is_line : (n : ℕ) → IsTrue (is_number n) → IsLine (number_text n)
    number_is_line n h = word_is_line (number_text n) (number_is_a_word n h)

    source_is_line :
        (source : Source) → IsTrue (is_source source) → IsTrue (has_whole_texts source)
        → IsLine (source_line project source)
    source_is_line source h k =
        let facts = source_facts source h k in
        literal (codes "(Index) ") refl (part (number_text source.number) (number_is_line source.number facts.number)
        (literal (codes " (F) \"") refl (part source.url (record { each = facts.url_line })
        (literal (codes "\" ") refl (part source.uid (record { each = facts.uid_line })
        (literal (codes " ") refl (part (time_text project source.start)
        (optional_time_is_line source.start facts.start)
        (literal (codes " ") refl (optional_time_is_line source.length facts.length)))))))))

    event_is_line : (event : Event) → EventFacts event → IsLine (event_line project event)
    event_is_line event facts =
        literal (codes "(Entry) ") refl (part (number_text event.number) (number_is_line event.number facts.number)
        (literal (codes " (Cut) I ") refl (part (number_text event.index) (number_is_line event.index facts.index)
        (literal (codes " ") refl (part (channels_text event.source)
        (word_is_line _ (channels_are_read event.source facts.source).word)
        (literal (codes " ") refl (part (channels_text event.dest)
        (word_is_line _ (channels_are_read event.dest facts.dest).word)
        (literal (codes " ") refl (part (time_text project (Some event.source_in))
        (time_is_line event.source_in facts.source_in)
        (literal (codes " ") refl (part (time_text project (Some event.dest_in))
        (time_is_line event.dest_in facts.dest_in)
        (literal (codes " ") refl (time_is_line event.dest_out facts.dest_out)))))))))))))

    fades_are_lines :
        (keyword : List ℕ) (length : ℕ) → IsLine keyword → length ≤ day → AreLines (fade_lines project keyword length)
    fades_are_lines keyword length is h = by_test (length == 0) refl where
      by_test : (none : Bool) → (length == 0) ≡ none → AreLines (fade_lines project keyword length)
      by_test true e = rw e no_lines
      by_test false e =
          rw e (first_line (keyword ++ (codes " " ++ (time_text project (Some length) ++ codes " LIN _ _ _")))
          (part keyword is (literal (codes " ") refl
          (part (time_text project (Some length)) (time_is_line length h) (record { each = refl })))) no_lines)

    sources_are_lines :
        (sources : List Source) → IsTrue (list_all is_source sources) → IsTrue (list_all has_whole_texts sources)
        → AreLines (map (source_line project) sources)
    sources_are_lines [] h k = no_lines
    sources_are_lines (s ∷ sources) h k =
        first_line (source_line project s)
        (source_is_line s (and_left (is_source s) (list_all is_source sources) h)
        (and_left (has_whole_texts s) (list_all has_whole_texts sources) k))
        (sources_are_lines sources (and_right (is_source s) (list_all is_source sources) h)
        (and_right (has_whole_texts s) (list_all has_whole_texts sources) k))

    events_are_lines :
        (events : List Event) → IsTrue (list_all is_event events) → AreLines (flat_map (event_lines project) events)
    events_are_lines [] h = no_lines
    events_are_lines (e ∷ events) h =
        let facts = event_facts e (and_left (is_event e) (list_all is_event events) h) in
        front_lines (event_lines project e)
        (first_line (event_line project e) (event_is_line e facts)
        (front_lines (fade_lines project (codes "(Infade)") e.rise.length)
        (fades_are_lines (codes "(Infade)") e.rise.length (record { each = refl }) facts.rise)
        (fades_are_lines (codes "(Outfade)") e.fall.length (record { each = refl }) facts.fall)))
        (events_are_lines events (and_right (is_event e) (list_all is_event events) h))

pub written_lines_are_lines : (project : ListProject) → IsProject project → AreLines (written_lines project)
written_lines_are_lines project h =
    first_line (codes "<ADL>") (record { each = refl })
    (front_lines (written_section (codes "VERSION") project.header.version)
    (kept_section_of_lines (codes "VERSION") project.header.version (record { each = refl }) h.header.version)
    (front_lines (written_section (codes "PROJECT") project.header.project)
    (kept_section_of_lines (codes "PROJECT") project.header.project (record { each = refl }) h.header.project)
    (front_lines (written_section (codes "SYSTEM") project.header.system)
    (kept_section_of_lines (codes "SYSTEM") project.header.system (record { each = refl }) h.header.system)
    (front_lines (written_section (codes "SEQUENCE") project.header.sequence)
    (kept_section_of_lines (codes "SEQUENCE") project.header.sequence (record { each = refl }) h.header.sequence)
    (front_lines (written_section (codes "TRACKLIST") project.header.track_list)
    (kept_section_of_lines (codes "TRACKLIST") project.header.track_list (record { each = refl }) h.header.track_list)
    (front_lines (written_section (codes "SOURCE_INDEX") (Some (map (source_line project) project.sources)))
    (section_of_lines (codes "SOURCE_INDEX") (map (source_line project) project.sources) (record { each = refl })
    (sources_are_lines project h.rate h.separators project.sources h.sources.numbered.each h.sources.texts))
    (front_lines (written_section (codes "EVENT_LIST") (Some (flat_map (event_lines project) project.events)))
    (section_of_lines (codes "EVENT_LIST") (flat_map (event_lines project) project.events) (record { each = refl })
    (events_are_lines project h.rate h.separators project.events h.events.each))
    (first_line (codes "</ADL>") (record { each = refl }) no_lines))))))))

pub lines_of-text_of_project :
    (project : ListProject) → IsProject project → lines_of (text_of_project project) ≡ written_lines project
unfolding lines_of
lines_of-text_of_project project h =
    ap lines_of (text_is_its_lines project) ∙ lines_in-lines (written_lines project) (written_lines_are_lines project
    h).each
