-- The parts of a list, joined in order, are its text.
use Rattle.std.proofs.Common.{◌≡◌, ◌≢◌, ℕ, Bool, true, false, List, [], ◌∷◌, ◌++◌, Option, None, Some, refl, sym, ap, ◌∙◌, append_assoc, arith}
use Rattle.std.specs.Prelude.{codes, flat_map, ◌==◌}
use Rattle.std.proofs.lemmas.Bool.Decides.{nat_tests}
use Rattle.std.proofs.lemmas.List.{append-nil}
use Rattle.sound_terms.specs.declared.Event.{Event}
use Rattle.list_terms.specs.Project.{Header, ListProject, Source}
use Rattle.list_terms.specs.WrittenText.{event_line, event_lines, fade_lines, line, number_text, section, source_line, text_of_project, time_text}
use Rattle.adlwrite.specs.Parts.{channels_behind, curve_text, ending_text, entry_numbers, entry_text, entry_times, event_text, fade_line, fade_text, file_text, head_text, header_text, index_text, list_text, opening_text, section_text, source_text, source_times}

source_is_its_line :
    (project : ListProject) (source : Source) → source_text project source ≡ line (source_line project source)
unfolding source_text index_text file_text source_times
source_is_its_line project source = simp append_assoc

entry_is_its_line : (project : ListProject) (event : Event) → entry_text project event ≡ line (event_line project event)
unfolding entry_text entry_numbers channels_behind entry_times
entry_is_its_line project event = simp append_assoc

fade_is_its_line :
    (project : ListProject) (keyword : List ℕ) (length : ℕ)
    → fade_text project (keyword ++ codes " ") length ≡ flat_map line (fade_lines project keyword length)
unfolding fade_text fade_line curve_text
fade_is_its_line project keyword length = by_test (length == 0) refl where
  by_test :
      (none : Bool) → (length == 0) ≡ none
      → fade_text project (keyword ++ codes " ") length ≡ flat_map line (fade_lines project keyword length)
  by_test true e = rw e refl
  by_test false e = rw e (simp (append_assoc, append-nil))

lines_append : (a b : List (List ℕ)) → flat_map line (a ++ b) ≡ flat_map line a ++ flat_map line b
lines_append [] b = refl
lines_append (t ∷ a) b = rw (lines_append a b) (sym (append_assoc (line t) (flat_map line a) (flat_map line b)))

event_is_its_lines :
    (project : ListProject) (event : Event) → event_text project event ≡ flat_map line (event_lines project event)
unfolding event_text
event_is_its_lines project event =
    rw (
      entry_is_its_line project event,
      fade_is_its_line project (codes "(Infade)") event.rise.length,
      fade_is_its_line project (codes "(Outfade)") event.fall.length,
      lines_append (fade_lines project (codes "(Infade)") event.rise.length)
          (fade_lines project (codes "(Outfade)") event.fall.length),
    ) refl

sources_are_their_lines :
    (project : ListProject) (sources : List Source)
    → flat_map (source_text project) sources ≡ flat_map line (flat_map (λ s. source_line project s ∷ []) sources)
sources_are_their_lines project [] = refl
sources_are_their_lines project (s ∷ sources) =
    rw (source_is_its_line project s, sources_are_their_lines project sources) refl

events_are_their_lines :
    (project : ListProject) (events : List Event)
    → flat_map (event_text project) events ≡ flat_map line (flat_map (event_lines project) events)
events_are_their_lines project [] = refl
events_are_their_lines project (e ∷ events) =
    rw (
      event_is_its_lines project e,
      events_are_their_lines project events,
      lines_append (event_lines project e) (flat_map (event_lines project) events),
    ) refl

opening_is_a_line : (name : List ℕ) → opening_text name ≡ line (codes "<" ++ (name ++ codes ">"))
unfolding opening_text
opening_is_a_line name = simp append_assoc

ending_is_a_line : (name : List ℕ) → ending_text name ≡ line (codes "</" ++ (name ++ codes ">"))
unfolding ending_text
ending_is_a_line name = simp append_assoc

is_a_section :
    (name : List ℕ) (lines : List (List ℕ)) → section_text name (flat_map line lines) ≡ section name (Some lines)
unfolding section_text
is_a_section name lines = rw (opening_is_a_line name, ending_is_a_line name) refl

header_is_a_section : (name : List ℕ) (lines : Option (List (List ℕ))) → header_text name lines ≡ section name lines
unfolding header_text
header_is_a_section name None = refl
header_is_a_section name (Some lines) = is_a_section name lines

regrouped :
    (b p q r s t o m e o' m' e' f : List ℕ)
    → b ++ ((p ++ (q ++ (r ++ (s ++ t)))) ++ ((o ++ (m ++ e)) ++ ((o' ++ (m' ++ e')) ++ f)))
    ≡ b ++ (p ++ (q ++ (r ++ (s ++ (t ++ ((o ++ (m ++ e)) ++ ((o' ++ (m' ++ e')) ++ f)))))))
regrouped b p q r s t o m e o' m' e' f = simp append_assoc

whole_list :
    (project : ListProject)
    → list_text project project.header project.sources project.events ≡ text_of_project project
unfolding list_text head_text section_text text_of_project
whole_list project =
    rw (
      header_is_a_section (codes "VERSION") project.header.version,
      header_is_a_section (codes "PROJECT") project.header.project,
      header_is_a_section (codes "SYSTEM") project.header.system,
      header_is_a_section (codes "SEQUENCE") project.header.sequence,
      header_is_a_section (codes "TRACKLIST") project.header.track_list,
      opening_is_a_line (codes "SOURCE_INDEX"),
      ending_is_a_line (codes "SOURCE_INDEX"),
      opening_is_a_line (codes "EVENT_LIST"),
      ending_is_a_line (codes "EVENT_LIST"),
      sources_are_their_lines project project.sources,
      events_are_their_lines project project.events,
    )
    (regrouped (line (codes "<ADL>")) (section (codes "VERSION") project.header.version)
    (section (codes "PROJECT") project.header.project)
    (section (codes "SYSTEM") project.header.system) (section (codes "SEQUENCE") project.header.sequence)
    (section (codes "TRACKLIST") project.header.track_list)
    (line (codes "<SOURCE_INDEX>")) (flat_map line (flat_map (λ s. source_line project s ∷ []) project.sources))
    (line (codes "</SOURCE_INDEX>"))
    (line (codes "<EVENT_LIST>")) (flat_map line (flat_map (event_lines project) project.events))
    (line (codes "</EVENT_LIST>")) (line (codes "</ADL>")))

-- ---- a fade, a source, an entry and the header, from the parts written

pub no_fade : (project : ListProject) (keyword : List ℕ) (n length : ℕ) → n ≡ 0 → n ≡ length → [] ≡ fade_text project keyword length
unfolding fade_text
no_fade project keyword n length none same = rw (sym same ∙ none) refl

pub fade_of_parts :
    (project : ListProject) (keyword time : List ℕ) (n length : ℕ) → n ≢ 0 → n ≡ length
    → time ≡ time_text project (Some length)
    → keyword ++ (time ++ (codes " LIN _ _ _\r\n" ++ [])) ≡ fade_text project keyword length
unfolding fade_text fade_line curve_text
fade_of_parts project keyword time n length some same is =
    let there : (length == 0) ≡ false = grind (arith, nat_tests) in rw (there, is) refl

pub source_of_parts :
    (project : ListProject) (source : Source) (number : ℕ) (url uid : List ℕ) (start length : Option ℕ)
    → number ≡ source.number → url ≡ source.url → uid ≡ source.uid → start ≡ source.start → length ≡ source.length
    → codes "(Index) " ++ (number_text number ++ (codes " (F) \"" ++ (url ++ (codes "\" " ++ (uid
    ++ (codes " " ++ (time_text project start ++ (codes " " ++ (time_text project length ++ (codes "\r\n" ++ []))))))))))
    ≡ source_text project source
unfolding source_text index_text file_text source_times
source_of_parts project source number url uid start length one two three four five =
    rw (one, two, three, four, five) (simp append_assoc)

pub event_of_parts :
    (project : ListProject) (event : Event)
    → codes "(Entry) " ++ (number_text event.number ++ (codes " (Cut) I " ++ (number_text event.index
    ++ (channels_behind event.source ++ (channels_behind event.dest
    ++ (codes " " ++ (time_text project (Some event.source_in) ++ (codes " " ++ (time_text project (Some event.dest_in)
    ++ (codes " " ++ (time_text project (Some event.dest_out) ++ (codes "\r\n"
    ++ (fade_text project (codes "(Infade) ") event.rise.length
    ++ (fade_text project (codes "(Outfade) ") event.fall.length ++ []))))))))))))))
    ≡ event_text project event
unfolding event_text entry_text entry_numbers entry_times
event_of_parts project event = simp (append_assoc, append-nil)

pub head_of_parts :
    (header : Header)
    → header_text (codes "VERSION") header.version ++ (header_text (codes "PROJECT") header.project
    ++ (header_text (codes "SYSTEM") header.system ++ (header_text (codes "SEQUENCE") header.sequence
    ++ (header_text (codes "TRACKLIST") header.track_list ++ []))))
    ≡ head_text header
unfolding head_text
head_of_parts header = simp append-nil

pub list_is_its_text :
    (project : ListProject) (header : Header) (sources : List Source) (events : List Event)
    → header ≡ project.header → sources ≡ project.sources → events ≡ project.events
    → list_text project header sources events ≡ text_of_project project
list_is_its_text project header sources events h s e =
    ap (λ x. list_text project x sources events) h ∙ ap (λ x. list_text project project.header x events) s
    ∙ ap (list_text project project.header project.sources) e ∙ whole_list project
