-- The written event list is read as the events.
use Rattle.std.proofs.Common.{◌≡◌, ℕ, ◌≤◌, Bool, true, false, List, [], ◌∷◌, ◌++◌, length, Option, None, Some, Ok, MatchOption, IsTrue, refl, ap, sym, subst, ◌∙◌, append_assoc, arith}
use Rattle.std.specs.Prelude.{codes, flat_map, unwrap_or, ◌==◌}
use Rattle.std.specs.List.{list_all, list_any}
use Rattle.std.proofs.lemmas.Bool.Decides.{nat_tests}
use Rattle.std.proofs.lemmas.List.{append-nil}
use Rattle.facts.specs.Tests.{and_left, and_right}
use Rattle.facts.specs.Distinct.{moved, not_taken}
use Rattle.sampletime.specs.FrameRate.{is_rate}
use Rattle.sampletime.specs.TimeCode.{are_separators}
use Rattle.sound_terms.specs.declared.Event.{Event}
use Rattle.sound_terms.specs.declared.Fade.{Fade}
use Rattle.list_terms.specs.declared.OpenEntry.{OpenEntry}
use Rattle.list_terms.specs.declared.Section.TheVariants as section
use Rattle.list_terms.specs.declared.Stage.TheVariants.{Inside, Outside}
use Rattle.list_terms.specs.Project.{ListProject, Source}
use Rattle.list_terms.specs.Text.{Context, Entries, HeaderRead, all_events, entry_line, entry_of, further_line, in_event_list, in_section, with_event, with_line}
use Rattle.list_terms.specs.Tokens.{token_at}
use Rattle.list_terms.specs.WholeProject.{AreDistinct, entry_numbers, is_event}
use Rattle.list_terms.specs.WrittenText.{channels_text, event_line, event_lines, fade_lines, number_text, time_text}
use Rattle.adlwrite.proofs.Facts.{EventFacts, event_facts}
use Rattle.adlwrite.proofs.Fields.{number_field-written}
use Rattle.adlwrite.proofs.Lines.{event_fields-written, fade_is_read, fade_keyword, is_told, with_fade}
use Rattle.adlwrite.proofs.Reading.{Gives, ending, one_line, so_far}
use Rattle.adlwrite.proofs.Sources.{is_no_end}

-- An entry before its fades.
abbrev without_fades : Event → Event
without_fades event = record event { rise = record { length = 0 }; fall = record { length = 0 } }

fall_of_zero :
    (event : Event) (length : ℕ) → length ≡ 0 → event.fall ≡ record { length = 0 }
    → record event { fall = record { length = length } } ≡ event
fall_of_zero event length z none =
    ap (λ (l : ℕ). let e : Event = record event { fall = record { length = l } } in e) z
    ∙ ap (λ (f : Fade). let e : Event = record event { fall = f } in e) (sym none)

rise_of_zero : (event : Event) → event.rise.length ≡ 0 → record event { rise = record { length = 0 } } ≡ event
rise_of_zero event z = ap (λ (l : ℕ). let e : Event = record event { rise = record { length = l } } in e) (sym z)

regrouped : (a b c d : List (List ℕ)) → ((a ++ b) ++ c) ++ d ≡ a ++ (b ++ (c ++ d))
regrouped a b c d = simp append_assoc

module _
    (project : ListProject) (rate : IsTrue (is_rate project.rate)) (separators : IsTrue (are_separators project.separators))
    (header : HeaderRead) (sources : List Source) where
  -- The state inside the event list, after these entries.
  abbrev in_list : Entries → Context
  in_list entries = so_far (Inside section.EventList) (codes "EVENT_LIST") header true sources true entries

  -- The event list with a last entry.
  abbrev opened : List Event → OpenEntry → Option (List ℕ) → Entries
  opened events entry separators = record { events = events; entry = Some entry; separators = separators }

  -- An entry, and which of its fades have been given.
  abbrev told : Event → Bool → Bool → OpenEntry
  told event has_rise has_fall = record { event = event; has_rise = has_rise; has_fall = has_fall }

  entry_is_read :
      (entries : Entries) (event : Event) (n : ℕ) → EventFacts event
      → list_any (λ other. other.number == event.number) (all_events entries.events entries.entry) ≡ false
      → with_line project.rate (in_list entries) n (event_line project event)
      ≡ Ok (in_list (with_event entries (without_fades event) project.separators))
  unfolding with_line in_section in_event_list entry_line entry_of token_at
  entry_is_read entries event n facts new =
      let fields = codes " (Cut) I " ++ (number_text event.index
      ++ (codes " " ++ (channels_text event.source ++ (codes " " ++ (channels_text event.dest
      ++ (codes " " ++ (time_text project (Some event.source_in)
      ++ (codes " " ++ (time_text project (Some event.dest_in)
      ++ (codes " " ++ time_text project (Some event.dest_out))))))))))) in
      rw (
        is_no_end (codes "EVENT_LIST") (codes "Entry) " ++ (number_text event.number ++ fields)),
        number_field-written event.number fields facts.number refl,
        new,
        event_fields-written project rate separators event facts,
      )

  -- The rest of a fade's line after its keyword.
  abbrev fade_end : ℕ → List ℕ
  fade_end length = codes " " ++ (time_text project (Some length) ++ codes " LIN _ _ _")

  -- The last entry with a fade.
  fade_line_is_read :
      (is_rise : Bool) (events : List Event) (entry : OpenEntry) (found : Option (List ℕ)) (length n : ℕ)
      → length ≤ 4147200000 → (length == 0) ≡ false → is_told is_rise entry ≡ false
      → with_line project.rate (in_list (opened events entry found)) n
      (codes "(" ++ (fade_keyword is_rise ++ (codes ")" ++ fade_end length)))
      ≡ Ok (in_list (opened events (with_fade is_rise entry length) found))
  unfolding with_line in_section in_event_list further_line token_at
  fade_line_is_read true events entry found length n h some new =
      rw (
        is_no_end (codes "EVENT_LIST") (codes "Infade)" ++ fade_end length),
        fade_is_read project rate separators true entry length h some new,
      )
  fade_line_is_read false events entry found length n h some new =
      rw (
        is_no_end (codes "EVENT_LIST") (codes "Outfade)" ++ fade_end length),
        fade_is_read project rate separators false entry length h some new,
      )

  -- The rest of the list yields `result`, whichever fades of the last entry have been given.
  abbrev GivesBehind : List Event → Event → Option (List ℕ) → List (List ℕ) → ListProject → Type 0
  GivesBehind events event found lines result =
      (has_rise has_fall : Bool)
      → Gives project.rate (in_list
      (opened events (told event has_rise has_fall) found)) lines result

  falls_are_read :
      (events : List Event) (event : Event) (has_rise : Bool) (found : Option (List ℕ)) (length : ℕ)
      (rest : List (List ℕ)) (result : ListProject)
      → length ≤ 4147200000 → event.fall ≡ record { length = 0 }
      → GivesBehind events (record event { fall = record { length = length } }) found rest result
      → Gives project.rate (in_list
      (opened events (told event has_rise false) found))
      (fade_lines project (codes "(Outfade)") length ++ rest) result
  falls_are_read events event has_rise found length rest result h none gives = by_test (length == 0) refl where
    by_test :
        (zero : Bool) → (length == 0) ≡ zero
        → Gives project.rate (in_list
        (opened events (told event has_rise false) found))
        (fade_lines project (codes "(Outfade)") length ++ rest) result
    by_test true e =
        let same : record event { fall = record { length = length } } ≡ event =
        fall_of_zero event length (grind (arith, nat_tests)) none in
        rw e (subst (λ ev. GivesBehind events ev found rest result) same gives has_rise false)
    by_test false e =
        rw e (one_line project.rate _ _ (codes "(Outfade)" ++ fade_end length) rest result
        (λ n. fade_line_is_read false events (told event has_rise false) found length n h e refl) refl
        (gives has_rise true))

  rises_are_read :
      (events : List Event) (event : Event) (found : Option (List ℕ)) (rest : List (List ℕ)) (result : ListProject)
      → EventFacts event → GivesBehind events event found rest result
      → Gives project.rate (in_list
      (opened events (told (without_fades event) false false) found))
      (fade_lines project (codes "(Infade)") event.rise.length
      ++ (fade_lines project (codes "(Outfade)") event.fall.length ++ rest)) result
  rises_are_read events event found rest result facts gives = by_test (event.rise.length == 0) refl where
    falls : List (List ℕ)
    falls = fade_lines project (codes "(Outfade)") event.fall.length

    by_test :
        (zero : Bool) → (event.rise.length == 0) ≡ zero
        → Gives project.rate (in_list
        (opened events (told (without_fades event) false false) found))
        (fade_lines project (codes "(Infade)") event.rise.length
        ++ (fade_lines project (codes "(Outfade)") event.fall.length ++ rest)) result
    by_test true e =
        let same : record event { rise = record { length = 0 } } ≡ event =
        rise_of_zero event (grind (arith, nat_tests)) in
        rw e (falls_are_read events (without_fades event) false found event.fall.length rest result facts.fall refl
        (subst (λ ev. GivesBehind events ev found rest result) (sym same) gives))
    by_test false e =
        rw e (one_line project.rate _ _ (codes "(Infade)" ++ fade_end event.rise.length)
        (fade_lines project (codes "(Outfade)") event.fall.length ++ rest) result
        (λ n. fade_line_is_read true events (told (without_fades event) false false)
        found event.rise.length n facts.rise e refl) refl
        (falls_are_read events (record event { fall = record { length = 0 } })
        true found event.fall.length rest result facts.fall refl gives))

  -- The separators so far are the project's, or there is no entry.
  abbrev pub AreFound : Option (List ℕ) → List Event → Type 0
  AreFound found events = MatchOption found (events ≡ []) (λ f. f ≡ project.separators)

  found_again :
      (found : Option (List ℕ)) (events : List Event) → AreFound found events
      → unwrap_or found project.separators ≡ project.separators
  found_again None events h = refl
  found_again (Some found) events h = h

  pub events_are_read :
      (entries : Entries) (front written : List Event) (rest : List (List ℕ)) (result : ListProject)
      → all_events entries.events entries.entry ≡ front → AreFound entries.separators front
      → IsTrue (list_all is_event written) → AreDistinct (entry_numbers (front ++ written))
      → ((last : Entries) → all_events last.events last.entry ≡ front ++ written
      → AreFound last.separators (front ++ written)
      → Gives project.rate (so_far Outside (codes "EVENT_LIST") header true sources true last) rest result)
      → Gives project.rate (in_list entries)
      (flat_map (event_lines project) written ++ (ending (codes "EVENT_LIST") ∷ rest)) result
  unfolding with_line
  events_are_read entries front [] rest result same found all distinct gives =
      one_line project.rate _ _ (ending (codes "EVENT_LIST")) rest result (λ n. refl) refl
      (gives entries (same ∙ sym (append-nil front))
      (subst (AreFound entries.separators) (sym (append-nil front)) found))
  events_are_read entries front (e ∷ written) rest result same found all distinct gives =
      let h = and_left (is_event e) (list_all is_event written) all in
      let new =
      subst (λ events. list_any (λ other. other.number == e.number) events ≡ false) (sym same)
      (not_taken (λ f. f.number) front e written distinct) in
      let more = flat_map (event_lines project) written ++ (ending (codes "EVENT_LIST") ∷ rest) in
      let rises = fade_lines project (codes "(Infade)") e.rise.length in
      let falls = fade_lines project (codes "(Outfade)") e.fall.length in
      let before = all_events entries.events entries.entry in
      let whole = append_assoc front (e ∷ []) written in
      let behind : GivesBehind before e (Some (unwrap_or entries.separators project.separators)) more result
      = λ has_rise has_fall. events_are_read
      (opened before (told e has_rise has_fall) (Some (unwrap_or entries.separators project.separators)))
      (front ++ e ∷ []) written rest result (ap (λ events. events ++ e ∷ []) same)
      (found_again entries.separators front found)
      (and_right (is_event e) (list_all is_event written) all) (moved (λ f. f.number) front e written distinct)
      (λ last is f. gives last (is ∙ whole) (subst (AreFound last.separators) whole f)) in
      subst (λ lines. Gives project.rate (in_list entries) (event_line project e ∷ lines) result)
      (sym (regrouped rises falls (flat_map (event_lines project) written) (ending (codes "EVENT_LIST") ∷ rest)))
      (one_line project.rate _ _ (event_line project e) (rises ++ (falls ++ more)) result
      (λ n. entry_is_read entries e n (event_facts e h) new) refl
      (rises_are_read before e (Some (unwrap_or entries.separators project.separators)) more result (event_facts e h)
      behind))
