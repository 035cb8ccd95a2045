-- Faults reported so far, and one more.
use Rattle.devices.specs.declared.source.Shelf as source
use Rattle.std.proofs.Common.{arith, ◌≡◌, ◌∙◌, ◌+◌, ◌<◌, ◌≤◌, ◌||◌, ◌^◌, ◌⊎◌, ◌∷◌, ◌++◌, [], ℕ, true, false, drop, inl, inr, List, Option, None, Some, add-one, ap, length, sym, slice_index_or, subst, map, option_map, refl, take, take-suc}
use Rattle.std.specs.List.{cons_option}
use Rattle.std.proofs.lemmas.Bool.{cases_lt, or_cases}
use Rattle.std.proofs.lemmas.List.{append_assoc, append-nil, map-append, take-append-drop}
use Rattle.std.proofs.lemmas.List.Folds.{list_any-append}
use Rattle.std.proofs.lemmas.List.Elements.{filter-append, filter_map-append}
use Rattle.sound_terms.specs.declared.Event.{Event}
use Rattle.work_terms.specs.Disk.{Files, Rises}
use Rattle.work_terms.specs.Refusals.{is_device}
use Rattle.list_terms.specs.Names.{Place, place_of_url}
use Rattle.list_terms.specs.Project.{Source}
use Rattle.list_terms.specs.Binding.{Binding, is_used}
use Rattle.opening.specs.Faults.{refusal_of}
use Rattle.opening.specs.declared.fault.Fault.{Fault}
use Rattle.opening.specs.Further.{AreTold, IsToldOf, WasRead, fault_beside, faults_beside, names_device, places_of, used_of}

-- the faults of some entries and of one more
pub one_more_entry : (binding : Binding) (told : ℕ) (events : List Event) (event : Event) (faults : List Fault)
    (fault : Option Fault)
    → map refusal_of faults ≡ faults_beside binding told events
    → option_map refusal_of fault ≡ fault_beside binding told event
    → map refusal_of (faults ++ cons_option fault []) ≡ faults_beside binding told (events ++ event ∷ [])
one_more_entry binding told events event faults fault before here =
    map-append refusal_of faults (cons_option fault [])
    ∙ ap (λ front. front ++ map refusal_of (cons_option fault [])) before
    ∙ ap (λ back. faults_beside binding told events ++ back) (mapped fault ∙ ap (λ one. cons_option one []) here)
    ∙ sym (filter_map-append (fault_beside binding told) events (event ∷ []))
  where
    mapped : (one : Option Fault) → map refusal_of (cons_option one []) ≡ cons_option (option_map refusal_of one) []
    mapped None = refl
    mapped (Some fault) = refl

-- the faults of some sources and of the sources after them
pub told_further : (files : Files) (named : List Place) (sources more : List Source) (faults further : List Fault)
    → AreTold files named sources faults → AreTold files (named ++ places_of sources) more further
    → AreTold files named (sources ++ more) (faults ++ further)
told_further files named [] more faults further before behind = rw (before, ← append-nil named) behind
told_further files named (source ∷ sources) more faults further before behind =
    let (told, rest, is, is_told, are) = before in
    let here = places_of (source ∷ []) in (
      told,
      rest ++ further,
      ap (λ front. front ++ further) is ∙ cons_option-append told rest further,
      is_told,
      told_further files (named ++ here) sources more rest further are
          (subst (λ places. AreTold files places more further)
          (ap (λ places. named ++ places) (filter_map-append (λ s. place_of_url s.url) (source ∷ []) sources)
          ∙ sym (append_assoc named here (places_of sources))) behind),
    )
  where
    cons_option-append : (one : Option Fault) (xs ys : List Fault)
        → cons_option one xs ++ ys ≡ cons_option one (xs ++ ys)
    cons_option-append None xs ys = refl
    cons_option-append (Some x) xs ys = refl

-- the fault of one source
pub told_one : (files : Files) (named : List Place) (events : List Event) (source : Source) (told : Option Fault)
    → is_used events source.number ≡ true → IsToldOf files named source told
    → AreTold files named (used_of events (source ∷ [])) (cons_option told [])
told_one files named events source told used is = rw used (told, [], refl, is, refl)

-- the location of one used source
pub named_one : (events : List Event) (source : Source) (place : Place)
    → is_used events source.number ≡ true → place_of_url source.url ≡ Some place
    → places_of (used_of events (source ∷ [])) ≡ place ∷ []
named_one events source place used is = rw (used, is) refl

-- the used sources up to and including one more
pub used_further : (events : List Event) (sources : List Source) (place : ℕ) (source : Source)
    → place < length sources → slice_index_or sources place source ≡ source
    → used_of events (take (place + 1) sources) ≡ used_of events (take place sources) ++ used_of events (source ∷ [])
used_further events sources place source within there =
    ap (λ n. used_of events (take n sources)) (add-one place)
    ∙ ap (used_of events) (take-suc sources place source within ∙ ap (λ s. take place sources ++ s ∷ []) there)
    ∙ filter-append (λ s. is_used events s.number) (take place sources) (source ∷ [])

-- the locations of sources, appended to the earlier ones
pub named_further : (named : List Place) (sources more : List Source)
    → (named ++ places_of sources) ++ places_of more ≡ named ++ places_of (sources ++ more)
named_further named sources more =
    append_assoc named (places_of sources) (places_of more)
    ∙ ap (λ places. named ++ places) (sym (filter_map-append (λ s. place_of_url s.url) sources more))

-- two reads of a store in sequence are a read
pub read_on : {S : Type 0} (shelf : source.Ghosts S) {old between new : S} → WasRead shelf old between
    → WasRead shelf between new → WasRead shelf old new
read_on shelf before after = record {
  same = after.same ∙ before.same;
  honest_same = after.honest_same ∙ before.honest_same;
  later = omega (arith, before.later, after.later);
  keeps = λ n failed. after.keeps n (before.keeps n failed);
}

-- ---- failed devices are counted

earlier_rise : {a b c : ℕ} → Rises a b → b ≤ c → Rises a c
earlier_rise rises after = record {
  later = omega (arith, rises.later, after);
  rose = λ few. omega (arith, rises.rose few, after);
}

later_rise : {a b c : ℕ} → a ≤ b → Rises b c → Rises a c
later_rise {a} {b} {c} before rises = record {
  later = omega (arith, before, rises.later);
  rose = λ few. by_count few (cases_lt (b + 1) (2 ^ 64));
}
  where
    by_count : a + 1 < 2 ^ 64 → (b + 1 < 2 ^ 64) ⊎ (2 ^ 64 ≤ b + 1) → a < c
    by_count few (inl more) = omega (arith, before, rises.rose more)
    by_count few (inr full) = omega (arith, few, full, rises.later)

-- faults, and further ones
pub counted_further : {a b c : ℕ} (faults more : List Fault) → a ≤ b → b ≤ c
    → (names_device faults ≡ true → Rises a b) → (names_device more ≡ true → Rises b c)
    → names_device (faults ++ more) ≡ true → Rises a c
counted_further faults more before after first second is =
    elim (or_cases (names_device faults) (names_device more)
    (sym (list_any-append (λ fault. is_device (refusal_of fault).number) faults more) ∙ is)) [
      | inl here ↦ earlier_rise (first here) after
      | inr later ↦ later_rise before (second later)
    ]

-- the first of some faults
pub devices_of_first : (most : ℕ) (all : List Fault) → names_device (take most all) ≡ true → names_device all ≡ true
devices_of_first most all is =
    ap names_device (sym (take-append-drop most all))
    ∙ list_any-append (λ fault. is_device (refusal_of fault).number) (take most all) (drop most all)
    ∙ ap (λ b. b || names_device (drop most all)) is

-- faults that name no device, and one more
pub none_further : (faults more : List Fault) → names_device faults ≡ false → names_device more ≡ false
    → names_device (faults ++ more) ≡ false
none_further faults more first second =
    list_any-append (λ fault. is_device (refusal_of fault).number) faults more
    ∙ ap (λ b. b || names_device more) first ∙ second
