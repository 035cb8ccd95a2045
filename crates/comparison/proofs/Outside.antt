-- Projects are silent outside of the range compared, so the result holds at every selected time.
use Rattle.std.proofs.Common.{◌≡◌, ℕ, ◌<◌, ◌≤◌, Bool, true, false, List, [], ◌∷◌, ◌++◌, Some, None, refl, sym, ◌∙◌, subst, arith}
use Rattle.std.specs.Prelude.{ℤ, pos, nat_le, Option, IfSome, ⊤}
use Rattle.std.specs.List.{list_all}
use Rattle.std.proofs.lemmas.Bool.Decides.{nat_tests}
use Rattle.facts.specs.Tests.{and_left, and_right}
use Rattle.sound_terms.specs.declared.Event.{Event}
use Rattle.sound_terms.specs.declared.BoundIndex.{BoundIndex}
use Rattle.sound_terms.specs.Mix.{Reading, contribution_at, index_of, is_heard, mix_at}
use Rattle.list_terms.specs.Accepted.{chosen, greatest_of, least_of}
use Rattle.list_terms.specs.Binding.{Binding}
use Rattle.list_terms.specs.Heard.{project_mix, reading_of}
use Rattle.list_terms.specs.Project.{ListProject}
use Rattle.list_terms.specs.WholeProject.{is_event}
use Rattle.work_terms.specs.Disk.{Files}
use Rattle.comparison.specs.declared.difference.Difference.{Difference}
use Rattle.comparison.specs.declared.range.Selection.{Selection}
use Rattle.comparison.specs.Alike.{AreAlike, DifferFirst, IsCompared}
use Rattle.comparison.specs.Range.{Extent, IsChosen, compared_in, extent_of, is_inside}
use Rattle.comparison.specs.Whole.{DifferAt, SoundAlike}

-- events that are audible only within an extent
abbrev LieIn : Extent → List Event → Type 0
LieIn e [] = ⊤
LieIn e (event ∷ events) =
    (1 ≤ event.dest.first) × (event.dest.last ≤ e.channels) × (e.from ≤ event.dest_in) × (event.dest_out ≤ e.to)
    × LieIn e events

channels_from_one : (event : Event) → is_event event ≡ true → 1 ≤ event.dest.first
channels_from_one event whole = grind (arith, nat_tests, whole)

events_lie : (e : Extent) (events : List Event) → list_all is_event events ≡ true
    → e.from ≤ least_of (λ event. event.dest_in) events → greatest_of (λ event. event.dest_out) events ≤ e.to
    → greatest_of (λ event. event.dest.last) events ≤ e.channels → LieIn e events
events_lie e [] whole from to last = tt
events_lie e (event ∷ []) whole from to last = (
  channels_from_one event (and_left (is_event event) true whole),
  omega (arith, last),
  omega (arith, from),
  omega (arith, to),
  tt,
)
events_lie e (event ∷ other ∷ events) whole from to last = (
  channels_from_one event (and_left (is_event event) (list_all is_event (other ∷ events)) whole),
  omega (arith, last),
  omega (arith, from),
  omega (arith, to),
  events_lie e (other ∷ events) (and_right (is_event event) (list_all is_event (other ∷ events)) whole)
      (omega (arith, from)) (omega (arith, to)) (omega (arith, last)),
)

contribution_none : (reading : Reading) (index : Option BoundIndex) (event : Event) (channel time : ℕ)
    → is_heard event channel time ≡ false → contribution_at reading index event channel time ≡ pos 0
contribution_none reading None event channel time none = refl
contribution_none reading (Some index) event channel time none = rw none refl

-- the mix is silent outside of the extent
silent_mix : (reading : Reading) (indexes : List BoundIndex) (e : Extent) (events : List Event) (channel time : ℕ)
    → LieIn e events → is_inside e channel time ≡ false → mix_at reading indexes events channel time ≡ pos 0
silent_mix reading indexes e [] channel time lie none = refl
silent_mix reading indexes e (event ∷ events) channel time lie none =
    let here : is_heard event channel time ≡ false = grind (arith, nat_tests, none, lie.0, lie.1, lie.2, lie.3) in
    let first = contribution_none reading (index_of indexes event.index) event channel time here in
    let rest = silent_mix reading indexes e events channel time lie.4 none in
    rw (first, rest) refl

front_lies : (e : Extent) (events others : List Event) → LieIn e (events ++ others) → LieIn e events
front_lies e [] others lie = tt
front_lies e (event ∷ events) others lie = (lie.0, lie.1, lie.2, lie.3, front_lies e events others lie.4)

rest_lies : (e : Extent) (events others : List Event) → LieIn e (events ++ others) → LieIn e others
rest_lies e [] others lie = lie
rest_lies e (event ∷ events) others lie = rest_lies e events others lie.4

both_lie : (events : List Event) → list_all is_event events ≡ true → LieIn (extent_of events) events
both_lie events whole = events_lie (extent_of events) events whole (omega arith) (omega arith) (omega arith)

-- a project is silent outside of the range of its events
one_silent : (files : Files) (project : ListProject) (binding : Binding) (e : Extent) (events : List Event)
    → events ≡ project.events → LieIn e events → (channel time : ℕ) → is_inside e channel time ≡ false
    → project_mix files project binding channel time ≡ pos 0
one_silent files project binding e events same lie channel time none =
    subst (λ (es : List Event). mix_at (reading_of files binding) binding.indexes es channel time ≡ pos 0) same
    (silent_mix (reading_of files binding) binding.indexes e events channel time lie none)

-- a selected bound or its default
from_chosen : (choice : Option ℕ) (least time : ℕ) → IfSome choice (λ from. from ≤ time) → least ≤ time
    → chosen choice least ≤ time
from_chosen None least time is below = below
from_chosen (Some from) least time is below = is

chosen_from : (choice : Option ℕ) (least time : ℕ) → chosen choice least ≤ time
    → IfSome choice (λ from. from ≤ time)
chosen_from None least time below = tt
chosen_from (Some from) least time below = below

before_chosen : (choice : Option ℕ) (greatest time : ℕ) → IfSome choice (λ to. time < to) → time < greatest
    → time < chosen choice greatest
before_chosen None greatest time is below = below
before_chosen (Some to) greatest time is below = is

chosen_before : (choice : Option ℕ) (greatest time : ℕ) → time < chosen choice greatest
    → IfSome choice (λ to. time < to)
chosen_before None greatest time below = tt
chosen_before (Some to) greatest time below = below

up_to_chosen : (choice : Option ℕ) (greatest channel : ℕ) → IfSome choice (λ channels. channel ≤ channels)
    → channel ≤ greatest → channel ≤ chosen choice greatest
up_to_chosen None greatest channel is below = below
up_to_chosen (Some channels) greatest channel is below = is

chosen_up_to : (choice : Option ℕ) (greatest channel : ℕ) → channel ≤ chosen choice greatest
    → IfSome choice (λ channels. channel ≤ channels)
chosen_up_to None greatest channel below = tt
chosen_up_to (Some channels) greatest channel below = below

lower_chosen : (choice : Option ℕ) (lower channel : ℕ) → lower < channel
    → IfSome choice (λ channels. channel ≤ channels) → IfSome choice (λ channels. lower ≤ channels)
lower_chosen None lower channel less is = tt
lower_chosen (Some channels) lower channel less is = omega (arith, less, is)

-- selected samples outside of the compared range are outside of the range of the events
chosen_outside : (selection : Selection) (events others : List Event) (channel time : ℕ)
    → IsChosen selection channel time → is_inside (compared_in selection events others) channel time ≡ false
    → is_inside (extent_of (events ++ others)) channel time ≡ false
chosen_outside selection events others channel time is none =
    by_test (is_inside (extent_of (events ++ others)) channel time) refl where
      by_test : (x : Bool) → is_inside (extent_of (events ++ others)) channel time ≡ x
          → is_inside (extent_of (events ++ others)) channel time ≡ false
      by_test false there = there
      by_test true there =
          let e = extent_of (events ++ others) in
          let from = from_chosen selection.from e.from time is.begun (grind (arith, nat_tests, there)) in
          let to = before_chosen selection.to e.to time is.before_end (grind (arith, nat_tests, there)) in
          let last = up_to_chosen selection.channels e.channels channel is.to_last (grind (arith, nat_tests, there)) in
          let some : 1 ≤ channel = grind (arith, nat_tests, there) in
          let inside : is_inside (compared_in selection events others) channel time ≡ true =
          grind (arith, nat_tests, from, to, last, some) in
          let wrong : true ≡ false = sym inside ∙ none in
          cc

-- a result for the compared range holds for the whole selection, if both mixes are silent elsewhere
module _ (selection : Selection) (events others : List Event) (mix mixed : ℕ → ℕ → ℤ)
    (silent : (channel time : ℕ) → is_inside (extent_of (events ++ others)) channel time ≡ false
    → mix channel time ≡ pos 0)
    (others_silent : (channel time : ℕ) → is_inside (extent_of (events ++ others)) channel time ≡ false
    → mixed channel time ≡ pos 0)
    (from to channels : ℕ) (begins : from ≡ (compared_in selection events others).from)
    (ends : to ≡ (compared_in selection events others).to)
    (wide : channels ≡ (compared_in selection events others).channels) where
  outside_alike : (channel time : ℕ) → IsChosen selection channel time
      → is_inside (compared_in selection events others) channel time ≡ false → mix channel time ≡ mixed channel time
  outside_alike channel time is none =
      let out = chosen_outside selection events others channel time is none in
      silent channel time out ∙ sym (others_silent channel time out)

  as_extent : (found : Option Difference) → IsCompared from to channels mix mixed found
      → IsCompared (compared_in selection events others).from (compared_in selection events others).to
      (compared_in selection events others).channels mix mixed found
  as_extent found told =
      let e = compared_in selection events others in
      subst (λ (n : ℕ). IsCompared n e.to e.channels mix mixed found) begins
      (subst (λ (n : ℕ). IsCompared from n e.channels mix mixed found) ends
      (subst (λ (n : ℕ). IsCompared from to n mix mixed found) wide told))

  alike_everywhere : AreAlike (compared_in selection events others).from (compared_in selection events others).to
      (compared_in selection events others).channels mix mixed → SoundAlike selection mix mixed
  alike_everywhere alike channel time is =
      by_test (is_inside (compared_in selection events others) channel time) refl where
        by_test : (x : Bool) → is_inside (compared_in selection events others) channel time ≡ x
            → mix channel time ≡ mixed channel time
        by_test true there =
            alike channel time (grind (arith, nat_tests)) (grind (arith, nat_tests)) (grind (arith, nat_tests))
            (grind (arith, nat_tests))
        by_test false there = outside_alike channel time is there

  differ_everywhere : (found : Difference) → DifferFirst (compared_in selection events others).from
      (compared_in selection events others).to (compared_in selection events others).channels mix mixed found
      → DifferAt selection mix mixed found.at found.channel found.first found.second
  differ_everywhere found differs = record {
    is_chosen = is_chosen;
    sum = differs.sum;
    other_sum = differs.other_sum;
    differ = differs.differ;
    before = λ any earlier less is. by_time any earlier less is
        (is_inside (compared_in selection events others) any earlier) refl;
    below = λ lower less. by_channel lower less (nat_le 1 lower) refl;
  } where
    time : ℕ
    time = found.at

    channel : ℕ
    channel = found.channel

    is_chosen : IsChosen selection channel time
    is_chosen = record {
      begun = chosen_from selection.from (extent_of (events ++ others)).from time differs.begun;
      before_end = chosen_before selection.to (extent_of (events ++ others)).to time differs.before_end;
      to_last = chosen_up_to selection.channels (extent_of (events ++ others)).channels channel differs.to_last;
    }

    by_time : (any earlier : ℕ) → earlier < time → IsChosen selection any earlier → (x : Bool)
        → is_inside (compared_in selection events others) any earlier ≡ x → mix any earlier ≡ mixed any earlier
    by_time any earlier less is true there =
        differs.before any earlier (grind (arith, nat_tests)) (grind (arith, nat_tests)) (grind (arith, nat_tests)) less
    by_time any earlier less is false there = outside_alike any earlier is there

    by_channel : (lower : ℕ) → lower < channel → (x : Bool) → nat_le 1 lower ≡ x → mix lower time ≡ mixed lower time
    by_channel lower less true some = differs.below lower (grind (arith, nat_tests)) less
    by_channel lower less false none =
        outside_alike lower time (record {
          begun = is_chosen.begun;
          before_end = is_chosen.before_end;
          to_last = lower_chosen selection.channels lower channel less is_chosen.to_last;
        }) (rw none refl)

  found_alike : (found : Option Difference) → found ≡ None → IsCompared from to channels mix mixed found
      → SoundAlike selection mix mixed
  found_alike found none told =
      let e = compared_in selection events others in
      alike_everywhere (subst (λ (f : Option Difference). IsCompared e.from e.to e.channels mix mixed f) none
      (as_extent found told))

  found_differing : (found : Option Difference) (difference : Difference) → found ≡ Some difference
      → IsCompared from to channels mix mixed found
      → DifferAt selection mix mixed difference.at difference.channel difference.first difference.second
  found_differing found difference some told =
      let e = compared_in selection events others in
      differ_everywhere difference
      (subst (λ (f : Option Difference). IsCompared e.from e.to e.channels mix mixed f) some (as_extent found told))

  found_in_day : (found : Option Difference) (difference : Difference) → found ≡ Some difference
      → IsCompared from to channels mix mixed found → difference.at < to
  found_in_day found difference some told =
      (subst (λ (f : Option Difference). IsCompared from to channels mix mixed f) some told).before_end

-- the result for two projects
module _ (selection : Selection) (files stored : Files) (project other : ListProject) (binding bound : Binding)
    (events others : List Event) (own : events ≡ project.events) (others_own : others ≡ other.events)
    (whole : list_all is_event (events ++ others) ≡ true) (from to channels : ℕ)
    (begins : from ≡ (compared_in selection events others).from) (ends : to ≡ (compared_in selection events others).to)
    (wide : channels ≡ (compared_in selection events others).channels) (found : Option Difference)
    (told : IsCompared from to channels (project_mix files project binding) (project_mix stored other bound) found) where
  silent : (channel time : ℕ) → is_inside (extent_of (events ++ others)) channel time ≡ false
      → project_mix files project binding channel time ≡ pos 0
  silent =
      one_silent files project binding (extent_of (events ++ others)) events own
      (front_lies (extent_of (events ++ others)) events others (both_lie (events ++ others) whole))

  others_silent : (channel time : ℕ) → is_inside (extent_of (events ++ others)) channel time ≡ false
      → project_mix stored other bound channel time ≡ pos 0
  others_silent =
      one_silent stored other bound (extent_of (events ++ others)) others others_own
      (rest_lies (extent_of (events ++ others)) events others (both_lie (events ++ others) whole))

  pub are_alike : found ≡ None → SoundAlike selection (project_mix files project binding) (project_mix stored other bound)
  are_alike none =
      found_alike selection events others (project_mix files project binding) (project_mix stored other bound) silent
      others_silent from to channels begins ends wide found none told

  pub differ : (difference : Difference) → found ≡ Some difference
      → DifferAt selection (project_mix files project binding) (project_mix stored other bound) difference.at
      difference.channel difference.first difference.second × (difference.at < to)
  differ difference some = (
    found_differing selection events others (project_mix files project binding) (project_mix stored other bound) silent
        others_silent from to channels begins ends wide found difference some told,
    found_in_day selection events others (project_mix files project binding) (project_mix stored other bound) silent
        others_silent from to channels begins ends wide found difference some told,
  )
