-- Minimum and maximum over the events of two projects.
use Rattle.std.proofs.Common.{◌≡◌, ℕ, true, false, List, [], ◌∷◌, ◌++◌, length, refl, sym, arith}
use Rattle.std.specs.Prelude.{◌==◌, max, min}
use Rattle.std.specs.List.{list_all}
use Rattle.facts.specs.Tests.{and_left, and_right}
use Rattle.sound_terms.specs.declared.Event.{Event}
use Rattle.list_terms.specs.Accepted.{greatest_of, least_of}
use Rattle.list_terms.specs.WholeProject.{is_event}

-- minimum and maximum over two lists
least_of-append : (f : Event → ℕ) (event : Event) (events : List Event) (other : Event) (others : List Event)
    → least_of f ((event ∷ events) ++ (other ∷ others))
    ≡ min (least_of f (event ∷ events)) (least_of f (other ∷ others))
least_of-append f event [] other others = refl
least_of-append f event (next ∷ events) other others =
    let rest = least_of-append f next events other others in omega (arith, rest)

-- minimum over two non-empty lists
pub least_of-both : (f : Event → ℕ) (events others : List Event) → (length events == 0) ≡ false
    → (length others == 0) ≡ false → least_of f (events ++ others) ≡ min (least_of f events) (least_of f others)
least_of-both f [] others some more = let wrong : true ≡ false = some in cc
least_of-both f (event ∷ events) [] some more = let wrong : true ≡ false = more in cc
least_of-both f (event ∷ events) (other ∷ others) some more = least_of-append f event events other others

pub greatest_of-append : (f : Event → ℕ) (events others : List Event)
    → greatest_of f (events ++ others) ≡ max (greatest_of f events) (greatest_of f others)
greatest_of-append f [] others =
    let zero : max 0 (greatest_of f others) ≡ greatest_of f others = omega arith in sym zero
greatest_of-append f (event ∷ events) others =
    let rest = greatest_of-append f events others in omega (arith, rest)

-- all events of two lists are valid
pub all_events : (events others : List Event) → list_all is_event events ≡ true → list_all is_event others ≡ true
    → list_all is_event (events ++ others) ≡ true
all_events [] others whole others_whole = others_whole
all_events (event ∷ events) others whole others_whole =
    let first = and_left (is_event event) (list_all is_event events) whole in
    let rest = all_events events others (and_right (is_event event) (list_all is_event events) whole) others_whole in
    rw (first, rest) refl
