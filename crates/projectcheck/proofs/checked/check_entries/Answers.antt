use Rattle.std.proofs.Common.{◌≡◌, ℕ, ◌∷◌, ◌+◌, ◌∙◌, List, Option, Some, add-one, ap, drop, drop-cons, option_map, sym}
use Rattle.sound_terms.specs.declared.Event.{Event}
use Rattle.work_terms.specs.Refusals.{IsDue, Refusal}
use Rattle.list_terms.specs.Binding.{Binding}
use Rattle.list_terms.specs.Accepted.{entry_fault, entry_refusal, event_fault, first_fault}
use Rattle.projectcheck.specs.declared.fault.EntryFault.{EntryFault}
use Rattle.projectcheck.specs.declared.fault.EntryFault.TheVariants.{UnknownIndex, EndBeforeStart, FadesTooLong, SourceChannel, SpanOutside}
use Rattle.projectcheck.specs.Fault.{number_of, refusal_of}
use Rattle.projectcheck.proofs.checked.check_entries.Goals as goal

-- No fault of an entry is an out-of-memory or device failure.
is_due : (entry : ℕ) (fault : EntryFault) (due : Option Refusal)
    → due ≡ Some (refusal_of (record { entry = entry; fault = fault }))
    → IsDue (refusal_of (record { entry = entry; fault = fault })) due
is_due entry UnknownIndex due same = same
is_due entry EndBeforeStart due same = same
is_due entry FadesTooLong due same = same
is_due entry SourceChannel due same = same
is_due entry SpanOutside due same = same

-- A fault of the first entry is the first fault.
fault_here : (binding : Binding) (event : Event) (events : List Event) (number : ℕ)
    → entry_fault binding event ≡ Some number
    → event_fault binding (event ∷ events) ≡ Some (entry_refusal event number)
fault_here binding event events number fault =
    ap (λ o. first_fault (option_map (entry_refusal event) o) (event_fault binding events)) fault

pub returns-in-Some : goal.returns-in-Some
returns-in-Some c =
    let bound = c.args.bound.now in
    let events = c.args.events.now in
    let event = c.event-item.result in
    let i = c.loop-event.event-index in
    let here : drop i events ≡ event ∷ drop (i + 1) events =
    rw (add-one, c.event-item.is) (drop-cons events i event c.loop-event-test.true) in
    let fault : entry_fault bound event ≡ Some (number_of c.in-Some.fault) =
    sym c.fault_of.ensures ∙ ap (option_map number_of) c.in-Some.is in
    is_due event.number c.in-Some.fault (event_fault bound events)
    (sym c.loop-event.invariant ∙ ap (event_fault bound) here ∙ fault_here bound event (drop (i + 1) events) _ fault)
