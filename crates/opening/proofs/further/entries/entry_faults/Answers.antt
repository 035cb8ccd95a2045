use Rattle.std.proofs.Common.{◌≡◌, ◌∙◌, ◌+◌, ◌∷◌, ◌++◌, [], None, Some, add-one, ap, sym, take, take-suc}
use Rattle.std.proofs.lemmas.List.{append-nil}
use Rattle.opening.proofs.MoreTold.{none_further, one_more_entry}
use Rattle.opening.proofs.further.entries.entry_faults.Goals as goal
use Rattle.opening.proofs.further.entries.entry_faults.Goals.{in-Some+in_ok-push, in_default}

pub loop-event-preserved : goal.loop-event-preserved
loop-event-preserved c =
    let i = c.loop-event.event-index in
    let events = c.args.events.now in
    let event = c.event-item.result in
    let before = take i events in
    let here : take (i + 1) events ≡ before ++ event ∷ [] =
    ap (λ n. take n events) (add-one i) ∙ take-suc events i event c.loop-event-test.true
    ∙ ap (λ e. before ++ e ∷ []) (sym c.event-item.is) in (
      rw here (elim c.match-entry_fault.branch [
        | in-Some+in_ok-push w ↦ rw (w.faults-is, w.in_ok-push.ensures.items)
            (one_more_entry c.args.bound.now c.args.reported before event c.loop-event.faults.items
            (Some w.in-Some.fault) c.loop-event.invariant.0 w.in-Some.ensures.beside)
        | in_default w ↦ rw (w.faults-is, sym (append-nil c.loop-event.faults.items))
            (one_more_entry c.args.bound.now c.args.reported before event c.loop-event.faults.items None
            c.loop-event.invariant.0 w.in_default.ensures.beside)
      ]),
      elim c.match-entry_fault.branch [
        | in-Some+in_ok-push w ↦ rw (w.faults-is, w.in_ok-push.ensures.items)
            (none_further c.loop-event.faults.items (w.in-Some.fault ∷ []) c.loop-event.invariant.1 w.in-Some.ensures.devices)
        | in_default w ↦ rw w.faults-is c.loop-event.invariant.1
      ],
    )
