use Rattle.std.proofs.Common.{◌≡◌, ◌∙◌, ◌+◌, ◌∷◌, ◌++◌, [], Some, add-one, ap, length, refl, sym, take, take-suc}
use Rattle.std.specs.List.{slice_get}
use Rattle.std.proofs.lemmas.Option.{slice_get_read}
use Rattle.list_terms.specs.Project.{ListProject}
use Rattle.interval.proofs.InTurn.{one_more}
use Rattle.interval.proofs.Playable.{no_entry_fault}
use Rattle.interval.proofs.sound.groups_of.Goals as goal

pub push_entry-requires-clause-faultless : goal.push_entry-requires-clause-faultless
push_entry-requires-clause-faultless c =
    let checked = c.args.checked.now in
    let items = c.events-event-items.result.now in
    let i = c.loop-event.event-index in
    let event = c.event-item.result in
    let listed = c.events-event-items.ensures.events ∙ ap (λ (p : ListProject). p.events) c.project-2.ensures.lent in
    let there : slice_get items i ≡ Some event =
    slice_get_read items (length items) i event refl c.loop-event-test.true c.event-item.is in
    rw c.bound-bound.ensures (no_entry_fault checked.bound checked.project.events i event c.project-2.ensures.accepted
    (ap (λ l. slice_get l i) (sym listed) ∙ there))

pub loop-event-preserved : goal.loop-event-preserved
loop-event-preserved c =
    let checked = c.args.checked.now in
    let items = c.events-event-items.result.now in
    let i = c.loop-event.event-index in
    let event = c.event-item.result in
    let here : take (i + 1) items ≡ take i items ++ event ∷ [] =
    ap (λ n. take n items) (add-one i) ∙ take-suc items i event c.loop-event-test.true
    ∙ ap (λ e. take i items ++ e ∷ []) (sym c.event-item.is) in
    let own = rw c.bound-bound.ensures at c.in_ok-push_entry.ensures.sound in
    let pushed = rw c.bound-bound.ensures at c.in_ok-push_entry.ensures.pushed in
    record {
      sound = rw here (one_more checked.bound (take i items)
          event c.loop-event.groups.items c.push_entry.new.groups.items c.loop-event.invariant.sound own pushed);
      formed = c.in_ok-push_entry.ensures.formed c.loop-event.invariant.formed;
    }
