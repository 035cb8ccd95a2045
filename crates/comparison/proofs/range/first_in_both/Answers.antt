use Rattle.std.proofs.Common.{◌≡◌, ◌∙◌, ◌++◌, sym, rules}
use Rattle.std.specs.Prelude.{min}
use Rattle.list_terms.specs.Accepted.{least_of}
use Rattle.comparison.proofs.Events.{least_of-both}
use Rattle.comparison.proofs.range.first_in_both.Goals as goal

pub returns-else-is_empty-2 : goal.returns-else-is_empty-2
returns-else-is_empty-2 c =
    let events = c.args.first.now.events in
    let others = c.args.second.now.events in
    let both : least_of (λ event. event.dest_in) (events ++ others)
    ≡ min (least_of (λ event. event.dest_in) events) (least_of (λ event. event.dest_in) others) =
    rw (← c.events-events.ensures.events, ← c.events-others.ensures.events)
    (least_of-both (λ event. event.dest_in) c.events-events.result.now c.events-others.result.now
    (sym c.is_empty.ensures ∙ c.if-is_empty.false) (sym c.is_empty-else-is_empty.ensures ∙ c.if-is_empty-2.false)) in
    search (rules, both)
