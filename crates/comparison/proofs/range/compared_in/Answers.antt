use Rattle.std.proofs.Common.{◌≡◌, ◌++◌, arith, rules}
use Rattle.std.specs.Prelude.{max}
use Rattle.list_terms.specs.Accepted.{greatest_of}
use Rattle.comparison.proofs.Events.{all_events, greatest_of-append}
use Rattle.comparison.proofs.range.compared_in.Goals as goal

pub returns-clause-to : goal.returns-clause-to
returns-clause-to c =
    let both = greatest_of-append (λ event. event.dest_out) c.args.first.now.events c.args.second.now.events in
    search (rules, both)

pub returns-clause-channels : goal.returns-clause-channels
returns-clause-channels c =
    let events = c.args.first.now.events in
    let others = c.args.second.now.events in
    let both = greatest_of-append (λ event. event.dest.last) events others in
    let wide : max 1 (greatest_of (λ event. event.dest.last) (events ++ others))
    ≡ max (max 1 (greatest_of (λ event. event.dest.last) events))
    (max 1 (greatest_of (λ event. event.dest.last) others)) =
    omega (arith, both) in
    search (rules, wide)

pub returns-clause-whole : goal.returns-clause-whole
returns-clause-whole c =
    rw (← c.events.ensures.events, ← c.events-2.ensures.events)
    (all_events c.events.result.now c.events-2.result.now c.events.ensures.whole
    c.events-2.ensures.whole)
