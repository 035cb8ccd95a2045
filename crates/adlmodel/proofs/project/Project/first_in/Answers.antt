use Rattle.std.proofs.Common.{◌≡◌, ◌∷◌, rules}
use Rattle.adlmodel.proofs.Ranges.{least_of-cons}
use Rattle.adlmodel.proofs.project.Project.first_in.Goals as goal

pub loop-event-init : goal.loop-event-init
loop-event-init c =
    let whole : c.events-events.result.now ≡ c.in-Some.first.now ∷ c.in-Some.others.now =
    search (rules, c.in-Some.ensures.cases) in
    rw (← c.events-events.ensures.events, whole) (least_of-cons (λ event. event.dest_in) c.in-Some.first.now c.in-Some.others.now)
