use Rattle.std.proofs.Common.{◌≡◌, drop}
use Rattle.list_terms.specs.Accepted.{least_of}
use Rattle.adlmodel.proofs.Ranges.{least_with}
use Rattle.adlmodel.proofs.project.Project.first_in.Given as goal

-- The minimum so far, combined with the remaining events, is the minimum of all.
abbrev pub invariant-loop-event : goal.invariant-loop-event
invariant-loop-event l =
    least_with (λ event. event.dest_in) l.least (drop l.event-index l.others)
    ≡ least_of (λ event. event.dest_in) l.fn.self.events
