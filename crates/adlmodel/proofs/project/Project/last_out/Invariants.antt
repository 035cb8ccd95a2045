use Rattle.std.proofs.Common.{◌≡◌, drop}
use Rattle.std.specs.Prelude.{max}
use Rattle.list_terms.specs.Accepted.{greatest_of}
use Rattle.adlmodel.proofs.project.Project.last_out.Given as goal

-- The maximum so far, combined with the remaining events, is the maximum of all.
abbrev pub invariant-loop-event : goal.invariant-loop-event
invariant-loop-event l =
    max l.greatest (greatest_of (λ event. event.dest_out) (drop l.event-index l.events))
    ≡ greatest_of (λ event. event.dest_out) l.events
