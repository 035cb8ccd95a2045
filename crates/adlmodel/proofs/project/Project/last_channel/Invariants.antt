use Rattle.std.proofs.Common.{◌≡◌, ◌≤◌, drop, true}
use Rattle.std.specs.Prelude.{max}
use Rattle.std.specs.List.{list_all}
use Rattle.list_terms.specs.Accepted.{greatest_of}
use Rattle.list_terms.specs.WholeProject.{is_event}
use Rattle.adlmodel.proofs.project.Project.last_channel.Given as goal

-- The maximum so far, combined with the remaining events, is the maximum of all.
abbrev pub invariant-loop-event : goal.invariant-loop-event
invariant-loop-event l =
    (max l.greatest (greatest_of (λ event. event.dest.last) (drop l.event-index l.events))
    ≡ max 1 (greatest_of (λ event. event.dest.last) l.events))
    × (l.greatest ≤ 64)
    × (list_all is_event (drop l.event-index l.events) ≡ true)
