use Rattle.std.proofs.Common.{◌≡◌, drop}
use Rattle.list_terms.specs.Accepted.{event_fault}
use Rattle.projectcheck.proofs.checked.check_entries.Given as goal

-- The entries so far have no fault.
abbrev pub invariant-loop-event : goal.invariant-loop-event
invariant-loop-event l = event_fault l.bound (drop l.event-index l.events) ≡ event_fault l.bound l.events
