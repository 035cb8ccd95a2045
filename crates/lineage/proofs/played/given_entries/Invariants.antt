use Rattle.std.proofs.Common.{◌≡◌, take}
use Rattle.lineage.specs.Played.{given_entries}
use Rattle.lineage.proofs.played.given_entries.Given as goal

-- The entries so far.
abbrev pub invariant-loop-event : goal.invariant-loop-event
invariant-loop-event l = l.given.items ≡ given_entries l.bound.indexes (take l.event-index l.events)
