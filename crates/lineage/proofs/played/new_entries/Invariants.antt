use Rattle.std.proofs.Common.{◌≡◌, take}
use Rattle.lineage.specs.Played.{new_entries}
use Rattle.lineage.proofs.played.new_entries.Given as goal

-- The entries so far.
abbrev pub invariant-loop-event : goal.invariant-loop-event
invariant-loop-event l = l.entries.items ≡ new_entries l.runs.homes l.runs.runs (take l.event-index l.events)
