use Rattle.std.proofs.Common.{◌≡◌, take}
use Rattle.list_terms.specs.Renewed.{numbered, run_event}
use Rattle.relink.proofs.entries.entries_of.Given as goal

-- The entries of the groups before this position.
abbrev pub invariant-loop-position : goal.invariant-loop-position
invariant-loop-position l = l.events.items ≡ numbered (run_event l.runs.homes l.runs.runs) 1 (take l.position l.groups)
