use Rattle.std.proofs.Common.{◌≡◌, take}
use Rattle.list_terms.specs.Renewed.{numbered, run_source}
use Rattle.relink.proofs.indexes.indexes_of.Given as goal

-- The indexes of the runs before this position.
abbrev pub invariant-loop-position : goal.invariant-loop-position
invariant-loop-position l = l.sources ≡ numbered (run_source l.homes) 1 (take l.position l.list)
