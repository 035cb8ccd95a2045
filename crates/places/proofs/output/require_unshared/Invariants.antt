use Rattle.std.proofs.Common.{◌≡◌}
use Rattle.places.proofs.output.require_unshared.Given as goal

abbrev pub invariant-loop-name : goal.invariant-loop-name
invariant-loop-name g l = (l.err ≡ l.initial.err) × (l.shelf ≡ l.initial.shelf)
