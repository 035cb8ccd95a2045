use Rattle.std.proofs.Common.{◌≡◌}
use Rattle.places.proofs.output.path_of_given.Given as goal

abbrev pub invariant-loop-source : goal.invariant-loop-source
invariant-loop-source g l = l.shelf ≡ l.initial.shelf
