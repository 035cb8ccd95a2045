use Rattle.consolidation.proofs.Jobwise.{AreEndsSoFar}
use Rattle.consolidation.proofs.media.ends_of.Given as goal

abbrev pub invariant-loop-run : goal.invariant-loop-run
invariant-loop-run l = AreEndsSoFar l.list l.run-index l.end l.ends.items
