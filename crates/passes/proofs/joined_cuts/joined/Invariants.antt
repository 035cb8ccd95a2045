use Rattle.std.proofs.Common.{length}
use Rattle.sound_terms.specs.Passes.{join_cuts, put_joined}
use Rattle.passes.specs.Ends.{flat_end}
use Rattle.passes.specs.Output.{IsPuttingOut}
use Rattle.passes.proofs.joined_cuts.joined.Given as goal

abbrev pub invariant-loop-group : goal.invariant-loop-group
invariant-loop-group l = IsPuttingOut put_joined flat_end (join_cuts l.fn.intervals) l.output l.waiting

abbrev pub decreases-loop-group : goal.decreases-loop-group
decreases-loop-group l = length l.waiting
