use Rattle.std.proofs.Common.{length}
use Rattle.sound_terms.specs.Passes.{put_grouped, regroup}
use Rattle.passes.specs.Ends.{group_end}
use Rattle.passes.specs.Output.{IsPuttingOut}
use Rattle.passes.proofs.regroup.grouped.Given as goal

abbrev pub invariant-loop-group : goal.invariant-loop-group
invariant-loop-group l = IsPuttingOut put_grouped group_end (regroup l.fn.intervals) l.output l.waiting

abbrev pub decreases-loop-group : goal.decreases-loop-group
decreases-loop-group l = length l.waiting
