use Rattle.rendering.proofs.Cuts.{IsCutSoFar}
use Rattle.rendering.proofs.job_length.stretches_of.Given as goal

abbrev pub invariant-loop-i : goal.invariant-loop-i
invariant-loop-i l = IsCutSoFar l.marked l.most l.together l.first l.i l.done l.stretches.items
