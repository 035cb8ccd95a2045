use Rattle.execution.specs.Marking.{done_of}
use Rattle.execution.specs.Together.{with_done}
use Rattle.execution.proofs.Together.{DoneSoFar}
use Rattle.execution.proofs.steps.is_last.Given as goal

abbrev pub invariant-loop-other : goal.invariant-loop-other
invariant-loop-other g l = DoneSoFar (g.W.JobMaker.plan l.maker).group (with_done (done_of l.board) l.job) l.job l.other
