use Rattle.std.proofs.Common.{ℕ, ◌<◌, ◌≤◌}
use Rattle.execution.proofs.calls.most_bytes.Given as goal

-- the jobs so far fit
abbrev pub invariant-loop-job : goal.invariant-loop-job
invariant-loop-job g l = (k : ℕ) → k < l.job → ((g.W.JobMaker.plan l.work).jobs).size k ≤ l.most
