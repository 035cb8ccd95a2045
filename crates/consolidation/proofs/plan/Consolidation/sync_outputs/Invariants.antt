use Rattle.std.proofs.Common.{◌+◌, ◌<◌, ◌≤◌, ℕ, IsTrue}
use Rattle.work_terms.specs.Disk.{Files, IsDurable, IsKept}
use Rattle.list_terms.specs.Renewed.{media_name}
use Rattle.consolidation.proofs.plan.Consolidation.sync_outputs.Given as goal

-- the media of the runs before the position are durable, and nothing is written
abbrev pub invariant-loop-position : goal.invariant-loop-position
invariant-loop-position g l =
    IsKept g.B.Bench.stored g.B.Bench.honest g.B.Bench.failures g.B.Bench.failed_at l.initial.bench l.bench
    × ((c : Files) → g.B.Bench.may_leave l.bench c → g.B.Bench.may_leave l.initial.bench c)
    × (IsTrue (g.B.Bench.honest l.initial.bench) → (k : ℕ) → k < l.position
    → IsDurable (media_name (k + 1)) (g.B.Bench.stored l.bench) (g.B.Bench.may_leave l.bench))
    × (g.B.Bench.moment l.initial.bench ≤ g.B.Bench.moment l.bench)
