use Rattle.std.proofs.Common.{◌<◌, ◌≤◌, ℕ, length, IsTrue}
use Rattle.devices.specs.Frame.{IsBuilding}
use Rattle.consolidation.specs.Media.{AreKeptFrom, IsLaidOut, IsNoMedium}
use Rattle.consolidation.proofs.plan.Consolidation.lay_out_outputs.Given as goal

-- the media of the runs before the position are laid out, and no other file has changed, nor a later medium
abbrev pub invariant-loop-position : goal.invariant-loop-position
invariant-loop-position g l =
    IsBuilding g.B.Bench (IsNoMedium (length l.self.runs)) l.initial.bench l.bench
    × (IsTrue (g.B.Bench.honest l.initial.bench)
    → (k : ℕ) → k < l.position → IsLaidOut l.self (g.B.Bench.stored l.bench) k)
    × (g.B.Bench.moment l.initial.bench ≤ g.B.Bench.moment l.bench)
    × (IsTrue (g.B.Bench.honest l.initial.bench)
    → AreKeptFrom l.self l.position (g.B.Bench.stored l.initial.bench) (g.B.Bench.stored l.bench))
