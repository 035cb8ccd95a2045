use Rattle.std.proofs.Common.{◌≡◌}
use Rattle.surface.proofs.callers.blocks.samples_of.Given as goal

abbrev pub invariant-loop-k : goal.invariant-loop-k
invariant-loop-k g l = (l.machine ≡ l.initial.machine) × (l.program.room ≡ l.initial.program.room)
