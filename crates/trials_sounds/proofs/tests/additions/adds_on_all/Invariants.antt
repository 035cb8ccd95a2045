use Rattle.std.proofs.Common.{◌≡◌, ◌≤◌}
use Rattle.trials_sounds.proofs.tests.additions.adds_on_all.Given as goal

abbrev pub invariant-loop-way : goal.invariant-loop-way
invariant-loop-way g l = record {
  machine : l.machine ≡ record { frames = 83; channels = 2 };
  room : 4 ≤ l.program.room;
}
