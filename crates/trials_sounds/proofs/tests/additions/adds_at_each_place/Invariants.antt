use Rattle.std.proofs.Common.{◌≡◌, ◌≤◌}
use Rattle.trials_sounds.proofs.tests.additions.adds_at_each_place.Given as goal

abbrev pub invariant-loop-length : goal.invariant-loop-length
invariant-loop-length g l = record {
  machine : l.machine ≡ l.fn.machine;
  room : 4 ≤ l.program.room;
}

abbrev pub invariant-loop-at : goal.invariant-loop-at
invariant-loop-at g l = record {
  machine : l.machine ≡ l.fn.machine;
  room : 4 ≤ l.program.room;
}
