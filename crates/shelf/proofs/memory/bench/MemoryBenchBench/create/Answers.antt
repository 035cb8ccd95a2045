use Rattle.std.proofs.Common.{rules}
use Rattle.shelf.specs.Crashes.{has_changed}
use Rattle.shelf.proofs.Changed.{only_writes}
use Rattle.shelf.proofs.memory.bench.MemoryBenchBench.create.Goals as goal

pub returns-in-Ok-clause-crash : goal.returns-in-Ok-clause-crash
returns-in-Ok-clause-crash c = (has_changed _ _ _ c.change.ensures.change.1).crash

pub returns-in-Ok-clause-only_writes : goal.returns-in-Ok-clause-only_writes
returns-in-Ok-clause-only_writes c = only_writes _ _ _ c.change.ensures.change.1 (search rules) (search rules)

pub returns-in-Err-clause-crash : goal.returns-in-Err-clause-crash
returns-in-Err-clause-crash c = (has_changed _ _ _ c.change.ensures.change.1).crash

pub returns-in-Err-clause-only_writes : goal.returns-in-Err-clause-only_writes
returns-in-Err-clause-only_writes c = only_writes _ _ _ c.change.ensures.change.1 (search rules) (search rules)
