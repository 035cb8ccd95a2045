use Rattle.shelf.specs.Memory.{bench_history}
use Rattle.shelf.proofs.Replayed.{leaves_outcome, leaves_settled, leaves_start}
use Rattle.shelf.proofs.memory.bench.MemoryBench.after_crash.Goals as goal

pub returns-clause-left : goal.returns-clause-left
returns-clause-left c = leaves_start _ _ c.in_ok-after_crash.ensures.none c.args.kept c.args.fill (bench_history c.args.self) c.in_ok-after_crash.ensures.left

pub returns-clause-outcome : goal.returns-clause-outcome
returns-clause-outcome c = leaves_outcome _ _ c.in_ok-after_crash.ensures.none c.args.kept c.args.fill (bench_history c.args.self) c.in_ok-after_crash.ensures.left

pub returns-clause-settled : goal.returns-clause-settled
returns-clause-settled c = leaves_settled _ _ c.in_ok-after_crash.ensures.none
