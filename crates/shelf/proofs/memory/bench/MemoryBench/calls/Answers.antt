use Rattle.shelf.specs.Crashes.{all_left}
use Rattle.shelf.specs.Memory.{bench_history}
use Rattle.shelf.proofs.memory.bench.MemoryBench.calls.Goals as goal

pub returns-clause-all : goal.returns-clause-all
returns-clause-all c = λ note. all_left note (bench_history c.args.self.now)
