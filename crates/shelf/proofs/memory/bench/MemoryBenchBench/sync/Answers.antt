use Rattle.shelf.proofs.Changed.{sync_leaves, synced}
use Rattle.shelf.proofs.memory.bench.MemoryBenchBench.sync.Goals as goal

pub returns-in-Ok-note-clause-crash : goal.returns-in-Ok-note-clause-crash
returns-in-Ok-note-clause-crash c = λ d left.
    (synced _ _ _ _ c.begin.ensures.history c.in-Ok-note.ensures.done).crash d left

pub returns-in-Err-note-clause-crash : goal.returns-in-Err-note-clause-crash
returns-in-Err-note-clause-crash c = λ d left. sync_leaves _ _ _ _ c.begin.ensures.history c.note.ensures.change d left
