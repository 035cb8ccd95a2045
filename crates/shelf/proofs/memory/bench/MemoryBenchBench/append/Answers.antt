use Rattle.std.proofs.Common.{rules, inl}
use Rattle.work_terms.specs.Disk.{end_of}
use Rattle.shelf.specs.declared.memory.call.Kind.TheVariants.{Append}
use Rattle.shelf.specs.Crashes.{has_changed}
use Rattle.shelf.specs.Memory.{bench_files}
use Rattle.shelf.proofs.Changed.{append_follows, appended, grown, only_writes}
use Rattle.shelf.proofs.memory.bench.MemoryBenchBench.append.Goals as goal

pub returns-in_default-clause-crash : goal.returns-in_default-clause-crash
returns-in_default-clause-crash c =
    (has_changed (record {
      name = c.args.name.now;
      kind = Append;
      at = end_of (bench_files c.args.self.now c.args.name.now);
      bytes = c.args.bytes.now;
      part = 0;
    }) _ _ (inl c.refused.ensures.history)).crash

pub returns-in-Ok-clause-appended : goal.returns-in-Ok-clause-appended
returns-in-Ok-clause-appended c = λ honest. appended _ _ _ _ _ c.in-Some.ensures c.in-Ok.ensures.done

pub returns-in-Ok-clause-crash : goal.returns-in-Ok-clause-crash
returns-in-Ok-clause-crash c = append_follows _ _ _ _ _ c.in-Some.ensures _ c.change.ensures.change.1

pub returns-in-Ok-clause-only_writes : goal.returns-in-Ok-clause-only_writes
returns-in-Ok-clause-only_writes c = only_writes _ _ _ c.change.ensures.change.1 (search rules) (search rules)

pub returns-in-Err-clause-grown : goal.returns-in-Err-clause-grown
returns-in-Err-clause-grown c = λ honest. grown _ _ _ _ _ c.in-Some.ensures _ c.change.ensures.change.1

pub returns-in-Err-clause-crash : goal.returns-in-Err-clause-crash
returns-in-Err-clause-crash c = append_follows _ _ _ _ _ c.in-Some.ensures _ c.change.ensures.change.1

pub returns-in-Err-clause-only_writes : goal.returns-in-Err-clause-only_writes
returns-in-Err-clause-only_writes c = only_writes _ _ _ c.change.ensures.change.1 (search rules) (search rules)
