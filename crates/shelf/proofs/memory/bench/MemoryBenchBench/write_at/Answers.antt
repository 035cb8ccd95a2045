use Rattle.std.proofs.Common.{rules, inl}
use Rattle.shelf.specs.declared.memory.call.Kind.TheVariants.{Write}
use Rattle.shelf.specs.Crashes.{has_changed}
use Rattle.shelf.proofs.Changed.{only_writes, steps, written}
use Rattle.shelf.proofs.memory.bench.MemoryBenchBench.write_at.Goals as goal

pub returns-then-not-has_range-clause-crash : goal.returns-then-not-has_range-clause-crash
returns-then-not-has_range-clause-crash c =
    (has_changed (record {
      name = c.args.name.now;
      kind = Write;
      at = c.args.at;
      bytes = c.args.bytes.now;
      part = 0;
    }) _ _ (inl c.refused.ensures.history)).crash

pub returns-in-Ok-clause-written : goal.returns-in-Ok-clause-written
returns-in-Ok-clause-written c = λ honest. written _ _ _ _ _ (c.has_range.ensures (search rules)) c.in-Ok.ensures.done

pub returns-in-Ok-clause-crash : goal.returns-in-Ok-clause-crash
returns-in-Ok-clause-crash c = (has_changed _ _ _ c.change.ensures.change.1).crash

pub returns-in-Ok-clause-only_writes : goal.returns-in-Ok-clause-only_writes
returns-in-Ok-clause-only_writes c = only_writes _ _ _ c.change.ensures.change.1 (search rules) (search rules)

pub returns-in-Err-clause-torn : goal.returns-in-Err-clause-torn
returns-in-Err-clause-torn c = λ honest. steps _ _ _ c.change.ensures.change.1

pub returns-in-Err-clause-crash : goal.returns-in-Err-clause-crash
returns-in-Err-clause-crash c = (has_changed _ _ _ c.change.ensures.change.1).crash

pub returns-in-Err-clause-only_writes : goal.returns-in-Err-clause-only_writes
returns-in-Err-clause-only_writes c = only_writes _ _ _ c.change.ensures.change.1 (search rules) (search rules)
