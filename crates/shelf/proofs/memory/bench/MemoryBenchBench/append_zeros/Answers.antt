use Rattle.std.proofs.Common.{◌≡◌, ◌∙◌, ◌≤◌, ℕ, true, false, List, [], length, replicate, Option, Some, None, Result, Ok, Err, IsOk, IsErr, refl, sym, ap, inl, arith}
use Rattle.std.specs.Prelude.{⊤}
use Rattle.std.proofs.lemmas.List.{append-nil}
use Rattle.work_terms.specs.Disk.{HasCause, IsGrown, end_of}
use Rattle.devices.specs.Frame.{Appends}
use Rattle.devices.specs.declared.bench.Bench.{Ghosts}
use Rattle.devices.specs.declared.fault.DeviceFault.{DeviceFault}
use Rattle.devices.specs.AppendLaws.{at_once, said}
use Rattle.shelf.specs.declared.memory.bench.MemoryBench.{MemoryBench}
use Rattle.shelf.specs.declared.memory.call.Kind.TheVariants.{Append}
use Rattle.shelf.specs.Crashes.{has_changed, only_now}
use Rattle.shelf.specs.History.{History, LeftSince, MayLeave, Note, read_of}
use Rattle.shelf.specs.Memory.{bench_failures, bench_files, bench_history}
use Rattle.shelf.proofs.memory.bench.MemoryBenchBench.append_zeros.Goals as goal

abbrev memory : Ghosts MemoryBench
memory = record {
  stored = bench_files;
  honest = λ _. true;
  failures = bench_failures;
  failed_at = λ _ _. ⊤;
  may_leave = λ bench. MayLeave (bench_history bench);
  moment = λ bench. length (bench_history bench).notes;
  left_since = λ bench. LeftSince (bench_history bench).start (bench_history bench).notes;
}

no_error : false ≡ true → ⊥
no_error same = cc

grown_none : (n : ℕ) (old new : Option (List ℕ)) → new ≡ old → IsGrown n old new
grown_none n None new same = same
grown_none n (Some file) new same =
    let none : 0 ≤ n = omega arith in (file, same, ([], none, sym (append-nil file)))

module _ (name text : List ℕ) (old new : MemoryBench) where
  -- a call that fails without writing
  untouched : (result : Result ⊤ DeviceFault) → bench_history new ≡ bench_history old → IsErr result
      → HasCause (bench_failures old) (bench_failures new) (IsOk result) (IsErr result)
      → Appends memory name text old new result
  untouched (Ok done) same failed cause = absurd (no_error failed)
  untouched (Err fault) same failed cause =
      let note : Note = record { name = name; kind = Append; at = end_of (bench_files old name); bytes = text; part = 0 } in
      let left = has_changed note (bench_history old) (bench_history new) (inl same) in
      let files : (n : List ℕ) → bench_files new n ≡ bench_files old n = λ n. ap (λ (h : History). read_of h n) same in
      at_once memory name text old new (Err fault) (only_now (bench_history old).start (bench_history old).notes)
      (λ honest. tt) (λ honest. record {
        here = grown_none (length text) (bench_files old name) (bench_files new name) (files name);
        others = λ n away. files n;
      }) left.crash left.time (record {
        others = λ honest. left.others;
        durable = λ honest. left.durable;
        honest_same = refl;
        cause = record { later = cause.later; left = λ quiet. absurd (quiet tt); rose = λ device. cause.rose failed };
        keeps = λ n was. was;
        failed_there = λ device. tt;
      })

pub returns-in_default-clause-appends : goal.returns-in_default-clause-appends
returns-in_default-clause-appends c = untouched c.args.name.now (replicate c.args.count 0) c.args.self.now c.refused.new.self c.refused.result
    c.refused.ensures.history c.refused.ensures.fails c.refused.ensures.cause

pub returns-in-Ok-append-clause-appends : goal.returns-in-Ok-append-clause-appends
returns-in-Ok-append-clause-appends c =
    let sent = c.in-Ok-append.ensures in
    said memory c.args.name.now (c.deref.ensures.value ∙ c.in-Ok.ensures)
    (at_once memory c.args.name.now _ c.args.self.now c.append.new.self _
    (only_now (bench_history c.args.self.now).start (bench_history c.args.self.now).notes)
    sent.appended sent.grown sent.crash sent.time sent.only_writes)

pub returns-in-Err-clause-appends : goal.returns-in-Err-clause-appends
returns-in-Err-clause-appends c =
    let sent = c.in-Err.ensures in
    said memory c.args.name.now (c.deref.ensures.value ∙ c.in-Ok.ensures)
    (at_once memory c.args.name.now _ c.args.self.now c.append.new.self _
    (only_now (bench_history c.args.self.now).start (bench_history c.args.self.now).notes)
    sent.appended sent.grown sent.crash sent.time sent.only_writes)
