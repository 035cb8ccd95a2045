-- The mark of a single block as a range of one.
use Rattle.std.proofs.Common.{◌+◌, ℕ, Result, Ok, Err, List, arith}
use Rattle.std.specs.Prelude.{OnOk}
use Rattle.work_terms.specs.Disk.{Files}
use Rattle.devices.specs.declared.bench.Bench.{Ghosts}
use Rattle.markfile.specs.declared.run.RunId.{RunId}
use Rattle.markfile.specs.Started.{AreSet, IsSet, Lasts, LeavesMark, LeavesMarks}

set_one : (run : RunId) (block : ℕ) (old new : List ℕ) → AreSet run block (block + 1) old new
    → IsSet run block old new
set_one run block old new row = record {
  ours = row.ours;
  set = row.set block (omega arith) (omega arith);
  others = λ k other. row.others k (λ from to. other (omega (arith, from, to)));
}

pub answers_one : {B X E : Type 0} (bench : Ghosts B) (run : RunId) (block : ℕ) (old : List ℕ) (now : B)
    (result : Result X E)
    → OnOk result ((new : List ℕ) × AreSet run block (block + 1) old new × Lasts bench run new now)
    → OnOk result ((new : List ℕ) × IsSet run block old new × Lasts bench run new now)
answers_one bench run block old now (Ok x) set = (set.0, set_one run block old set.0 set.1, set.2)
answers_one bench run block old now (Err fault) set = tt

pub leaves_one : (run : RunId) (block : ℕ) (old : List ℕ) (outcomes : Files → Type 0) (c : Files)
    → LeavesMarks run block (block + 1) old outcomes c → LeavesMark run block old outcomes c
leaves_one run block old outcomes c row = record {
  beside = row.beside;
  marks = row.marks;
  there = row.there;
  ours = row.ours;
  others = λ k other. row.others k (λ from to. other (omega (arith, from, to)));
}
