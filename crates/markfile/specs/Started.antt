-- Possible contents of the marks after a crash, while a run starts them and while it sets them.
use Rattle.std.specs.Prelude.{◌≡◌, ◌≢◌, ℕ, ◌<◌, ◌≤◌, Bool, true, false, ◌&&◌, ◌==◌, nat_le, Option, None, Some, List, length, slice_index_or}
use Rattle.work_terms.specs.Disk.{Files, Changes, IsBeside}
use Rattle.devices.specs.declared.bench.Bench.{Ghosts}
use Rattle.markfile.specs.declared.run.RunId.{RunId}
use Rattle.markfile.specs.Format.{AreMarksOf, fresh_marks, is_marked, marks_name}

-- the marks are started: the front is complete and the gate is open
abbrev pub is_started : Option (List ℕ) → Bool
is_started None = false
is_started (Some marks) = nat_le 44 (length marks) && (slice_index_or marks 0 0 == 1)

-- no crash leaves started marks
abbrev pub NoneStarted : (Files → Type 0) → Type 0
NoneStarted outcomes = (c : Files) → outcomes c → is_started (c marks_name) ≡ false

-- an earlier crash outcome with the marks changed by the step
abbrev pub IsAfter : (Files → Type 0) → (Option (List ℕ) → Option (List ℕ) → Type 0) → Files → Type 0
IsAfter outcomes step c = (d : Files) × outcomes d × Changes step marks_name d c

-- reads return these marks, and a crash leaves them unchanged
pub record Holds {B : Type 0} (bench : Ghosts B) (marks : List ℕ) (now : B) : Type 0 where
  pub reads : bench.stored now marks_name ≡ Some marks
  pub lasts : (c : Files) → bench.may_leave now c → c marks_name ≡ Some marks

-- the marks are not started; all other files are as a crash could have left them before
pub record LeavesUnstarted (outcomes : Files → Type 0) (c : Files) : Type 0 where
  pub beside : IsBeside outcomes marks_name c
  pub unstarted : is_started (c marks_name) ≡ false

-- started marks are those of the new run; all other files are as a crash could have left them before
pub record LeavesStart (run : RunId) (outcomes : Files → Type 0) (c : Files) : Type 0 where
  pub beside : IsBeside outcomes marks_name c
  pub fresh : is_started (c marks_name) ≡ true → c marks_name ≡ Some (fresh_marks run)

-- the marks of blocks from `from` up to but not including `behind` are set, and all others are unchanged
pub record AreSet (run : RunId) (from behind : ℕ) (old new : List ℕ) : Type 0 where
  pub ours : AreMarksOf run new
  pub set : (k : ℕ) → from ≤ k → k < behind → is_marked new k ≡ true
  pub others : (k : ℕ) → (from ≤ k → k < behind → ⊥) → is_marked new k ≡ is_marked old k

-- while these marks are being set: the marks belong to the run and all others are unchanged; all other files are as a
-- crash could have left them before
pub record LeavesMarks (run : RunId) (from behind : ℕ) (old : List ℕ) (outcomes : Files → Type 0) (c : Files) : Type 0
  where
    pub beside : IsBeside outcomes marks_name c
    pub marks : List ℕ
    pub there : c marks_name ≡ Some marks
    pub ours : AreMarksOf run marks
    pub others : (k : ℕ) → (from ≤ k → k < behind → ⊥) → is_marked marks k ≡ is_marked old k

-- the mark of this block is set, and all others are unchanged
pub record IsSet (run : RunId) (block : ℕ) (old new : List ℕ) : Type 0 where
  pub ours : AreMarksOf run new
  pub set : is_marked new block ≡ true
  pub others : (k : ℕ) → k ≢ block → is_marked new k ≡ is_marked old k

-- while this mark is being set: the marks belong to the run and all others are unchanged; all other files are as a
-- crash could have left them before
pub record LeavesMark (run : RunId) (block : ℕ) (old : List ℕ) (outcomes : Files → Type 0) (c : Files) : Type 0 where
  pub beside : IsBeside outcomes marks_name c
  pub marks : List ℕ
  pub there : c marks_name ≡ Some marks
  pub ours : AreMarksOf run marks
  pub others : (k : ℕ) → k ≢ block → is_marked marks k ≡ is_marked old k

-- the marks belong to the run, and a crash leaves them unchanged
pub record Lasts {B : Type 0} (bench : Ghosts B) (run : RunId) (marks : List ℕ) (now : B) : Type 0 where
  pub ours : AreMarksOf run marks
  pub kept : (c : Files) → bench.may_leave now c → c marks_name ≡ Some marks
