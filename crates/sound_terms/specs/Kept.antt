-- Kept sample frames of the files: those that are played, those close to them, and their runs.
use Rattle.std.specs.Prelude.{◌≡◌, ℕ, ◌+◌, ◌-◌, ◌<◌, ◌≤◌, ◌==◌, ◌&&◌, ◌||◌, nat_lt, nat_le, Bool, true, false, List, All, Some, Contains, slice_get}
use Rattle.std.specs.List.{list_any}
use Rattle.sound_terms.specs.declared.piece.Piece.{Piece}
use Rattle.sound_terms.specs.declared.piece.Run.{Run}

-- the sample frame is at most `handle` sample frames away from one that the piece plays
abbrev pub is_near : ℕ → ℕ → ℕ → Piece → Bool
is_near handle file frame p =
    p.file == file && (nat_lt 0 p.length && (nat_le p.frame (frame + handle)
    && nat_lt frame (p.frame + p.length + handle)))

-- the sample frame is addressable by the home index of its file, and near one that is played
abbrev pub is_kept : List Piece → (ℕ → ℕ) → ℕ → ℕ → ℕ → Bool
is_kept pieces addressable handle file frame =
    nat_lt frame (addressable file) && list_any (is_near handle file frame) pieces

-- all sample frames of the run are kept, and those next to it are not
pub record IsMaximal (kept : ℕ → ℕ → Bool) (run : Run) : Type 0 where
  pub some : 0 < run.length
  pub inside : (i : ℕ) → i < run.length → kept run.file (run.first + i) ≡ true
  pub before : 0 < run.first → kept run.file (run.first - 1) ≡ false
  pub behind : kept run.file (run.first + run.length) ≡ false

-- order by home index, then by first sample frame
abbrev pub comes_before : (ℕ → ℕ) → Run → Run → Bool
comes_before home a b = nat_lt (home a.file) (home b.file) || (home a.file == home b.file && nat_lt a.first b.first)

-- the run contains this sample frame of this file
pub record HasFrame (file frame : ℕ) (run : Run) : Type 0 where
  pub same_file : run.file ≡ file
  pub from : run.first ≤ frame
  pub to : frame < run.first + run.length

-- the maximal runs of kept sample frames, each once, ordered by home index, then by first sample frame
pub record AreRuns (kept : ℕ → ℕ → Bool) (home : ℕ → ℕ) (runs : List Run) : Type 0 where
  pub maximal : All (IsMaximal kept) runs
  pub all : (file frame : ℕ) → kept file frame ≡ true → (run : Run) × Contains runs run × HasFrame file frame run
  pub order : (i j : ℕ) (a b : Run) → i < j → slice_get runs i ≡ Some a → slice_get runs j ≡ Some b
      → comes_before home a b ≡ true
