-- What holds of runs and of the numbers of their media.
use Rattle.std.specs.Prelude.{◌≡◌, ℕ, ◌+◌, List, Some, slice_get}
use Rattle.sound_terms.specs.declared.piece.Run.{Run}

-- this holds of each run and the number of its medium
abbrev pub HoldAll : (ℕ → Run → Type 0) → List Run → Type 0
HoldAll P runs = (k : ℕ) (run : Run) → slice_get runs k ≡ Some run → P (1 + k) run
