-- The beginnings of runs.
use Rattle.std.specs.Prelude.{ℕ, ◌==◌, ◌&&◌, ◌||◌, nat_le, nat_lt, Bool}
use Rattle.sound_terms.specs.declared.piece.Run.{Run}

-- The run begins at or before this sample frame of the file whose home index has the given position.
abbrev pub is_begun : (ℕ → ℕ) → (place frame : ℕ) → Run → Bool
is_begun places place frame run =
    nat_lt (places run.file) place || (places run.file == place && nat_le run.first frame)
