-- Where the jobs of the runs of a consolidation end.
use Rattle.std.specs.Prelude.{◌≡◌, ℕ, ◌+◌, ◌<◌, List, length, slice_index}
use Rattle.sound_terms.specs.declared.piece.Run.{Run}
use Rattle.consolidation.specs.Pieces.{jobs_before}

-- how many jobs the runs up to and with each have
pub record AreEnds (runs : List Run) (ends : List ℕ) : Type 0 where
  pub count : length ends ≡ length runs
  pub each : (k : ℕ) → k < length runs → slice_index ends k ≡ jobs_before runs (k + 1)
