-- The moments of a bench.
use Rattle.std.specs.Prelude.{ℕ, ◌≤◌}

-- The second moment is the first one or later.
abbrev pub IsLater : {B : Type 0} → (B → ℕ) → B → B → Type 0
IsLater moment old new = moment old ≤ moment new
