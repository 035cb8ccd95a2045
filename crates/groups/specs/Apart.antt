-- Groups on one side of a time.
use Rattle.std.specs.Prelude.{ℕ, ◌+◌, ◌≤◌, ◌⊎◌, List, All}
use Rattle.sound_terms.specs.declared.piece.Piece.{Piece}

-- the group ends at or before the time, or starts at or after it
abbrev pub IsApart : ℕ → List Piece → Type 0
IsApart time group = All (λ p. p.start + p.length ≤ time) group ⊎ All (λ p. time ≤ p.start) group
