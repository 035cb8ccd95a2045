-- Properties of intervals that passes preserve.
use Rattle.std.specs.Prelude.{ℕ, List, Result, IsTrue, IfOk}
use Rattle.sound_terms.specs.declared.piece.Piece.{Piece}
use Rattle.sound_terms.specs.Groups.{are_whole, reads}

-- if all fades of the old groups are uncut, all fades of the new ones are
abbrev pub StayWhole : List (List Piece) → List (List Piece) → Type 0
StayWhole old new = IsTrue (are_whole old) → IsTrue (are_whole new)

-- the new groups read no sample of a file that the old ones don't read
abbrev pub ReadsNoMore : {E : Type 0} → List (List Piece) → Result (List (List Piece)) E → Type 0
ReadsNoMore old result = (file channel frame : ℕ)
    → IfOk result (λ new. IsTrue (reads new file channel frame) → IsTrue (reads old file channel frame))
