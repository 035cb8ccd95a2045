-- The standard passes, and the source samples that remain in use after them.
use Rattle.std.specs.Prelude.{◌≡◌, ℕ, Bool, true, false, not, ◌&&◌, List, [], ◌∷◌}
use Rattle.std.specs.List.{list_any}
use Rattle.sound_terms.specs.declared.piece.Piece.{Piece}
use Rattle.sound_terms.specs.Mix.{Reading}
use Rattle.sound_terms.specs.Groups.{is_read, pieces_of}
use Rattle.sound_terms.specs.Passes.{join_cuts, regroup, split_fades, without_silent}
use Rattle.passes.specs.Silent.{is_silent_in}

-- the standard passes in order: split fades, drop silent groups, join cuts, regroup; only the second needs the flags
pub record AreStandard {B : Type 0} (looks : B → Bool) (gives : B → List (List Piece) → List Bool → List (List Piece))
    (passes : List B) : Type 0 where
  pub splitting : B
  pub leaving_out : B
  pub joining : B
  pub grouping : B
  pub are : passes ≡ splitting ∷ leaving_out ∷ joining ∷ grouping ∷ []
  pub looking : looks leaving_out ≡ true
  pub quiet : (looks splitting ≡ false) × (looks joining ≡ false) × (looks grouping ≡ false)
  pub splits : (groups : List (List Piece)) (silent : List Bool) → gives splitting groups silent ≡ split_fades groups
  pub leaves_out : (groups : List (List Piece)) (silent : List Bool)
      → gives leaving_out groups silent ≡ without_silent groups silent
  pub joins : (groups : List (List Piece)) (silent : List Bool) → gives joining groups silent ≡ join_cuts groups
  pub regroups : (groups : List (List Piece)) (silent : List Bool) → gives grouping groups silent ≡ regroup groups

-- a piece that isn't silent reads this sample of this channel of this file
abbrev pub reads_sounding : Reading → List (List Piece) → (file channel frame : ℕ) → Bool
reads_sounding reading groups file channel frame =
    list_any (λ p. is_read p file channel frame && not (is_silent_in reading p)) (pieces_of groups)
