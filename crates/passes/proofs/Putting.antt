-- Adding a group to the first one that takes it, found by its mark.
use Rattle.std.proofs.Common.{◌≡◌, ◌∙◌, ℕ, zero, suc, ◌<◌, Bool, true, List, [], ◌∷◌, ◌++◌, length, get_or, set}
use Rattle.std.proofs.Common.{map, refl, ap, arith}
use Rattle.std.specs.Prelude.{Option, None, Some, is_some}
use Rattle.facts.specs.Tests.{not_some}
use Rattle.sound_terms.specs.declared.piece.Piece.{Piece}
use Rattle.sound_terms.specs.Passes.{put_to_first}
use Rattle.passes.specs.Ends.{IsFirst, holds_at}

module _ {M : Type 0} (takes : List Piece → Option (List Piece)) (own : List Piece) (mark : List Piece → M)
    (test : M → Bool)
    (agree : (group : List Piece) → is_some (takes group) ≡ test (mark group)) where
  -- no group takes it
  pub put_last : (groups : List (List Piece)) → IsFirst test (map mark groups) None
      → put_to_first takes own groups ≡ groups ++ own ∷ []
  put_last [] none = refl
  put_last (group ∷ groups) none =
      let here = not_some (takes group) (agree group ∙ none 0) in
      rw here (ap (λ (rest : List (List Piece)). group ∷ rest) (put_last groups (λ place. none (suc place))))

  -- the group at this position is the first that takes it
  pub put_there : (groups : List (List Piece)) (place : ℕ) (joined d : List Piece)
      → IsFirst test (map mark groups) (Some place)
      → takes (get_or groups place d) ≡ Some joined → put_to_first takes own groups ≡ set groups place joined
  put_there [] place joined d first taken = cc
  put_there (group ∷ groups) zero joined d first taken = rw taken refl
  put_there (group ∷ groups) (suc place) joined d first taken =
      let here = not_some (takes group) (agree group ∙ first.1 0 (omega arith)) in
      rw here (ap (λ (rest : List (List Piece)). group ∷ rest)
      (put_there groups place joined d (first.0, λ k below. first.1 (suc k) (omega arith)) taken))

  -- the group at the position found takes it
  pub taken_there : (groups : List (List Piece)) (place : ℕ) (d : List Piece)
      → holds_at test (map mark groups) place ≡ true
      → (place < length groups) × (is_some (takes (get_or groups place d)) ≡ true)
  taken_there [] place d holds = cc
  taken_there (group ∷ groups) zero d holds = (omega arith, agree group ∙ holds)
  taken_there (group ∷ groups) (suc place) d holds =
      let behind = taken_there groups place d holds in (omega (arith, behind.0), behind.1)
