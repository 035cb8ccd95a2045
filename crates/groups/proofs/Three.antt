-- Upper bound of three pieces per group.
use Rattle.std.proofs.Common.{◌≡◌, ◌≢◌, ◌≤◌, ◌<◌, List, [], ◌∷◌, ◌++◌, length, slice_index_or, IsTrue, refl, arith}
use Rattle.std.proofs.lemmas.Bool.Decides.{nat_tests}
use Rattle.sound_terms.specs.declared.piece.Piece.{Piece}
use Rattle.sound_terms.specs.declared.piece.Shape.{Shape}
use Rattle.sound_terms.specs.declared.piece.Shape.TheVariants.{Flat, Rise, Fall}
use Rattle.sound_terms.specs.Groups.{IsGroup, may_follow, rank_of}

rank_to_2 : (shape : Shape) → rank_of shape ≤ 2
rank_to_2 Flat = omega arith
rank_to_2 (Rise offset den) = omega arith
rank_to_2 (Fall offset den) = omega arith

ranks_rise : (p q : Piece) → IsTrue (may_follow p q) → rank_of p.shape < rank_of q.shape
ranks_rise p q follows = grind (arith, nat_tests)

pub first_three : (pieces : List Piece) (d : Piece) → IsGroup pieces → 3 ≤ length pieces
    → (slice_index_or pieces 0 d ∷ [] ++ slice_index_or pieces 1 d ∷ []) ++ slice_index_or pieces 2 d ∷ [] ≡ pieces
first_three [] d group long = absurd (omega (arith, long))
first_three (p ∷ []) d group long = absurd (omega (arith, long))
first_three (p ∷ q ∷ []) d group long = absurd (omega (arith, long))
first_three (p ∷ q ∷ r ∷ []) d group long = refl
first_three (p ∷ q ∷ r ∷ s ∷ ps) d group long =
    absurd (omega (
      arith,
      ranks_rise p q group.0,
      ranks_rise q r group.1.0,
      ranks_rise r s group.1.1.0,
      rank_to_2 s.shape,
    ))

pub three_are_some : (pieces : List Piece) → 3 ≤ length pieces → pieces ≢ []
three_are_some [] long none = omega (arith, long)
three_are_some (p ∷ ps) long none = cc none
