-- Laws of line ends.
use Rattle.std.specs.Prelude.{◌≡◌, ℕ, List, [], ◌∷◌, ◌++◌, refl}
use Rattle.std.proofs.Common.{ap}
use Rattle.list_terms.specs.Lines.{without_cr}

-- A CR at the end of a line is removed.
pub without_cr-cr : (text : List ℕ) → without_cr (text ++ (13 ∷ [])) ≡ text
without_cr-cr [] = refl
without_cr-cr (b ∷ []) = refl
without_cr-cr (b ∷ c ∷ text) = ap (λ t. b ∷ t) (without_cr-cr (c ∷ text))
