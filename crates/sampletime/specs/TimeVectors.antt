-- Worked times at each frame rate, computed from the definitions.
use Rattle.std.specs.Prelude.{◌≡◌, refl, ℕ, List, [], ◌∷◌, map, Option, None, Some, option_map, codes}
use Rattle.sampletime.specs.TimeCode.{samples_of, text_of}

-- samples of each time text, ignoring the separators
abbrev samples_at : ℕ → List (List ℕ) → List (Option ℕ)
samples_at rate texts = map (λ text. option_map (λ time. time.0) (samples_of rate text)) texts

pub at_24 : samples_at 24 (codes "01.00.00.01/0000" ∷ codes "23.59.59.23/1999" ∷ codes "24.00.00.00/0000"
    ∷ codes "00.00.00.24/0000" ∷ codes "00.00.00.00/2000" ∷ [])
    ≡ Some 172802000 ∷ Some 4147199999 ∷ Some 4147200000 ∷ None ∷ None ∷ []
at_24 = refl

pub at_25 : samples_at 25 (codes "01.00.00.01/0000" ∷ codes "23.59.59.24/1919" ∷ codes "24.00.00.00/0000"
    ∷ codes "00.00.00.25/0000" ∷ codes "00.00.00.00/1920" ∷ [])
    ≡ Some 172801920 ∷ Some 4147199999 ∷ Some 4147200000 ∷ None ∷ None ∷ []
at_25 = refl

pub at_30 : samples_at 30 (codes "00.00.00.29/1599" ∷ codes "00.00.00.00/1600" ∷ codes "00.00.00.01/0320"
    ∷ codes "24.00.00.00/0000" ∷ codes "00.00.00.30/0000" ∷ [])
    ≡ Some 47999 ∷ None ∷ Some 1920 ∷ Some 4147200000 ∷ None ∷ []
at_30 = refl

-- one time at each frame rate, ten samples before a second ends
pub written : map (λ rate. text_of rate 239990 (codes ".../")) (24 ∷ 25 ∷ 30 ∷ [])
    ≡ codes "00.00.04.23/1990" ∷ codes "00.00.04.24/1910" ∷ codes "00.00.04.29/1590" ∷ []
written = refl
