use Rattle.std.proofs.Common.{◌≡◌, List, [], ◌∷◌, ◌∙◌, length, refl, set, subst}
use Rattle.std.specs.Prelude.{ℤ}
use Rattle.pcm.proofs.Steps.{all_four, words_again}
use Rattle.pcm.proofs.lanes.put_four.Goals as goal

-- setting all four items of a list of four
all_set : (l : List ℤ) (a b c d : ℤ) → length l ≡ 4 → set (set (set (set l 0 a) 1 b) 2 c) 3 d ≡ a ∷ b ∷ c ∷ d ∷ []
all_set l a b c d long =
    subst (λ (l : List ℤ). set (set (set (set l 0 a) 1 b) 2 c) 3 d ≡ a ∷ b ∷ c ∷ d ∷ []) (all_four l long) refl

pub returns : goal.returns
returns c =
    all_set c.args.samples.now _ _ _ _ c.requires
    ∙ words_again (c.args.a ∷ c.args.b ∷ c.args.c ∷ c.args.d ∷ []) (c.ranges.a, c.ranges.b, c.ranges.c, c.ranges.d)
