-- Laws of numbered elements.
use Rattle.std.proofs.Common.{◌≡◌, ℕ, zero, suc, ◌+◌, ◌<◌, List, [], ◌∷◌, ◌++◌, length, take, get_or, arith, add-one, sym, ap, ◌∙◌, ◌≤◌, refl, false}
use Rattle.std.specs.Prelude.{◌==◌}
use Rattle.std.specs.List.{list_any}
use Rattle.std.proofs.lemmas.Bool.Decides.{nat_tests}
use Rattle.list_terms.specs.Renewed.{numbered}

numbered_more : {X Y : Type 0} (made : ℕ → X → Y) (number k : ℕ) (xs : List X) (d : X) → k < length xs
    → numbered made number (take (suc k) xs)
    ≡ numbered made number (take k xs) ++ made (number + k) (get_or xs k d) ∷ []
numbered_more made number k [] d below = absurd (omega arith)
numbered_more made number zero (x ∷ xs) d below = ap (λ (n : ℕ). made n x ∷ []) (omega arith)
numbered_more made number (suc k) (x ∷ xs) d below =
    let counted : suc number + k ≡ number + suc k = omega arith in
    ap (λ rest. made number x ∷ rest) (numbered_more made (suc number) k xs d (omega arith)
    ∙ ap (λ (n : ℕ). numbered made (suc number) (take k xs) ++ made n (get_or xs k d) ∷ []) counted)

-- One more element, counted from 1.
pub numbered_push : {X Y : Type 0} (made : ℕ → X → Y) (k : ℕ) (xs : List X) (d : X) → k < length xs
    → numbered made 1 (take k xs) ++ made (k + 1) (get_or xs k d) ∷ [] ≡ numbered made 1 (take (k + 1) xs)
numbered_push made k xs d below =
    let counted : k + 1 ≡ 1 + k = omega arith in
    ap (λ (n : ℕ). numbered made 1 (take k xs) ++ made n (get_or xs k d) ∷ []) counted
    ∙ sym (numbered_more made 1 k xs d below)
    ∙ ap (λ (n : ℕ). numbered made 1 (take n xs)) (sym (add-one k))

pub numbered_step : {X Y : Type 0} (made : ℕ → X → Y) (k : ℕ) (xs : List X) (d : X) (one : Y) (before now : List Y)
    → k < length xs
    → before ≡ numbered made 1 (take k xs) → now ≡ before ++ one ∷ [] → one ≡ made (k + 1) (get_or xs k d)
    → now ≡ numbered made 1 (take (k + 1) xs)
numbered_step made k xs d one before now below so_far more is =
    more ∙ ap (λ front. front ++ one ∷ []) so_far ∙ ap (λ (y : _). numbered made 1 (take k xs) ++ y ∷ []) is
    ∙ numbered_push made k xs d below

-- No element has a number past the last one.
pub numbered_free :
    {X Y : Type 0} (made : ℕ → X → Y) (number_of : Y → ℕ) → ((n : ℕ) (x : X) → number_of (made n x) ≡ n)
    → (number behind : ℕ) (xs : List X) → number + length xs ≤ behind
    → list_any (λ y. number_of y == behind) (numbered made number xs) ≡ false
numbered_free made number_of told number behind [] few = refl
numbered_free made number_of told number behind (x ∷ xs) few =
    let other : (number == behind) ≡ false = grind (arith, nat_tests) in
    rw (told number x, other) (numbered_free made number_of told (suc number) behind xs (omega arith))
