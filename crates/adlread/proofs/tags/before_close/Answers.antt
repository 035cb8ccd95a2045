use Rattle.std.proofs.Common.{◌≡◌, ◌≢◌, ℕ, List, [], ◌∷◌, ◌++◌, Option, Some, None, MatchOption, Bor, option_map, false, refl, sym, ap, ◌∙◌, arith}
use Rattle.std.specs.Prelude.{◌==◌}
use Rattle.std.proofs.lemmas.Bool.Decides.{Decides-eqb, nat_tests}
use Rattle.std.proofs.lemmas.Slice.Eq.{strip_suffix_is}
use Rattle.list_terms.specs.Text.{before_close}
use Rattle.adlread.proofs.tags.before_close.Goals as goal

before_close-closed : (text : List ℕ) → before_close (text ++ (62 ∷ [])) ≡ Some text
before_close-closed [] = refl
before_close-closed (b ∷ []) = refl
before_close-closed (b ∷ c ∷ text) = ap (option_map (λ t. b ∷ t)) (before_close-closed (c ∷ text))

before_close-open : (text : List ℕ) → ((front : List ℕ) → text ≢ front ++ (62 ∷ [])) → before_close text ≡ None
before_close-open [] h = refl
before_close-open (b ∷ []) h =
    let e : (b == 62) ≡ false = grind (arith, nat_tests, h []) in
    rw e
before_close-open (b ∷ c ∷ text) h =
    ap (option_map (λ t. b ∷ t)) (before_close-open (c ∷ text) (λ front e. h (b ∷ front) (ap (λ x. b ∷ x) e)))

by_cases :
    (text : List ℕ) (front : Option (Bor (List ℕ)))
    → MatchOption front ((f : List ℕ) → text ≢ f ++ (62 ∷ [])) (λ f. text ≡ f.now ++ (62 ∷ []))
    → option_map (λ f. f.now) front ≡ before_close text
by_cases text None h = sym (before_close-open text h)
by_cases text (Some front) h = sym (ap before_close h ∙ before_close-closed front.now)

pub returns : goal.returns
returns c =
    by_cases c.args.tag.now c.strip_suffix.result
    (strip_suffix_is Decides-eqb c.args.tag.now (62 ∷ []) c.strip_suffix.result c.strip_suffix.ensures.cases)
