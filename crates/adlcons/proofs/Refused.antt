-- A refusal of the same number and place is printed alike.
use Rattle.std.proofs.Common.{◌≡◌, ◌++◌, ◌∷◌, [], ℕ, refl}
use Rattle.work_terms.specs.Refusals.{Refusal, Where}
use Rattle.console.specs.Lines.{refusal_text}
use Rattle.answers.specs.Answers.{refusal_line}

pub same_line : (refusal : Refusal) (number : ℕ) (place : Where) → number ≡ refusal.number → place ≡ refusal.location
    → refusal_text number place ++ 10 ∷ [] ≡ refusal_line refusal
same_line refusal number place one two = rw (one, two) refl
