use Rattle.std.proofs.Common.{◌≡◌, ℕ, Bool, true, false, List, Result, Ok, Err, MatchResult, IsUtf8, is_ok, refl, sym, ◌∙◌}
use Rattle.std.specs.Str.{is_utf8}
use Rattle.std.proofs.lemmas.Str.{IsUtf8-from_is_utf8, is_utf8-from_IsUtf8}
use Rattle.adlmodel.proofs.place.is_text.Goals as goal

false_unless : (b : Bool) → (b ≡ true → ⊥) → false ≡ b
false_unless true h = absurd (h refl)
false_unless false h = refl

-- The bytes are UTF-8 exactly if converting them succeeds.
test_from_cases :
    {S E : Type 0} (r : Result S E) (name : List ℕ) (A : S → Type 0) (B : E → Type 0)
    → MatchResult r (λ s. A s × IsUtf8 name) (λ e. (IsUtf8 name → ⊥) × B e) → is_ok r ≡ is_utf8 name
test_from_cases (Ok s) name A B h = sym (is_utf8-from_IsUtf8 name h.1)
test_from_cases (Err e) name A B h = false_unless (is_utf8 name) (λ is. h.0 (IsUtf8-from_is_utf8 name is))

pub returns : goal.returns
returns c = c.is_ok.ensures.value ∙ test_from_cases c.from_utf8.result c.args.name.now _ _ c.from_utf8.ensures.cases
