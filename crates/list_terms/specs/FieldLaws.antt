-- Laws of channel fields: digits, with or without a tilde between them.
use Rattle.std.specs.Prelude.{◌≡◌, ◌==◌, ℕ, true, false, not, List, [], ◌∷◌, ◌++◌, None, Some, refl}
use Rattle.std.specs.List.{before_first, list_all, prefix_len}
use Rattle.std.proofs.Common.{ap, ◌∙◌, arith}
use Rattle.std.proofs.lemmas.Bool.Decides.{nat_tests}
use Rattle.facts.specs.Prefixes.{take_more}
use Rattle.facts.specs.Tests.{and_left, and_right}
use Rattle.sampletime.specs.TimeCode.{is_digit}
use Rattle.list_terms.specs.Fields.{is_tilde}
use Rattle.list_terms.specs.Names.{behind_byte}

no_tilde : (d : ℕ) → is_digit d ≡ true → (d == 126) ≡ false
no_tilde d h = grind (arith, nat_tests)

pub before_more :
    (b : ℕ) (text : List ℕ) → (b == 126) ≡ false → before_first is_tilde (b ∷ text) ≡ b ∷ before_first is_tilde text
before_more b text e = rw e (take_more (prefix_len (λ x. not (is_tilde x)) text) b text)

pub before_tilde :
    (front back : List ℕ) → list_all is_digit front ≡ true → before_first is_tilde (front ++ (126 ∷ back)) ≡ front
before_tilde [] back h = refl
before_tilde (d ∷ front) back h =
    before_more d (front ++ (126 ∷ back)) (no_tilde d (and_left (is_digit d) (list_all is_digit front) h))
    ∙ ap (λ t. d ∷ t) (before_tilde front back (and_right (is_digit d) (list_all is_digit front) h))

pub behind_tilde :
    (front back : List ℕ) → list_all is_digit front ≡ true → behind_byte 126 (front ++ (126 ∷ back)) ≡ Some back
behind_tilde [] back h = refl
behind_tilde (d ∷ front) back h =
    rw (no_tilde d (and_left (is_digit d) (list_all is_digit front) h))
    (behind_tilde front back (and_right (is_digit d) (list_all is_digit front) h))

pub before_none : (text : List ℕ) → list_all is_digit text ≡ true → before_first is_tilde text ≡ text
before_none [] h = refl
before_none (d ∷ text) h =
    before_more d text (no_tilde d (and_left (is_digit d) (list_all is_digit text) h))
    ∙ ap (λ t. d ∷ t) (before_none text (and_right (is_digit d) (list_all is_digit text) h))

pub behind_none : (text : List ℕ) → list_all is_digit text ≡ true → behind_byte 126 text ≡ None
behind_none [] h = refl
behind_none (d ∷ text) h =
    rw (no_tilde d (and_left (is_digit d) (list_all is_digit text) h))
    (behind_none text (and_right (is_digit d) (list_all is_digit text) h))
