-- Texts without escaped bytes.
use Rattle.std.proofs.Common.{◌≡◌, ◌∙◌, ◌+◌, ◌<◌, ◌++◌, ◌∷◌, [], ℕ, List, ap, get_or, length, sym, take}
use Rattle.std.proofs.lemmas.List.{take_more}
use Rattle.json.specs.Print.{escape, escape_byte}
use Rattle.renderreport.proofs.OnePart.{one_more}

-- a text without escapes, extended by one byte
pub one_more_plain : (text : List ℕ) (i byte : ℕ) → i < length text → byte ≡ get_or text i 0
    → escape (take i text) ≡ take i text → escape_byte byte ≡ byte ∷ [] → escape (take (i + 1) text) ≡ take (i + 1) text
one_more_plain text i byte below is before plain =
    sym (one_more escape_byte text i 0 below is)
    ∙ ap (λ (front : List ℕ). front ++ escape_byte byte) before
    ∙ ap (λ (own : List ℕ). take i text ++ own) (plain ∙ ap (λ (b : ℕ). b ∷ []) is) ∙ sym (take_more text i 0 below)
