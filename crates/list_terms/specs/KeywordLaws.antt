-- Keywords with different names are different.
use Rattle.std.proofs.Common.{◌≡◌, ℕ, true, false, List, ap, ◌∙◌}
use Rattle.std.specs.Prelude.{bytes_eq}
use Rattle.std.specs.Str.{str_to_ascii_lowercase}
use Rattle.std.proofs.lemmas.Slice.Eq.{bytes_eq-Decides}
use Rattle.std.proofs.Math.Bool.{and-false}
use Rattle.facts.specs.Tests.{and_right}
use Rattle.list_terms.specs.Tokens.{TokenText}
use Rattle.list_terms.specs.Fields.{is_keyword, is_same_name}

-- Two names that differ in more than case aren't the same keyword.
pub other_keyword :
    (name other : List ℕ) (token : TokenText)
    → bytes_eq (str_to_ascii_lowercase name) (str_to_ascii_lowercase other) ≡ false
    → is_keyword name token ≡ true → is_keyword other token ≡ false
other_keyword name other token differ is =
    let lower = str_to_ascii_lowercase token.content in
    let same : lower ≡ str_to_ascii_lowercase name =
    (bytes_eq-Decides lower (str_to_ascii_lowercase name)).0 (and_right _ (is_same_name token.content name) is) in
    let no : is_same_name token.content other ≡ false = ap (λ t. bytes_eq t (str_to_ascii_lowercase other)) same
    ∙ differ in
    rw no (and-false _)
