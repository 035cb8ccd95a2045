use Rattle.std.proofs.Common.{◌≡◌, ◌≢◌, ℕ, List, [], ◌∷◌, ◌++◌, Option, Some, None, MatchOption, Bor, sym, ap, ◌∙◌}
use Rattle.std.specs.Prelude.{unwrap_or}
use Rattle.std.proofs.lemmas.Bool.Decides.{Decides-eqb}
use Rattle.std.proofs.lemmas.Slice.Eq.{strip_suffix_is}
use Rattle.list_terms.specs.Lines.{without_cr}
use Rattle.list_terms.specs.LineLaws.{without_cr-cr}
use Rattle.adltoken.proofs.FirstLine.{without_cr-other}
use Rattle.adltoken.proofs.lines.without_cr.Goals as goal

front_or_text :
    (text : Bor (List ℕ)) (front : Option (Bor (List ℕ)))
    → MatchOption front ((f : List ℕ) → text.now ≢ f ++ (13 ∷ [])) (λ f. text.now ≡ f.now ++ (13 ∷ []))
    → (unwrap_or front text).now ≡ without_cr text.now
front_or_text text None h = sym (without_cr-other text.now h)
front_or_text text (Some front) h = sym (ap without_cr h ∙ without_cr-cr front.now)

pub returns : goal.returns
returns c =
    let e = front_or_text c.args.text c.strip_suffix.result
    (strip_suffix_is Decides-eqb c.args.text.now (13 ∷ []) c.strip_suffix.result c.strip_suffix.ensures.cases) in
    cc
