use Rattle.std.proofs.Common.{ap, sym, ◌∙◌}
use Rattle.std.proofs.lemmas.Bool.{OnFalse_from}
use Rattle.adlread.specs.Outline.{outline_of}
use Rattle.adlread.proofs.Untold.{rate_of-nothing, rate_of-unpassed}
use Rattle.adlread.proofs.rate.begins_list.Goals as goal

pub returns-in-Some : goal.returns-in-Some
returns-in-Some c =
    OnFalse_from _ _ (λ fails.
    rate_of-unpassed outline_of c.args.text.now c.in-Some.line.now _ _ c.passed.result
    (ap (λ l. l.lines) (sym c.new.ensures) ∙ c.in-Some.ensures.line.0) c.new-in-Some.ensures c.passed.ensures
    (sym c.is_some.ensures ∙ fails))

pub returns-in-None : goal.returns-in-None
returns-in-None c =
    rate_of-nothing c.args.text.now (ap (λ l. l.lines) (sym c.new.ensures) ∙ c.in-None.ensures.line.0)
