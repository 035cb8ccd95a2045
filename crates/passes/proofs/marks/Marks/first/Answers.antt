use Rattle.std.proofs.Common.{◌∙◌, sym}
use Rattle.passes.proofs.Index.{found_first, found_nowhere, found_other}
use Rattle.passes.proofs.marks.Marks.first.Goals as goal

pub returns-in_err-found : goal.returns-in_err-found
returns-in_err-found c =
    let none = found_nowhere _ _ c.args.end c.range-after.result c.self.invariant (c.range-after.ensures.in_range tt)
    c.in_err-found.ensures.steps.0 in
    rw (← c.self.view_is, c.from_residual.ensures) none

pub returns-then-eq : goal.returns-then-eq
returns-then-eq c =
    rw (← c.self.view_is) (found_first _ _ c.args.end c.range-after.result c.self.invariant
    (c.range-after.ensures.in_range tt) _ _ _
    c.in_ok-found.ensures.steps (sym c.eq.ensures ∙ c.if-eq.true))

pub returns-else-eq : goal.returns-else-eq
returns-else-eq c =
    rw (← c.self.view_is) (found_other _ _ c.args.end c.range-after.result c.self.invariant
    (c.range-after.ensures.in_range tt) _ _ _
    c.in_ok-found.ensures.steps (sym c.eq.ensures ∙ c.if-eq.false))
