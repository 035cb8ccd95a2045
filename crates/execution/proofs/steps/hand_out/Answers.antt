use Rattle.std.proofs.Common.{◌∙◌, sym, ap, arith}
use Rattle.job_terms.specs.Board.{can_give}
use Rattle.job_terms.specs.Workers.{Gives, Hand}
use Rattle.execution.specs.Desks.{Desk}
use Rattle.execution.proofs.Changes.{givable-there}
use Rattle.execution.proofs.Firsts.{first-passes, hand-none}
use Rattle.execution.proofs.steps.hand_out.Goals as goal

pub returns-in-Ok-clause-fits : goal.returns-in-Ok-clause-fits
returns-in-Ok-clause-fits c work e fits =
    let board = c.args.board.now in
    let can = first-passes (can_give board) board.order c.in-Ok.ticket.job c.in-Ok.ensures.given.0 in
    omega (arith, e, givable-there board c.in-Ok.ticket.job can)

pub returns-in-Ok-clause-step : goal.returns-in-Ok-clause-step
returns-in-Ok-clause-step c files stale shelf bench = Gives c.in-Ok.ticket.job
    (ap {B = Hand} (λ (d : Desk). d.hand) (sym c.worker.view_is) ∙ hand-none c.worker.inside.ticket
    c.worker.inside.made _ (sym c.is_some.ensures ∙ c.if-is_some.false))
    (first-passes (can_give c.args.board.now) c.args.board.now.order c.in-Ok.ticket.job c.in-Ok.ensures.given.0)
    (rw c.in-Ok.ensures.given.2) (rw c.in-Ok.ensures.given.1)
