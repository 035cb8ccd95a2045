use Rattle.std.proofs.Common.{◌*◌, arith}
use Rattle.execution.proofs.RoundEvents.{length-rounds}
use Rattle.execution.proofs.performance.event_at.Goals as goal

pub returns-then-in_rounds-clause-event : goal.returns-then-in_rounds-clause-event
returns-then-in_rounds-clause-event c =
    let below = rw c.if-in_rounds.true at c.requires in
    rw c.if-in_rounds.true (c.round_event.ensures.event (3 * c.args.count)
    (omega (arith, below, length-rounds (3 * c.args.count))))
