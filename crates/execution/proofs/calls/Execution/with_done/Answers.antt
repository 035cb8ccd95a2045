use Rattle.execution.proofs.Rounds.{rest-with}
use Rattle.execution.proofs.calls.Execution.with_done.Goals as goal

pub returns-clause-rest : goal.returns-clause-rest
returns-clause-rest g c = rw c.in-Ok.ensures.made (rest-with c.args.done.now c.args.order.items)
