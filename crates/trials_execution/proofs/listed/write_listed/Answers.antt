use Rattle.std.proofs.Common.{◌∙◌, arith}
use Rattle.execution.specs.OutcomeLaws.{finished_all}
use Rattle.trials_execution.proofs.Dones.{are-apart, is-before, list-stays, none-yet, sources-fit}
use Rattle.trials_execution.proofs.listed.write_listed.Goals as goal

pub returns-in-Ok-execute-clause-out : goal.returns-in-Ok-execute-clause-out
returns-in-Ok-execute-clause-out g c honest whole = (finished_all
    (c.in-Ok-execute.ensures.executed.outcome honest whole (sources-fit _) (are-apart (g.S.Shelf.stored c.args.shelf.now)) (record {
      none = none-yet _ _ c.in-Ok-new.ensures.board c.in-Ok-new.ensures.open;
      idle = c.in-Ok-new.ensures.idle;
    }))
    (c.in-Ok-execute.ensures.reported ∙ c.in-Ok-execute.ensures.finished c.in-Ok-new.ensures.rest
    (c.in-Ok-new.ensures.idle 1))).1 0 (omega arith)

pub returns-in-Ok-execute-clause-list : goal.returns-in-Ok-execute-clause-list
returns-in-Ok-execute-clause-list g c honest whole = (finished_all
    (c.in-Ok-execute.ensures.executed.outcome honest whole (sources-fit _) (are-apart (g.S.Shelf.stored c.args.shelf.now)) (record {
      none = none-yet _ _ c.in-Ok-new.ensures.board c.in-Ok-new.ensures.open;
      idle = c.in-Ok-new.ensures.idle;
    }))
    (c.in-Ok-execute.ensures.reported ∙ c.in-Ok-execute.ensures.finished c.in-Ok-new.ensures.rest
    (c.in-Ok-new.ensures.idle 1))).2 1 (omega arith, omega arith)

pub returns-in-Err-execute-clause-list_last : goal.returns-in-Err-execute-clause-list_last
returns-in-Err-execute-clause-list_last g c honest other = c.in-Err-execute.ensures.executed.bounded.order honest 1
    (omega arith, omega arith) list-stays
    (is-before _ _ c.in-Err-execute.fault c.in-Err-execute.ensures.executed.bounded.failed other)
