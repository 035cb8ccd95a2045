use Rattle.std.proofs.Common.{◌∙◌, ap}
use Rattle.work_terms.specs.Refusals.{turn_of}
use Rattle.opening.proofs.Told.{bound_turn}
use Rattle.opening.proofs.open.bind_project.Goals as goal

pub returns-in-Err-clause-second : goal.returns-in-Err-clause-second
returns-in-Err-clause-second g c = ap turn_of c.told_of.ensures.refusal ∙ bound_turn c.in-Err.fault

pub returns-in-Err-clause-own : goal.returns-in-Err-clause-own
returns-in-Err-clause-own g c = c.told_of.ensures.own c.args.project c.in-Err.ensures.own

pub returns-in-Err-clause-in_turn : goal.returns-in-Err-clause-in_turn
returns-in-Err-clause-in_turn g c = λ honest.
    c.told_of.ensures.in_turn c.args.project (g.S.Shelf.stored c.args.shelf.now) (c.in-Err.ensures.in_turn honest)
