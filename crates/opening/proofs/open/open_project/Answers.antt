use Rattle.std.proofs.lemmas.Result.{err_from_is_err_and}
use Rattle.opening.specs.Faults.{refusal_of}
use Rattle.opening.proofs.Told.{opening_first, opening_own}
use Rattle.opening.proofs.Turns.{files_due}
use Rattle.opening.proofs.open.open_project.Goals as goal

pub returns-in_err-project-2-clause-refusals : goal.returns-in_err-project-2-clause-refusals
returns-in_err-project-2-clause-refusals g c = λ honest.
    let p = err_from_is_err_and c.from_residual-in_err-project-2.result c.from_residual-in_err-project-2.ensures.1 in
    rw (p.1, p.2) (files_due (refusal_of c.in_err-project-2.field-0.0) c.in_ok-project.project c.args.list.now
    (g.S.Shelf.stored c.args.shelf.now)
    c.in_ok-project.ensures.spelt c.in_err-project-2.ensures.second (c.in_err-project-2.ensures.refused honest))

pub returns-in_err-project-2-clause-own : goal.returns-in_err-project-2-clause-own
returns-in_err-project-2-clause-own g c =
    let p = err_from_is_err_and c.from_residual-in_err-project-2.result c.from_residual-in_err-project-2.ensures.1 in
    rw (p.1, p.2) (opening_own c.args.list.now c.in_ok-project.project c.in_err-project-2.field-0.0
    c.in_ok-project.ensures.spelt c.in_err-project-2.ensures.own)

pub returns-in_err-project-2-clause-in_turn : goal.returns-in_err-project-2-clause-in_turn
returns-in_err-project-2-clause-in_turn g c = λ honest.
    let p = err_from_is_err_and c.from_residual-in_err-project-2.result c.from_residual-in_err-project-2.ensures.1 in
    rw (p.1, p.2) (opening_first c.args.list.now (g.S.Shelf.stored c.args.shelf.now) c.in_ok-project.project
    c.in_err-project-2.field-0.0 c.in_ok-project.ensures.spelt (c.in_err-project-2.ensures.in_turn honest))
