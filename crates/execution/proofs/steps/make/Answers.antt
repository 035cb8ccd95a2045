use Rattle.std.proofs.Common.{rules, ◌∙◌, ℕ, List, take, refl, ap, arith, None}
use Rattle.job_terms.specs.Workers.{CantMake, Hand, Made, Makes}
use Rattle.execution.specs.Turns.{Keeps}
use Rattle.execution.proofs.Changes.{alike-work}
use Rattle.execution.proofs.Firsts.{front_made, raised, worker-hand}
use Rattle.execution.proofs.steps.make.Goals as goal

pub returns-in-Ok-clause-step : goal.returns-in-Ok-clause-step
returns-in-Ok-clause-step g c honest files stale bench = Makes c.in-Some.ticket
    (worker-hand _ _ _ c.worker.view_is c.in-Some.is c.if-worker.false)
    (rw (c.in-Ok.ensures.only_reads.cause.left tt))
    (rw c.in-Some.is (ap {B = Hand} (λ (b : List ℕ). Made c.in-Some.ticket b)
    (ap (λ (x : List ℕ). take c.in-Ok.size x) (front_made _ c.make_in_front.new.bytes _ _ (omega arith) refl)
    ∙ c.in-Ok.ensures.made honest)))

pub returns-in-Ok-clause-turned : goal.returns-in-Ok-clause-turned
returns-in-Ok-clause-turned g c none =
    rw (worker-hand _ _ _ c.worker.view_is c.in-Some.is c.if-worker.false, c.in-Some.is) (Keeps _ refl refl)

pub returns-in-Err-clause-step : goal.returns-in-Err-clause-step
returns-in-Err-clause-step g c honest files stale bench = CantMake c.in-Some.ticket (g.S.Shelf.failures
    c.make_in_front.new.shelf)
    (worker-hand _ _ _ c.worker.view_is c.in-Some.is c.if-worker.false)
    (raised c.in-Err.ensures.only_reads.cause tt)
    (c.failed.ensures.step files stale (g.S.Shelf.failures c.make_in_front.new.shelf) bench) refl

pub returns-in-Err-clause-notes : goal.returns-in-Err-clause-notes
returns-in-Err-clause-notes g c honest =
    let alike = alike-work (returns-in-Err-clause-step g c honest (λ _. None) 0 0) in search rules
