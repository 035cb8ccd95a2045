use Rattle.std.proofs.Common.{◌≡◌, ◌/◌, ◌%◌, refl, sym, arith}
use Rattle.job_terms.specs.declared.BoardEvent.TheVariants.{Deliver, Give, Work}
use Rattle.execution.proofs.RoundEvents.{at-turn}
use Rattle.execution.proofs.performance.round_event.Goals as goal

pub returns-then-turn-eq0-clause-event : goal.returns-then-turn-eq0-clause-event
returns-then-turn-eq0-clause-event c n lt = sym (at-turn (Give 1) 0 (λ m. refl) n (c.args.i / 3) c.args.i
    (omega (arith, c.if-turn-eq0.true)) (omega (arith, lt)))

pub returns-then-turn-eq1-clause-event : goal.returns-then-turn-eq1-clause-event
returns-then-turn-eq1-clause-event c n lt = sym (at-turn (Work 1) 1 (λ m. refl) n (c.args.i / 3) c.args.i
    (omega (arith, c.if-turn-eq1.true)) (omega (arith, c.if-turn-eq1.true, lt)))

pub returns-clause-event : goal.returns-clause-event
returns-clause-event c n lt =
    let two : c.args.i % 3 ≡ 2 = omega (arith, c.if-turn-eq0.false, c.if-turn-eq1.false) in
    sym (at-turn (Deliver 1) 2 (λ m. refl) n (c.args.i / 3) c.args.i (omega (arith, two)) (omega (arith, two, lt)))
