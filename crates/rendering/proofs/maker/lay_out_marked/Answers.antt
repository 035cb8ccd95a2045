use Rattle.std.proofs.Common.{[], arith, refl, sym}
use Rattle.markfile.specs.Format.{marks_name}
use Rattle.rendering.proofs.Both.{lays_both, lays_none}
use Rattle.rendering.proofs.Calls.{writes_as, writes_both}
use Rattle.rendering.proofs.Jobs.{names_apart}
use Rattle.rendering.proofs.Works.{stays_apart}
use Rattle.rendering.proofs.maker.lay_out_marked.Goals as goal

pub returns-in-Err-clause-lays_out : goal.returns-in-Err-clause-lays_out
returns-in-Err-clause-lays_out g c = lays_none g.B.Bench
    (record { work = c.args.rendering.now; run = c.args.fresh.now; clips = [] }) c.in-Err.ensures.beside _ refl
    (λ honest. c.in-Err.ensures.only_writes.others honest marks_name (λ e. names_apart (sym e)))

pub returns-in-Ok-start_fresh-clause-lays_out : goal.returns-in-Ok-start_fresh-clause-lays_out
returns-in-Ok-start_fresh-clause-lays_out g c = let laid = c.in-Ok.ensures in let begun = c.in-Ok-start_fresh.ensures in
    lays_both g.B.Bench _ laid.beside _ c.requires laid.laid laid.durable laid.only_writes.honest_same begun.fresh
    begun.started begun.any_moment begun.crash begun.only_writes tt

pub returns-in-Err-start_fresh-clause-lays_out : goal.returns-in-Err-start_fresh-clause-lays_out
returns-in-Err-start_fresh-clause-lays_out g c =
    let laid = c.in-Ok.ensures in let begun = c.in-Err-start_fresh.ensures in
    lays_both g.B.Bench _ laid.beside _ c.requires laid.laid laid.durable laid.only_writes.honest_same begun.fresh
    begun.started begun.any_moment begun.crash begun.only_writes refl

pub returns-in-Err-clause-only_writes : goal.returns-in-Err-clause-only_writes
returns-in-Err-clause-only_writes g c = let laid = c.in-Err.ensures.only_writes in
    writes_as g.B.Bench (λ n stays. (stays_apart _ _ c.requires.work n stays).0)
    (λ _. (omega arith, laid.failed_there tt)) laid

pub returns-in-Ok-start_fresh-clause-only_writes : goal.returns-in-Ok-start_fresh-clause-only_writes
returns-in-Ok-start_fresh-clause-only_writes g c = writes_both g.B.Bench
    (writes_as g.B.Bench (λ n stays. (stays_apart _ _ c.requires.work n stays).0) tt c.in-Ok.ensures.only_writes)
    (writes_as g.B.Bench (λ n stays. (stays_apart _ _ c.requires.work n stays).1) tt
    c.in-Ok-start_fresh.ensures.only_writes)

pub returns-in-Err-start_fresh-clause-only_writes : goal.returns-in-Err-start_fresh-clause-only_writes
returns-in-Err-start_fresh-clause-only_writes g c = let begun = c.in-Err-start_fresh.ensures.only_writes in
    writes_both g.B.Bench
    (writes_as g.B.Bench (λ n stays. (stays_apart _ _ c.requires.work n stays).0) tt c.in-Ok.ensures.only_writes)
    (writes_as g.B.Bench (λ n stays. (stays_apart _ _ c.requires.work n stays).1)
    (λ _. (omega arith, begun.failed_there tt)) begun)
