use Rattle.std.proofs.Common.{◌≡◌, ◌∙◌, ◌∷◌, ◌++◌, IsTrue, Some, length, replicate, ap, subst, sym}
use Rattle.markfile.specs.Format.{head_of}
use Rattle.markfile.specs.declared.run.RunId.{RunId}
use Rattle.work_terms.specs.Disk.{IsTorn}
use Rattle.markfile.specs.Started.{IsAfter, LeavesStart, LeavesUnstarted}
use Rattle.markfile.proofs.NewMarks.{fresh_is}
use Rattle.markfile.proofs.Moments.{and_then, weaker}
use Rattle.markfile.proofs.Unstarted.{as_start, has_opened, holds, opened}
use Rattle.markfile.proofs.fresh_marks.start_fresh.Goals as goal

pub returns-in-Err-clause-fresh : goal.returns-in-Err-clause-fresh
returns-in-Err-clause-fresh g c =
    fresh_is c.args.fresh.now (ap (λ (r : RunId). length r.digest) (sym c.fresh.view_is) ∙ c.fresh.invariant.0)

pub returns-clause-started : goal.returns-clause-started
returns-clause-started g c honest =
    let still = subst IsTrue (sym c.in-Ok.ensures.only_writes.honest_same) honest in
    holds g.B.Bench _ c.write_synced.new.bench c.write_synced.result
    (λ change. has_opened c.as_slice.result.now _ _ (c.in-Ok.ensures.made honest).reads change.here
    ∙ ap (λ rest. Some (1 ∷ rest)) (c.as_slice.ensures.value
    ∙ subst (λ (r : RunId). c.fresh.inside.rest.items ≡ head_of r ++ replicate r.blocks 0) c.fresh.view_is
    c.fresh.invariant.1))
    (c.write_synced.ensures.written still) (c.write_synced.ensures.durable still)

pub returns-clause-fresh : goal.returns-clause-fresh
returns-clause-fresh g c =
    fresh_is c.args.fresh.now (ap (λ (r : RunId). length r.digest) (sym c.fresh.view_is) ∙ c.fresh.invariant.0)

pub returns-clause-any_moment : goal.returns-clause-any_moment
returns-clause-any_moment g c honest none =
    let o = g.B.Bench.may_leave c.args.bench.now in
    let mid = g.B.Bench.may_leave c.lay.new.bench in
    let run = c.args.fresh.now in
    and_then g.B.Bench.moment g.B.Bench.left_since c.args.bench.now c.lay.new.bench c.write_synced.new.bench
    (LeavesStart run o) (IsAfter mid (IsTorn 0 1))
    (opened run c.as_slice.result.now o mid (c.as_slice.ensures.value
    ∙ subst (λ (r : RunId). c.fresh.inside.rest.items ≡ head_of r ++ replicate r.blocks 0) c.fresh.view_is
    c.fresh.invariant.1)
    (c.in-Ok.ensures.crash honest none) (c.in-Ok.ensures.made honest).lasts)
    (weaker g.B.Bench.moment g.B.Bench.left_since c.args.bench.now c.lay.new.bench (LeavesUnstarted o)
    (LeavesStart run o) (as_start run o) (c.in-Ok.ensures.any_moment honest none))
    c.write_synced.ensures.moments

pub returns-clause-crash : goal.returns-clause-crash
returns-clause-crash g c honest none x left =
    let o = g.B.Bench.may_leave c.args.bench.now in
    let mid = g.B.Bench.may_leave c.lay.new.bench in
    opened c.args.fresh.now c.as_slice.result.now o mid (c.as_slice.ensures.value
    ∙ subst (λ (r : RunId). c.fresh.inside.rest.items ≡ head_of r ++ replicate r.blocks 0) c.fresh.view_is
    c.fresh.invariant.1)
    (c.in-Ok.ensures.crash honest none) (c.in-Ok.ensures.made honest).lasts x
    (c.write_synced.ensures.crash x left)
