use Rattle.std.proofs.Common.{IsTrue, arith, rules}
use Rattle.std.proofs.lemmas.Result.{err_from_is_err_and}
use Rattle.consolidation.specs.Planned.{IsMediaPlan}
use Rattle.consolidation.proofs.Blanks.{kept_further, one_more_laid, still_laid}
use Rattle.consolidation.proofs.plan.Consolidation.lay_out_outputs.Goals as goal

pub loop-position-preserved : goal.loop-position-preserved
loop-position-preserved g c =
    let is : IsMediaPlan c.args.self.now = rw (← c.self.view_is) c.self.invariant.0 in (
      search rules,
      λ honest.
          let now : IsTrue (g.B.Bench.honest c.loop-position.bench) = rw c.loop-position.invariant.0.honest_same honest in
          one_more_laid _ is _ (g.B.Bench.stored c.loop-position.bench) (g.B.Bench.stored c.lay_out_output.new.bench)
          (search rules) (c.in_ok-lay_out_output.ensures.only_writes.others now) (c.loop-position.invariant.1 honest)
          (c.in_ok-lay_out_output.ensures.laid now),
      omega (arith, c.loop-position.invariant.2, c.lay_out_output.ensures.later),
      λ honest.
          let now : IsTrue (g.B.Bench.honest c.loop-position.bench) = rw c.loop-position.invariant.0.honest_same honest in
          kept_further _ is _ (g.B.Bench.stored c.args.bench.now) (g.B.Bench.stored c.loop-position.bench)
          (g.B.Bench.stored c.lay_out_output.new.bench) (search rules)
          (c.in_ok-lay_out_output.ensures.only_writes.others now) (c.loop-position.invariant.3 honest),
    )

pub returns-in_err-lay_out_output-clause-before : goal.returns-in_err-lay_out_output-clause-before
returns-in_err-lay_out_output-clause-before g c honest =
    let is : IsMediaPlan c.args.self.now = rw (← c.self.view_is) c.self.invariant.0 in
    let now : IsTrue (g.B.Bench.honest c.loop-position.bench) = rw c.loop-position.invariant.0.honest_same honest in
    let p = err_from_is_err_and c.from_residual.result c.from_residual.ensures.1 in
    rw (p.1, p.2, c.in_err-lay_out_output.ensures.number) (still_laid _ is _ (g.B.Bench.stored c.loop-position.bench)
    (g.B.Bench.stored c.lay_out_output.new.bench) (search rules)
    (c.in_err-lay_out_output.ensures.only_writes.others now) (c.loop-position.invariant.1 honest))

pub returns-in_err-lay_out_output-clause-after : goal.returns-in_err-lay_out_output-clause-after
returns-in_err-lay_out_output-clause-after g c honest =
    let is : IsMediaPlan c.args.self.now = rw (← c.self.view_is) c.self.invariant.0 in
    let now : IsTrue (g.B.Bench.honest c.loop-position.bench) = rw c.loop-position.invariant.0.honest_same honest in
    let p = err_from_is_err_and c.from_residual.result c.from_residual.ensures.1 in
    rw (p.1, p.2, c.in_err-lay_out_output.ensures.number) (kept_further _ is _ (g.B.Bench.stored c.args.bench.now)
    (g.B.Bench.stored c.loop-position.bench) (g.B.Bench.stored c.lay_out_output.new.bench) (search rules)
    (c.in_err-lay_out_output.ensures.only_writes.others now) (c.loop-position.invariant.3 honest))
