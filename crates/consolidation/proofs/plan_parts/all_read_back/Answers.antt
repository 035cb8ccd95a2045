use Rattle.std.proofs.Common.{subst}
use Rattle.std.proofs.lemmas.List.{get_or_default}
use Rattle.std.proofs.lemmas.List.Elements.{AllWithin-more}
use Rattle.consolidation.specs.Planned.{IsMediumRun}
use Rattle.consolidation.proofs.plan_parts.all_read_back.Goals as goal

pub loop-run-preserved : goal.loop-run-preserved
loop-run-preserved c =
    AllWithin-more (IsMediumRun c.args.sounds.now c.homes-homes.result.now) c.as_slice-list.result.now 0
    c.loop-run.run-index c.loop-run.invariant (λ d. subst (IsMediumRun c.args.sounds.now c.homes-homes.result.now)
    (get_or_default c.as_slice-list.result.now c.loop-run.run-index _ d c.loop-run-test.true) c.reads_back_at.ensures)
