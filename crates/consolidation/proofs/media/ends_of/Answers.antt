use Rattle.std.proofs.Common.{arith}
use Rattle.std.proofs.lemmas.Option.{slice_get-get_or}
use Rattle.mediacopy.specs.Pieces.{no_run}
use Rattle.consolidation.proofs.Jobwise.{ends_next, none_before}
use Rattle.consolidation.proofs.media.ends_of.Goals as goal

pub loop-run-init : goal.loop-run-init
loop-run-init c = grind (arith, none_before c.as_slice-list.result.now)

pub loop-run-preserved : goal.loop-run-preserved
loop-run-preserved c =
    let runs = c.as_slice-list.result.now in
    let i = c.loop-run.run-index in
    let there = slice_get-get_or runs i no_run c.loop-run-test.true in
    let addressed = (rw (← c.as_slice-list.ensures.lent) at c.requires) i no_run c.loop-run-test.true in
    rw (c.in_ok-push.ensures.items, c.pieces_in-end.ensures)
    (ends_next runs i _ _ _ c.loop-run.invariant there (omega (arith, addressed.in_day)))
