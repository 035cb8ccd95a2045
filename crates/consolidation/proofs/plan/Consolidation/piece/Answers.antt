use Rattle.std.proofs.lemmas.Option.{slice_get-get_or}
use Rattle.mediacopy.specs.Pieces.{no_run}
use Rattle.consolidation.proofs.Jobwise.{job_number}
use Rattle.consolidation.proofs.Wholes.{job_is_piece}
use Rattle.consolidation.proofs.plan.Consolidation.piece.Goals as goal

pub piece_of-requires : goal.piece_of-requires
piece_of-requires c =
    let is = c.run_of-position.ensures in
    (job_number _ _ _ _ _ (slice_get-get_or c.as_slice-runs.result.now _ no_run is.there) is.begun is.unended
    (c.before-2.ensures _ (rw (c.as_slice-runs.ensures.lent, c.as_slice-ends.ensures.value) c.self.invariant.1))).0

pub returns-clause-piece : goal.returns-clause-piece
returns-clause-piece c =
    let is = c.run_of-position.ensures in
    let at = job_number _ _ _ _ _ (slice_get-get_or c.as_slice-runs.result.now _ no_run is.there) is.begun is.unended
    (c.before-2.ensures _ (rw (c.as_slice-runs.ensures.lent, c.as_slice-ends.ensures.value) c.self.invariant.1)) in
    rw (← c.self.view_is, ← c.as_slice-runs.ensures.lent, at.1) c.piece_of.ensures

pub returns-clause-within : goal.returns-clause-within
returns-clause-within c = rw (returns-clause-piece c)
    (job_is_piece c.args.self.now (rw (← c.self.view_is) c.self.invariant.0) c.args.job c.requires)
