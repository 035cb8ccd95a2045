use Rattle.std.proofs.lemmas.Result.{IfOk-weaker}
use Rattle.consolidation.proofs.Wholes.{fits_planned}
use Rattle.consolidation.proofs.plan.Consolidation.plan.Goals as goal

pub returns-clause-fits : goal.returns-clause-fits
returns-clause-fits g c = IfOk-weaker c.plan_of.result _ _ (fits_planned _ _ _ _) c.plan_of.ensures.planned
