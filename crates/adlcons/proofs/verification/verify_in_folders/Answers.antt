use Rattle.std.proofs.Common.{inr}
use Rattle.adlcons.proofs.verification.verify_in_folders.Goals as goal

pub returns-in-Ok-clause-answered : goal.returns-in-Ok-clause-answered
returns-in-Ok-clause-answered g c = inr c.in-Ok.ensures.answered
