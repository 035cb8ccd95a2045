use Rattle.std.proofs.Common.{inr}
use Rattle.adlcons.proofs.two_lists.compare_folders.Goals as goal

pub returns-in-Ok-clause-answered : goal.returns-in-Ok-clause-answered
returns-in-Ok-clause-answered g c = λ some. inr (c.in-Ok.ensures.answered some)
