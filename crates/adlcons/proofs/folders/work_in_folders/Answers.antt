use Rattle.std.proofs.Common.{inr}
use Rattle.adlcons.proofs.folders.work_in_folders.Goals as goal

pub returns-in-Ok-clause-rendered : goal.returns-in-Ok-clause-rendered
returns-in-Ok-clause-rendered g c = λ list media target chosen request told.
    inr (c.in-Ok.ensures.works.rendered list media target chosen request told)

pub returns-in-Ok-clause-resumed : goal.returns-in-Ok-clause-resumed
returns-in-Ok-clause-resumed g c = λ list media target chosen request told.
    inr (c.in-Ok.ensures.works.resumed list media target chosen request told)

pub returns-in-Ok-clause-consolidated : goal.returns-in-Ok-clause-consolidated
returns-in-Ok-clause-consolidated g c = λ list media target handle report request.
    inr (c.in-Ok.ensures.works.consolidated list media target handle report request)
