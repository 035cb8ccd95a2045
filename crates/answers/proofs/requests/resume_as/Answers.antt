use Rattle.answers.proofs.requests.resume_as.Goals as goal

pub returns-then-wanted : goal.returns-then-wanted
returns-then-wanted g c = rw c.if-wanted.true c.resume_reported.ensures

pub returns-else-wanted : goal.returns-else-wanted
returns-else-wanted g c = rw c.if-wanted.false c.resume_watched.ensures.resumes
