use Rattle.std.proofs.Common.{Ok, refl, rules}
use Rattle.answers.proofs.requests.answer_resume.Goals as goal

pub returns-in-Ok-clause-answered : goal.returns-in-Ok-clause-answered
returns-in-Ok-clause-answered g c = record {
  outcome = Ok c.in-Ok.made.resumed;
  called = c.in-Ok.ensures;
  status_is = refl;
  printed = search rules;
}
