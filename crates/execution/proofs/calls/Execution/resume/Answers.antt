use Rattle.execution.proofs.calls.Execution.resume.Goals as goal

pub returns-clause-resumed : goal.returns-clause-resumed
returns-clause-resumed g c = rw (← c.self.view_is) c.resume.ensures.resumed
