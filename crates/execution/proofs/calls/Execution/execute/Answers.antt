use Rattle.execution.proofs.calls.Execution.execute.Goals as goal

pub returns-clause-executed : goal.returns-clause-executed
returns-clause-executed g c = rw (← c.self.view_is) c.execute.ensures.executed
