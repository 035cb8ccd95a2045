use Rattle.blockmachine.proofs.machine.Machine.run.Goals as goal

pub returns-clause-ran : goal.returns-clause-ran
returns-clause-ran g c = λ honest. rw (c.sounds.ensures.sounds) at (c.run_over.ensures.ran honest)
