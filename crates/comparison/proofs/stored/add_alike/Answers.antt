use Rattle.comparison.proofs.stored.add_alike.Goals as goal

pub returns-in_default-clause-alike : goal.returns-in_default-clause-alike
returns-in_default-clause-alike g c = λ honest sure same. c.are_ends.ensures same _ _
