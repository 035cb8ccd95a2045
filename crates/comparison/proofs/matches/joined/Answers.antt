use Rattle.comparison.proofs.matches.joined.Goals as goal

pub returns-then-follows-2 : goal.returns-then-follows-2
returns-then-follows-2 c = λ reading other first second. c.continued-then-follows-2.ensures reading other second first
