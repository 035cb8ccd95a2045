use Rattle.adlcons.proofs.looks.try_show.Goals as goal

pub returns-clause-mistake : goal.returns-clause-mistake
returns-clause-mistake g c = λ two. (c.deref.result.now, c.show_opened.ensures.mistake two)
