use Rattle.sound_terms.specs.declared.Depth.TheVariants.{Sixteen, ThirtyTwo, TwentyFour}
use Rattle.pcm.proofs.Steps.{written_again}
use Rattle.pcm.proofs.pack.Goals as goal

pub returns-in-Sixteen-clause-again : goal.returns-in-Sixteen-clause-again
returns-in-Sixteen-clause-again c = rw c.in-Sixteen.is (written_again Sixteen _ _ c.pack_sixteen.ensures)

pub returns-in-TwentyFour-clause-again : goal.returns-in-TwentyFour-clause-again
returns-in-TwentyFour-clause-again c = rw c.in-TwentyFour.is (written_again TwentyFour _ _ c.pack_twenty_four.ensures)

pub returns-in-ThirtyTwo-clause-again : goal.returns-in-ThirtyTwo-clause-again
returns-in-ThirtyTwo-clause-again c = rw c.in-ThirtyTwo.is (written_again ThirtyTwo _ _ c.pack_thirty_two.ensures)
