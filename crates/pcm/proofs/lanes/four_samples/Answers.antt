use Rattle.pcm.proofs.lanes.four_samples.Goals as goal

pub returns-in-Sixteen : goal.returns-in-Sixteen
returns-in-Sixteen c = rw c.in-Sixteen.is c.four_sixteen.ensures

pub returns-in-TwentyFour : goal.returns-in-TwentyFour
returns-in-TwentyFour c = rw c.in-TwentyFour.is c.four_twenty_four.ensures

pub returns-in-ThirtyTwo : goal.returns-in-ThirtyTwo
returns-in-ThirtyTwo c = rw c.in-ThirtyTwo.is c.four_thirty_two.ensures
