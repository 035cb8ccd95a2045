use Rattle.std.proofs.Common.{refl}
use Rattle.comparison.proofs.depths.four_samples.Goals.{in-Sixteen, in-TwentyFour, in-ThirtyTwo}
use Rattle.comparison.proofs.depths.four_samples.Goals as goal

pub returns : goal.returns
returns c = elim c.match-depth.branch [
  | in-Sixteen w ↦ rw (w.result-is, w.in-Sixteen.is) w.four_sixteen.ensures
  | in-TwentyFour w ↦ rw (w.result-is, w.in-TwentyFour.is) w.four_twenty_four.ensures
  | in-ThirtyTwo w ↦ rw (w.result-is, w.in-ThirtyTwo.is) refl
]
