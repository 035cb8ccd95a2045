use Rattle.std.proofs.Common.{◌≡◌, take}
use Rattle.sound_terms.specs.Depth.{bits_of}
use Rattle.blockmachine.specs.Sums.{widened}
use Rattle.blockmachine.proofs.layers.widen_by.Given as goal

abbrev pub invariant-loop-i : goal.invariant-loop-i
invariant-loop-i l = take l.i l.values ≡ widened (bits_of l.scale.depth) (take l.i l.layers)
