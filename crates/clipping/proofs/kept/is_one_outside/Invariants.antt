use Rattle.std.proofs.Common.{◌≡◌, false, take}
use Rattle.sound_terms.specs.Depth.{bits_of}
use Rattle.clipping.specs.Kept.{AreOutside}
use Rattle.clipping.proofs.kept.is_one_outside.Given as goal

abbrev pub invariant-loop-k : goal.invariant-loop-k
invariant-loop-k l = l.found ≡ false → AreOutside (bits_of l.fn.depth) (take l.k l.fn.sums) 0 0
