use Rattle.std.proofs.Common.{take}
use Rattle.sound_terms.specs.Depth.{bits_of}
use Rattle.clipping.specs.Kept.{AreOutside}
use Rattle.clipping.proofs.kept.outside_by.Given as goal

abbrev pub invariant-loop-k : goal.invariant-loop-k
invariant-loop-k l = AreOutside (bits_of l.fn.depth) (take l.k l.fn.sums) l.outside.count l.outside.farthest
