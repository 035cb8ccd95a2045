use Rattle.std.proofs.Common.{take}
use Rattle.sound_terms.specs.Depth.{bits_of}
use Rattle.clipping.specs.Clips.{IsClippingOf}
use Rattle.blockmachine.proofs.sums.Sums.clips_one_by_one.Given as goal

abbrev pub invariant-loop-k : goal.invariant-loop-k
invariant-loop-k l = IsClippingOf (bits_of l.depth) l.self.extent.channels (take l.k l.self.values) l.clips
