use Rattle.sound_terms.specs.Depth.{bits_of}
use Rattle.blockmachine.specs.Sums.{HasAddedTo, widened}
use Rattle.blockmachine.proofs.layers.add_samples.Given as goal

abbrev pub invariant-loop-i : goal.invariant-loop-i
invariant-loop-i l = HasAddedTo l.i (1, 1) (bits_of l.layer.frames.depth) l.layer.frames.samples.now (widened (bits_of l.layer.depth) l.fn.sums)
    (widened (bits_of l.layer.depth) l.sums)
