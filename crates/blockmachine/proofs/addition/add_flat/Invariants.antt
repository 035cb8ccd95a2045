use Rattle.sound_terms.specs.Depth.{bits_of}
use Rattle.blockmachine.specs.Sums.{HasAddedTo}
use Rattle.blockmachine.proofs.addition.add_flat.Given as goal

abbrev pub invariant-loop-i : goal.invariant-loop-i
invariant-loop-i l = HasAddedTo l.i (1, 1) (bits_of l.row.scale.depth) l.row.samples.now l.fn.sums l.sums
