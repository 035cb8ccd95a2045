use Rattle.sound_terms.specs.Depth.{bits_of}
use Rattle.blockmachine.specs.Sums.{HasAddedTo}
use Rattle.blockmachine.proofs.addition.add_shares.Given as goal

abbrev pub invariant-loop-i : goal.invariant-loop-i
invariant-loop-i l = HasAddedTo l.i (l.gain.fraction.num, l.gain.fraction.den) (bits_of l.row.scale.depth) l.row.samples.now l.fn.sums l.sums
