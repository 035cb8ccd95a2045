use Rattle.std.proofs.Common.{arith, rules}
use Rattle.sound_terms.specs.Depth.{bits_of}
use Rattle.pcm.proofs.Adding.{one_added, one_fits}
use Rattle.pcm.proofs.add_at.Goals as goal

pub overflow_add-sums : goal.overflow_add-sums
overflow_add-sums c =
    one_fits (bits_of c.args.depth) c.loop-i.i c.args.bytes.now c.args.sums.now c.requires.room c.loop-i.sums
    c.sample_at.result (search rules) (search rules) (omega arith) c.loop-i.invariant c.sample_at.ensures

pub loop-i-preserved : goal.loop-i-preserved
loop-i-preserved c =
    one_added (bits_of c.args.depth) c.loop-i.i c.args.bytes.now c.args.sums.now c.requires.room c.loop-i.sums
    c.sample_at.result (search rules) (search rules) (omega arith) c.loop-i.invariant c.sample_at.ensures
