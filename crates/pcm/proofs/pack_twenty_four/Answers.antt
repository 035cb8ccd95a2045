use Rattle.std.proofs.Common.{arith, rules}
use Rattle.pcm.proofs.Steps.{one_written}
use Rattle.pcm.proofs.pack_twenty_four.Goals as goal

pub loop-i-preserved : goal.loop-i-preserved
loop-i-preserved c =
    one_written 24 c.loop-i.i c.args.samples.now c.loop-i.bytes c.write_twenty_four.new.bytes (search rules)
    (omega arith) (omega arith) c.write_twenty_four.ensures c.loop-i.invariant
