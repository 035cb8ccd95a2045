use Rattle.std.proofs.Common.{arith, rules}
use Rattle.pcm.proofs.Steps.{one_written}
use Rattle.pcm.proofs.pack_thirty_two.Goals as goal

pub loop-i-preserved : goal.loop-i-preserved
loop-i-preserved c =
    one_written 32 c.loop-i.i c.args.samples.now c.loop-i.bytes c.write_thirty_two.new.bytes (search rules)
    (omega arith) (omega arith) c.write_thirty_two.ensures c.loop-i.invariant
