use Rattle.pcm.proofs.Zeros.{four_zero}
use Rattle.pcm.proofs.lanes.are_zero.Goals as goal

pub returns : goal.returns
returns c = four_zero c.args.a c.args.b c.args.c c.args.d c.ranges.a c.ranges.b c.ranges.c c.ranges.d
