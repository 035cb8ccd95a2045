use Rattle.std.proofs.Common.{refl}
use Rattle.soundlaw.proofs.Lanes.{lane_added}
use Rattle.soundlaw.proofs.addition.two_added.Goals as goal

pub returns : goal.returns
returns c = rw (
  lane_added c.args.first c.args.low (c.requires.first.small refl) c.requires.first.share,
  lane_added c.args.second c.args.high (c.requires.second.small refl) c.requires.second.share,
) refl
