use Rattle.groups.proofs.Packing.{pieces_joined}
use Rattle.groups.proofs.packed.Packed.followed_by.Goals as goal

pub returns : goal.returns
returns c = pieces_joined c.args.self c.args.later.now c.requires
