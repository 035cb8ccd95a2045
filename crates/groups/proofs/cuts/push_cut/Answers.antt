use Rattle.groups.proofs.CutPieces.{front_group, front_pieces, back_group, back_pieces}
use Rattle.groups.proofs.cuts.push_cut.Goals as goal

pub push_some-requires-clause-group : goal.push_some-requires-clause-group
push_some-requires-clause-group c =
    rw c.in_ok-before.ensures.before (front_group c.args.time c.args.group.now c.in_ok-before.ensures.group)

pub push_some-requires-clause-sound : goal.push_some-requires-clause-sound
push_some-requires-clause-sound c =
    rw c.in_ok-before.ensures.before (front_pieces c.args.time c.args.group.now c.in_ok-before.ensures.sound)

pub push_some-requires-2-clause-group : goal.push_some-requires-2-clause-group
push_some-requires-2-clause-group c =
    rw c.in_ok-before.ensures.after (back_group c.args.time c.args.group.now c.in_ok-before.ensures.group)

pub push_some-requires-2-clause-sound : goal.push_some-requires-2-clause-sound
push_some-requires-2-clause-sound c =
    rw c.in_ok-before.ensures.after (back_pieces c.args.time c.args.group.now c.in_ok-before.ensures.sound)
