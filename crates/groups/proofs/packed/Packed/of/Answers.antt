use Rattle.groups.proofs.Three.{first_three, three_are_some}
use Rattle.groups.proofs.packed.Packed.of.Goals as goal

pub returns-in-len3-up-clause-pieces : goal.returns-in-len3-up-clause-pieces
returns-in-len3-up-clause-pieces c =
    rw (
      c.followed_by-in-len3-up-2.ensures,
      c.followed_by-in-len3-up.ensures,
      c.alone-in-len3-up.ensures,
      c.alone-in-len3-up-2.ensures,
      c.alone-in-len3-up-3.ensures,
    )
    (first_three c.args.pieces.now _ (c.requires.group (three_are_some c.args.pieces.now c.in-len3-up.len_at_least)) c.in-len3-up.len_at_least)

pub returns-in-len3-up-clause-formed : goal.returns-in-len3-up-clause-formed
returns-in-len3-up-clause-formed c =
    rw (returns-in-len3-up-clause-pieces c)
    (c.requires.group (three_are_some c.args.pieces.now c.in-len3-up.len_at_least), c.requires.sound)
