use Rattle.groups.proofs.EntryMix.{parts_add, parts_are_whole}
use Rattle.groups.proofs.PartPieces.{parts_are_group, parts_are_pieces}
use Rattle.groups.proofs.parts.group_of.Goals as goal

pub from_packed-requires : goal.from_packed-requires
from_packed-requires c =
    rw c.parts_of.ensures (λ some. (
      parts_are_group c.args.index.now c.args.event.now c.requires some,
      parts_are_pieces c.args.index.now c.args.event.now c.requires,
    ))

pub returns-clause-same_sum : goal.returns-clause-same_sum
returns-clause-same_sum c reading channel time =
    parts_add reading c.args.index.now c.args.event.now channel time c.requires

pub returns-clause-whole : goal.returns-clause-whole
returns-clause-whole c = parts_are_whole c.args.index.now c.args.event.now
