use Rattle.std.proofs.Common.{rules}
use Rattle.digests.proofs.WholeSources.{one_more}
use Rattle.digests.proofs.wholes.hash_bytes.Goals as goal

pub returns-in-Ok-clause-hashed : goal.returns-in-Ok-clause-hashed
returns-in-Ok-clause-hashed g c = λ honest held.
    one_more (g.S.Shelf.stored c.args.shelf.now c.args.name.now) c.args.at c.args.count _ c.update.new.self
    (c.in-Ok.ensures.read honest) (search rules) (c.update.ensures _ held)
