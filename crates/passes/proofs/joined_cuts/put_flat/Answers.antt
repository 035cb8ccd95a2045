use Rattle.passes.proofs.JoinedCuts.{flat_last}
use Rattle.passes.proofs.joined_cuts.put_flat.Goals as goal

pub lengthen-requires-clause-first : goal.lengthen-requires-clause-first
lengthen-requires-clause-first c = rw (← c.before-2.ensures) c.in-Some.ensures

pub returns-in-None-clause-put : goal.returns-in-None-clause-put
returns-in-None-clause-put c =
    let none = rw c.before-2.ensures at c.in-None.ensures in
    let last = flat_last c.args.piece c.requires.flat c.args.output.now.groups.items _ c.requires.ends none in
    rw (last, ← c.alone.ensures) c.push.ensures.groups
