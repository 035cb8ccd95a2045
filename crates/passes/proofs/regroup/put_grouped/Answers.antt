use Rattle.passes.proofs.Regrouped.{grouped_last}
use Rattle.passes.proofs.regroup.put_grouped.Goals as goal

pub returns-in-None-clause-put : goal.returns-in-None-clause-put
returns-in-None-clause-put c =
    rw (grouped_last c.args.group c.args.output.now.groups.items _ c.requires.ends c.in-None.ensures)
    c.push.ensures.groups
