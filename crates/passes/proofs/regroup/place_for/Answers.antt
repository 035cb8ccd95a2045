use Rattle.passes.proofs.Regrouped.{group_first}
use Rattle.passes.proofs.regroup.place_for.Goals as goal

pub returns : goal.returns
returns c =
    group_first c.args.group.now c.first.result c.args.ends.now c.first_before.result c.first.ensures.piece
    c.first_before.ensures
