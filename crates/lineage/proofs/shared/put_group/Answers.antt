use Rattle.std.proofs.Common.{◌∙◌, List, ap, map, refl, sym}
use Rattle.lineage.specs.Groups.{Shown, position_in, seen}
use Rattle.lineage.proofs.Grouping.{insert_seen, position_own, position_seen}
use Rattle.lineage.proofs.shared.put_group.Goals as goal

pub returns-clause-groups : goal.returns-clause-groups
returns-clause-groups c =
    ap (map seen) c.in_ok-position.ensures.keys ∙ insert_seen _ (λ a b. refl) c.args.group c.args.groups.now.keys

pub returns-clause-position : goal.returns-clause-position
returns-clause-position c =
    let groups = returns-clause-groups c in
    c.in_ok-position.ensures.index
    ∙ position_seen _ (λ a b. refl) c.args.group c.args.groups.now.keys
    ∙ sym (position_own (seen c.args.group) (map seen c.args.groups.now.keys))
    ∙ ap (λ (groups : List Shown). position_in groups (seen c.args.group)) (sym groups)
