use Rattle.comparison.proofs.Both.{none_matched}
use Rattle.comparison.proofs.Heard.{projects_counted, read_as}
use Rattle.comparison.proofs.stretches.count_in.Goals as goal

pub count_sides-requires-clause-matched : goal.count_sides-requires-clause-matched
count_sides-requires-clause-matched g c =
    none_matched g.S.Shelf g.T.Shelf _ _ c.in_ok-sides.sides c.in_ok-sides.ensures.no_match

pub returns-clause-counted : goal.returns-clause-counted
returns-clause-counted g c = λ honest sure.
    projects_counted (g.S.Shelf.stored c.args.first_shelf.now) (g.T.Shelf.stored c.args.second_shelf.now)
    c.args.first.now.project c.args.second.now.project c.args.first.now.bound c.args.second.now.bound
    _ c.in_ok-sides.sides.first c.in_ok-sides.sides.second c.in_ok-sides.ensures.first c.in_ok-sides.ensures.second
    c.count_sides.new.counts c.count_sides.result (c.count_sides.ensures.counted honest sure)

pub returns-clause-files : goal.returns-clause-files
returns-clause-files g c =
    read_as g.S.Shelf g.T.Shelf _ _ _ _ _ _ _ _ c.count_sides.result c.in_ok-sides.ensures.first.sounds
    c.in_ok-sides.ensures.second.sounds c.count_sides.ensures.kept.files
