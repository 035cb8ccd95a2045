use Rattle.list_terms.specs.Heard.{sounds_of}
use Rattle.comparison.proofs.Both.{none_matched}
use Rattle.comparison.proofs.Heard.{projects_compared, read_as}
use Rattle.comparison.proofs.projects.compare_in.Goals as goal

pub compare_sides-requires : goal.compare_sides-requires
compare_sides-requires g c =
    none_matched g.S.Shelf g.T.Shelf c.args.first_shelf.now c.args.second_shelf.now c.in_ok-sides.sides
    c.in_ok-sides.ensures.no_match

pub returns-clause-compared : goal.returns-clause-compared
returns-clause-compared g c = λ honest sure.
    projects_compared (g.S.Shelf.stored c.args.first_shelf.now) (g.T.Shelf.stored c.args.second_shelf.now)
    c.args.first.now.project c.args.second.now.project c.args.first.now.bound c.args.second.now.bound c.args.region.now
    c.in_ok-sides.sides.first c.in_ok-sides.sides.second c.in_ok-sides.ensures.first c.in_ok-sides.ensures.second
    c.compare_sides.result (c.compare_sides.ensures.compared honest sure)

pub returns-clause-files : goal.returns-clause-files
returns-clause-files g c =
    read_as g.S.Shelf g.T.Shelf c.args.first_shelf.now c.compare_sides.new.first_shelf c.args.second_shelf.now
    c.compare_sides.new.second_shelf c.in_ok-sides.sides.first.work.sounds c.in_ok-sides.sides.second.work.sounds
    (sounds_of c.args.first.now.bound) (sounds_of c.args.second.now.bound) c.compare_sides.result
    c.in_ok-sides.ensures.first.sounds c.in_ok-sides.ensures.second.sounds c.compare_sides.ensures.kept.files
