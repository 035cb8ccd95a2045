use Rattle.std.proofs.Common.{◌+◌, ◌∙◌, subst}
use Rattle.sound_terms.specs.Blocks.{block_frames, block_start}
use Rattle.comparison.specs.Alike.{IsCompared}
use Rattle.comparison.specs.Side.{SideWork, heard}
use Rattle.comparison.proofs.Both.{block_after}
use Rattle.comparison.proofs.first_difference.compare_block.Goals as goal

pub returns-clause-compared : goal.returns-clause-compared
returns-clause-compared g c = λ honest sure.
    let k = c.args.k in
    let mix = heard c.args.sides.now.first.work (g.S.Shelf.stored c.args.first_shelf.now) in
    let other = heard c.args.sides.now.second.work (g.T.Shelf.stored c.args.second_shelf.now) in
    let is = c.sums-block.ensures in
    let are =
    block_after g.S.Shelf g.T.Shelf c.args.first_shelf.now c.are_alike.new.first_shelf c.args.second_shelf.now
    c.are_alike.new.second_shelf c.args.sides.now c.are_alike.new.self c.sum.new.self k c.sums-block.result _
    c.in_ok-alike.ensures.kept c.in_ok-sum.ensures.summed is honest sure in
    subst (λ (w : SideWork). IsCompared (block_start w.planned.range k)
    (block_start w.planned.range k + block_frames w.planned.range k) w.planned.range.channels mix other
    c.first_difference.result) (c.in_ok-sum.ensures.kept.first_work ∙ c.in_ok-alike.ensures.kept.first_work)
    (rw (← is.frames, ← is.start, ← is.channels) (c.first_difference.ensures mix other are))
