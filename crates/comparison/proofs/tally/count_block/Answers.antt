use Rattle.std.proofs.Common.{◌≡◌, ℕ, ◌+◌, ◌≤◌, ap, ◌∙◌, subst, sym, get_or, length}
use Rattle.sound_terms.specs.Blocks.{block_frames, block_start}
use Rattle.comparison.specs.Counted.{HasCounted, of_channel}
use Rattle.comparison.specs.Side.{SideWork, heard}
use Rattle.comparison.proofs.Both.{block_after}
use Rattle.comparison.proofs.Counts.{alike_counted, few_more, sums_counted}
use Rattle.comparison.proofs.tally.count_block.Goals as goal

pub returns-then-alike-clause-counted : goal.returns-then-alike-clause-counted
returns-then-alike-clause-counted g c = λ honest sure.
    let one = c.args.sides.now.first.work in
    alike_counted (heard one (g.S.Shelf.stored c.args.first_shelf.now))
    (heard c.args.sides.now.second.work (g.T.Shelf.stored c.args.second_shelf.now))
    (block_start one.planned.range c.args.k) (block_frames one.planned.range c.args.k) one.planned.range.channels
    c.args.counts.now c.requires.wide (c.in_ok-alike.ensures.alike honest sure c.if-alike.true)

pub returns-clause-counted : goal.returns-clause-counted
returns-clause-counted g c = λ honest sure.
    let block = c.sums-block.result in
    let is = c.sums-block.ensures in
    let works = c.in_ok-sum.ensures.kept.first_work ∙ c.in_ok-alike.ensures.kept.first_work in
    let wide : length c.count_apart.new.counts ≡ block.channels =
    c.count_apart.auto.counts ∙ c.requires.wide
    ∙ sym (is.channels ∙ ap (λ (w : SideWork). w.planned.range.channels) works) in
    let mix = heard c.args.sides.now.first.work (g.S.Shelf.stored c.args.first_shelf.now) in
    let other = heard c.args.sides.now.second.work (g.T.Shelf.stored c.args.second_shelf.now) in
    let are =
    block_after g.S.Shelf g.T.Shelf c.args.first_shelf.now c.are_alike.new.first_shelf c.args.second_shelf.now
    c.are_alike.new.second_shelf c.args.sides.now c.are_alike.new.self c.sum.new.self c.args.k block _
    c.in_ok-alike.ensures.kept c.in_ok-sum.ensures.summed is honest sure in
    subst (λ (w : SideWork). HasCounted mix other (block_start w.planned.range c.args.k)
    (block_frames w.planned.range c.args.k) c.args.counts.now c.count_apart.new.counts) works
    (rw (← is.frames, ← is.start) (sums_counted block.frames block.channels block.start block.sums.now block.others.now mix
    other c.args.counts.now c.count_apart.new.counts wide are.sums are.others c.count_apart.ensures))

pub returns-clause-few : goal.returns-clause-few
returns-clause-few g c =
    let block = c.sums-block.result in
    let new = c.count_apart.new.counts in
    subst (λ (w : SideWork). (j : ℕ) → get_or new j 0 ≤ get_or c.args.counts.now j 0 + block_frames w.planned.range c.args.k)
    (c.in_ok-sum.ensures.kept.first_work ∙ c.in_ok-alike.ensures.kept.first_work)
    (rw (← c.sums-block.ensures.frames)
    (few_more (of_channel block.channels) block.sums.now block.others.now block.frames c.args.counts.now new
    c.count_apart.ensures))
