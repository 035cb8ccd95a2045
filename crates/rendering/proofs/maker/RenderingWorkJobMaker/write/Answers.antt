use Rattle.std.proofs.Common.{◌∙◌, [], sym}
use Rattle.rendering.specs.Marked.{MarkedWork}
use Rattle.rendering.proofs.Jobs.{blocks_with, placed_stretch}
use Rattle.rendering.proofs.Works.{places_as}
use Rattle.rendering.proofs.maker.RenderingWorkJobMaker.write.Goals as goal

pub returns-then-not-last-clause-marks : goal.returns-then-not-last-clause-marks
returns-then-not-last-clause-marks g c honest sources done right off last run =
    let now : MarkedWork =
    record { work = c.self.inside.rendering; run = c.self.inside.run; clips = c.self.inside.clips.items } in
    let made = placed_stretch now c.args.job sources c.self.invariant.0 c.self.invariant.1
    (rw (← c.self.view_is) at c.requires.there) c.args.bytes.now (rw (← c.self.view_is) at right) in
    c.place.ensures.marks honest c.args.self.now sources done c.args.job
    (rw (← c.self.view_is, c.place_at-at.ensures, c.stretch-stretch.ensures.stretch) made)
    off (sym last ∙ c.if-not-last.true) run

pub returns-clause-marks : goal.returns-clause-marks
returns-clause-marks g c honest sources done right off last run =
    let now : MarkedWork =
    record { work = c.self.inside.rendering; run = c.self.inside.run; clips = c.self.inside.clips.items } in
    let below = rw (← c.self.view_is) at c.requires.there in
    let made = placed_stretch now c.args.job sources c.self.invariant.0 c.self.invariant.1 below c.args.bytes.now
    (rw (← c.self.view_is) at right) in
    let with = blocks_with now c.args.job sources c.self.invariant.0 c.self.invariant.1 below
    c.blocks_with-blocks.result.start c.blocks_with-blocks.result.end c.blocks_with-blocks.ensures in
    c.place_marked.ensures.marks honest c.args.self.now sources done c.args.job (rw (← c.self.view_is) with)
    (rw (← c.self.view_is, c.place_at-at.ensures, c.stretch-stretch.ensures.stretch) made)
    off (sym last ∙ c.if-not-last.false) run

pub returns-then-not-last-clause-only_writes : goal.returns-then-not-last-clause-only_writes
returns-then-not-last-clause-only_writes g c = rw (← c.self.view_is) (places_as g.B.Bench
    (record { work = c.self.inside.rendering; run = c.self.inside.run; clips = [] }) c.place.result
    c.self.invariant.0 c.place.ensures.only_writes)

pub returns-clause-only_writes : goal.returns-clause-only_writes
returns-clause-only_writes g c = rw (← c.self.view_is) (places_as g.B.Bench
    (record { work = c.self.inside.rendering; run = c.self.inside.run; clips = [] }) c.place_marked.result
    c.self.invariant.0 c.place_marked.ensures.only_writes)
