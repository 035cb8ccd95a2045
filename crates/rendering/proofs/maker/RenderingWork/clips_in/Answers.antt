use Rattle.std.proofs.Common.{sym}
use Rattle.std.proofs.lemmas.List.{get_or_read_under}
use Rattle.rendering.specs.Maker.{no_clips}
use Rattle.rendering.specs.Cut.{no_stretch, stretch_at}
use Rattle.rendering.specs.Work.{heard}
use Rattle.rendering.proofs.Clipped.{done_kept, open_sums}
use Rattle.rendering.proofs.maker.RenderingWork.clips_in.Goals as goal

pub returns-then-stretch : goal.returns-then-stretch
returns-then-stretch c = rw (← c.self.view_is) (λ sources marked uniform noted.
    let work = c.self.inside.rendering in
    let is = c.stretch-stretch.ensures in
    c.none.ensures _ _ _ (done_kept work.planned.range (heard work.planned work.sounds sources) marked
    (stretch_at work.stretches c.args.job)
    (uniform c.args.job no_stretch (rw (← c.self.view_is) at c.requires)) (rw is.stretch at is.inside)
    (rw is.stretch at c.if-stretch.true)))

pub returns : goal.returns
returns c = rw (← c.self.view_is) (λ sources marked uniform noted.
    let work = c.self.inside.rendering in
    let is = c.stretch-stretch.ensures in
    let below = rw (← c.self.view_is) at c.requires in
    let off = rw is.stretch at c.if-stretch.false in
    let value = get_or_read_under c.self.inside.clips.items c.args.job _ c.index.result.now no_clips c.index.ensures
    below (sym c.self.invariant.2.1) in
    rw (
      open_sums work.planned.range (heard work.planned work.sounds sources) marked
          (stretch_at work.stretches c.args.job) (uniform c.args.job no_stretch below) (rw is.stretch at is.inside) off,
      value,
    ) (noted off))
