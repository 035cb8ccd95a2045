use Rattle.std.proofs.Common.{◌≡◌, ◌-◌, ◌<◌, ◌≤◌, length, arith}
use Rattle.std.proofs.lemmas.List.{drop_all, drop_more}
use Rattle.sound_terms.specs.Blocks.{block_count, block_start}
use Rattle.rendering.specs.Clipping.{unmarked}
use Rattle.rendering.specs.Cut.{no_stretch, stretch_at}
use Rattle.rendering.specs.Work.{heard}
use Rattle.rendering.specs.Written.{frames_before}
use Rattle.rendering.proofs.Clipped.{clips_after, clips_none}
use Rattle.rendering.proofs.Jobs.{stretch_inside}
use Rattle.rendering.proofs.maker.RenderingWork.clips.Goals as goal

pub loop-job-init : goal.loop-job-init
loop-job-init c = rw (← c.self.view_is) (
  0,
  c.self.invariant.0.cut,
  λ sources marked uniform noted. clips_none c.self.inside.rendering.planned.range _ 0 c.none-clips.ensures,
)

pub loop-job-preserved : goal.loop-job-preserved
loop-job-preserved c =
    let work = c.self.inside.rendering in
    let whole = c.self.invariant.0 in
    let range = work.planned.range in
    let job = c.loop-job.job in
    let s = stretch_at work.stretches job in
    let is = rw (← c.self.view_is) at c.loop-job.invariant in
    let below : job < length work.stretches = omega (arith, c.loop-job-test.true, c.job_count-job-end.ensures) in
    let cut = rw (drop_more work.stretches job no_stretch below) at is.1 in
    let inside = stretch_inside work whole job below in
    let stretch = c.stretch-stretch.ensures.stretch in
    let none : frames_before range s.first ≡ frames_before range s.first - frames_before range 0 = omega arith in
    let before = rw (stretch, none) at c.samples_before-before.ensures in
    rw (← c.self.view_is) (
      s.end,
      cut.2,
      λ sources marked uniform noted.
          let mix = unmarked marked range (heard work.planned work.sounds sources) in
          clips_after range mix 0 s.first s.end (omega arith) (omega (arith, inside.some))
          (omega (arith, inside.some, inside.there)) whole.planned.in_day whole.planned.few_channels before
          c.joined-clips.ensures (rw cut.0 (is.2 sources marked uniform noted))
          ((rw (← c.self.view_is) at c.clips_in.ensures) sources marked uniform (noted job below)),
    )

pub returns : goal.returns
returns c =
    let work = c.self.inside.rendering in
    let range = work.planned.range in
    let is = rw (← c.self.view_is) at c.loop-job.invariant in
    let behind : length work.stretches ≤ c.loop-job.job = omega (arith, c.job_count-job-end.ensures) in
    let all : is.0 ≡ block_count range = rw (drop_all c.loop-job.job work.stretches behind) at is.1 in
    let start : block_start range 0 ≡ range.from = omega arith in
    let count : frames_before range (block_count range) - frames_before range 0 ≡ range.to - range.from =
    omega (arith, c.self.invariant.0.planned.some) in
    rw (← c.self.view_is)
    (λ sources marked uniform noted. rw (all, start, count) at (is.2 sources marked uniform noted))
