use Rattle.std.proofs.Common.{◌≡◌, ◌∙◌, ◌+◌, ◌-◌, ◌*◌, refl, rules, arith}
use Rattle.rendering.specs.Work.{heard}
use Rattle.rendering.specs.Written.{frames_before}
use Rattle.rendering.proofs.Clipped.{clips_after, clips_none}
use Rattle.rendering.proofs.Frames.{blocks_behind, bytes_more, bytes_room}
use Rattle.rendering.proofs.blocks.Blocks.play_stretch.Goals as goal

pub play_next-requires : goal.play_next-requires
play_next-requires g c =
    let range = c.args.self.now.planned.range in
    let k = c.loop-next.next in
    let is = c.loop-next.invariant in
    let room = bytes_room range (frames_before range c.args.blocks.start) (frames_before range k)
    (frames_before range (k + c.min.result)) (frames_before range c.args.blocks.end) (omega (arith, is.behind))
    (omega arith) (omega (arith, c.min.ensures, c.loop-next-test.true)) in
    rw is.ready (record {
      inside = record {
        some = omega (arith, c.min.ensures, is.some, c.loop-next-test.true);
        there = omega (arith, c.min.ensures, c.requires.inside.there, c.loop-next-test.true);
      };
      enough = omega (arith, is.ended, room, c.requires.exact, c.loop-next.auto.bytes);
    })

pub loop-next-preserved : goal.loop-next-preserved
loop-next-preserved g c =
    let work = c.args.self.now in
    let range = work.planned.range in
    let first = c.args.blocks.start in
    let k = c.loop-next.next in
    let next = c.in_ok-played.played.next in
    let is = c.loop-next.invariant in
    let on = c.in_ok-played.ensures.next in
    let below = c.loop-next-test.true in
    let inside = c.requires.inside.there in
    let mix = heard work.planned work.sounds (g.S.Shelf.stored c.args.shelf.now) in record {
      behind = omega (arith, is.behind, on.0);
      inside = omega (arith, on.1, c.min.ensures, below);
      some = c.blocks_ahead-ahead.ensures;
      ready = c.play_next.ensures.ready ∙ is.ready;
      ended = (rw (is.ready, is.ended) at c.in_ok-played.ensures.ended) ∙ bytes_more range (frames_before range first)
          (frames_before range k) (frames_before range next) (omega (arith, is.behind)) (omega (arith, on.0));
      sources = search rules;
      played = λ honest.
          let now = rw (← is.sources.honest_same) at honest in
          (rw (is.ready, is.sources.same, is.played honest) at (c.in_ok-played.ensures.played now))
          ∙ blocks_behind range mix first k next is.behind (omega (arith, on.0)) (omega (arith, below, inside));
      clips = λ honest.
          let now = rw (← is.sources.honest_same) at honest in
          let of = rw c.self.view_is at c.self.invariant.0 in
          let frames : c.from.result * 4096 ≡ frames_before range k - frames_before range first =
          omega (arith, inside, below, is.behind, c.from.ensures) in
          let channels : c.from-channels.result ≡ range.channels = search rules in
          clips_after range mix first k next is.behind (omega (arith, on.0)) (omega (arith, below, inside))
          of.planned.in_day of.planned.few_channels (rw (frames, channels) refl) c.joined-clips.ensures
          (is.clips honest) (rw (is.ready, is.sources.same) at (c.in_ok-played.ensures.clips now));
    }

pub loop-next-init : goal.loop-next-init
loop-next-init g c =
    let work = c.args.self.now in record {
      behind = omega arith;
      inside = omega (arith, c.requires.inside.some);
      some = omega (arith, c.requires.inside.some);
      ready = search rules;
      ended = search rules;
      sources = search rules;
      played = search rules;
      clips = λ honest. clips_none work.planned.range
          (heard work.planned work.sounds (g.S.Shelf.stored c.args.shelf.now)) c.args.blocks.start
          c.none-clips.ensures;
    }

pub returns-clause-clips : goal.returns-clause-clips
returns-clause-clips g c honest =
    let is = c.loop-next.invariant in
    let all : c.loop-next.next ≡ c.args.blocks.end = omega (arith, is.inside, c.loop-next-test.false) in
    rw all at (is.clips honest)
