use Rattle.std.proofs.Common.{arith}
use Rattle.rendering.specs.Work.{heard}
use Rattle.rendering.proofs.Frames.{one_block}
use Rattle.rendering.proofs.blocks.Blocks.play_next.Goals as goal

pub returns-clause-played : goal.returns-clause-played
returns-clause-played g c honest =
    let work = c.args.self.now in
    let read = c.copy_at.ensures.only_reads in
    rw c.in_ok-played-2.ensures.next (rw (
      c.copy_at.ensures.ready,
      read.same,
      c.in_ok-played.ensures.front c.in-None.is,
      one_block work.planned.range (heard work.planned work.sounds (g.S.Shelf.stored c.args.shelf.now))
          c.args.blocks.start (omega (arith, c.requires.inside.some, c.requires.inside.there)),
    ) at (c.in_ok-played-2.ensures.played (rw (← read.honest_same) at honest)))

pub returns-clause-clips : goal.returns-clause-clips
returns-clause-clips g c honest =
    let read = c.copy_at.ensures.only_reads in
    rw c.in_ok-played-2.ensures.next (rw (c.copy_at.ensures.ready, read.same)
    at (c.in_ok-played-2.ensures.clips (rw (← read.honest_same) at honest)))
