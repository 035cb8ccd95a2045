use Rattle.std.proofs.Common.{◌≡◌, ◌*◌, length, subst}
use Rattle.sound_terms.specs.Blocks.{block_frames}
use Rattle.sound_terms.specs.Render.{Range}
use Rattle.comparison.proofs.sides.Sides.sums.Goals as goal

pub invariant_of-result : goal.invariant_of-result
invariant_of-result c = record {
  whole = rw (c.frames_of.ensures.frames, c.channels.ensures.channels) c.sums.ensures.count;
  others_whole = rw (c.frames_of.ensures.frames, c.channels.ensures.channels)
      (subst (λ (r : Range). length c.sums-2.result.now ≡ block_frames r c.args.k * r.channels) c.args.self.now.same
      c.sums-2.ensures.count);
  few_frames = c.frames_of.ensures.few;
  some_channels = c.channels.ensures.within.0;
  few_channels = c.channels.ensures.within.1;
  in_day = c.start_of.ensures.in_day;
}
