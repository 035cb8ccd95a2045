use Rattle.std.proofs.Common.{◌∙◌, ◌<◌, sym, arith}
use Rattle.std.proofs.lemmas.Bool.{false≢true}
use Rattle.sound_terms.specs.Depth.{bits_of}
use Rattle.clipping.specs.Clips.{IsClippedOn}
use Rattle.clipping.specs.Kept.{at_full_scale}
use Rattle.clipping.proofs.Marked.{none_set}
use Rattle.clipping.proofs.Outsides.{channel_marked, channel_passed}
use Rattle.clipping.proofs.kept.Kept.channels_outside.Goals as goal
use Rattle.clipping.proofs.kept.Kept.channels_outside.Goals.{then-is_outside_on, else-is_outside_on}

pub loop-channel-init : goal.loop-channel-init
loop-channel-init c = λ k. (λ set. none_set k set _, λ both. absurd (omega (arith, both.0)))

pub loop-channel-preserved : goal.loop-channel-preserved
loop-channel-preserved c =
    let n = c.loop-channel.channel in
    let few : n < 64 = omega (arith, c.loop-channel-test.true, c.args.self.now.few_channels) in
    elim c.if-is_outside_on.branch [
      | then-is_outside_on w ↦ rw w.found-is (channel_marked
          (IsClippedOn (bits_of c.args.self.now.depth) c.args.self.now.channels (at_full_scale (bits_of c.args.self.now.depth) c.args.self.now.sums.now))
          c.loop-channel.found n c.loop-channel.invariant few (c.is_outside_on.ensures.0 w.if-is_outside_on.true))
      | else-is_outside_on w ↦ rw w.found-is (channel_passed
          (IsClippedOn (bits_of c.args.self.now.depth) c.args.self.now.channels (at_full_scale (bits_of c.args.self.now.depth) c.args.self.now.sums.now))
          c.loop-channel.found n c.loop-channel.invariant
          (λ is. false≢true (sym w.if-is_outside_on.false ∙ c.is_outside_on.ensures.1 is)))
    ]

pub returns : goal.returns
returns c = λ channel. (
  λ set. ((c.loop-channel.invariant channel).0 set).1,
  λ is. (c.loop-channel.invariant channel).1 (omega (arith, is.is_channel, c.loop-channel-test.false), is),
)
