use Rattle.std.proofs.Common.{◌≡◌, inr, ◌<◌, ◌≤◌, ◌+◌, ◌-◌, ◌*◌, drop, length, take, arith, refl, sym, ap, ◌∙◌, subst, length-take, length-drop}
use Rattle.std.proofs.Math.Nat.{mul-le-mul_right}
use Rattle.sound_terms.specs.Depth.{bits_of}
use Rattle.sound_terms.specs.Groups.{fraction_of}
use Rattle.pcm.specs.Samples.{FitsDepth}
use Rattle.facts.specs.Parts.{length-put_mid}
use Rattle.blockmachine.proofs.Added.{ramp_shorter}
use Rattle.blockmachine.proofs.FadedFrames.{frame_more}
use Rattle.blockmachine.proofs.Places.{get_or-part, kept_elsewhere}
use Rattle.blockmachine.proofs.Slopes.{slope_fraction, slope_more, slope_next}
use Rattle.blockmachine.proofs.faded.fade_frames.Goals as goal

pub loop-i-preserved : goal.loop-i-preserved
loop-i-preserved c =
    let i = c.loop-i.i in
    let bits = bits_of c.args.depth in
    let shape = c.args.shape in
    let channels = c.args.channels in
    let first = c.args.samples.now in
    let old = c.loop-i.samples in
    let new = c.fade_frame.new.samples in
    let a = i * channels in
    let k = a + channels - a in
    let long : k ≡ channels = omega arith in
    let row : (i + 1) * channels ≤ c.args.frames * channels = mul-le-mul_right channels (omega arith) in
    let same = c.loop-i.invariant.same_length in
    let fit : a + k ≤ length old = omega (arith, row, same, c.requires.whole) in
    let part = take k (drop a old) in
    let taken : length part ≡ k = omega (arith, length-take k (drop a old), length-drop a old, fit) in
    let whole : length new ≡ k = c.fade_frame.auto.samples ∙ taken in
    let slope = c.loop-i.slope in
    let rise = slope.rise in
    let next = c.step-gain.ensures in
    let gain = c.step-gain.result in
    let fraction : (gain.fraction.num, gain.fraction.den) ≡ fraction_of shape i =
    next.gain ∙ slope_fraction shape i slope.falls rise.fraction.num rise.fraction.den rise.by c.loop-i.invariant.slope in
    record {
      slope = slope_next shape i slope.falls _ rise.fraction.num rise.fraction.den rise.by _ _ _ c.loop-i.invariant.slope
          next.falls next.num next.den next.by;
      same_length = length-put_mid a k old new fit whole ∙ same;
      faded = frame_more shape channels bits i a k first old new (gain.fraction.num, gain.fraction.den) refl long fit whole
          c.loop-i.invariant.behind fraction c.fade_frame.ensures c.loop-i.invariant.faded;
      behind = λ n d later.
          kept_elsewhere a k old new d fit whole n (inr (omega (arith, later)))
          ∙ c.loop-i.invariant.behind n d (omega (arith, later));
    }

pub loop-i-init : goal.loop-i-init
loop-i-init c = record {
  slope = c.of-slope.ensures;
  same_length = refl;
  faded = λ n below. absurd (omega (arith, below));
  behind = λ n d later. refl;
}

pub of-slope-requires : goal.of-slope-requires
of-slope-requires c = ramp_shorter c.args.shape c.args.frames 1 c.requires.some_frames c.requires.ramp

pub step-gain-requires : goal.step-gain-requires
step-gain-requires c =
    let i = c.loop-i.i in
    let rise = c.loop-i.slope.rise in
    slope_more c.args.shape i c.loop-i.slope.falls rise.fraction.num rise.fraction.den rise.by c.loop-i.invariant.slope
    (ramp_shorter c.args.shape c.args.frames (i + 1) (omega arith) c.requires.ramp)

pub fade_frame-requires : goal.fade_frame-requires
fade_frame-requires c =
    let channels = c.args.channels in
    let a = c.loop-i.i * channels in
    let k = a + channels - a in
    let old = c.loop-i.samples in
    let row : (c.loop-i.i + 1) * channels ≤ c.args.frames * channels = mul-le-mul_right channels (omega arith) in
    λ j d below.
    let near : j < k = omega (arith, below, length-take k (drop a old)) in
    let within : a + j < length c.args.samples.now = omega (arith, row, near, c.requires.whole) in
    subst (FitsDepth (bits_of c.args.depth)) (sym (get_or-part a k j old d near ∙ c.loop-i.invariant.behind (a + j) d (omega arith)))
    (c.requires.fit (a + j) d within)

pub returns : goal.returns
returns c = λ k below.
    let end : c.loop-i.i ≡ c.args.frames = omega arith in
    c.loop-i.invariant.faded k (omega (arith, below, ap (λ n. n * c.args.channels) end, c.requires.whole))
