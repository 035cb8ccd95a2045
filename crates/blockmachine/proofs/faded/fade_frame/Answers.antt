use Rattle.std.proofs.Common.{◌≡◌, ◌<◌, length, get_or, arith, refl, rules, ◌∙◌}
use Rattle.std.specs.Prelude.{pos}
use Rattle.std.proofs.lemmas.Int.{to_z-of_z}
use Rattle.std.proofs.lemmas.List.{get_or-set_other}
use mir.Syntax.{w32}
use mir.Val.{SFits, of_z, to_z}
use Rattle.sound_terms.specs.Depth.{bits_of}
use Rattle.sound_terms.specs.Mix.{full_scale, quantized, share_of}
use Rattle.blockmachine.proofs.AtDepth.{entry_more}
use Rattle.blockmachine.proofs.faded.fade_frame.Goals as goal

pub loop-sample-init : goal.loop-sample-init
loop-sample-init c = record { faded = λ k below. absurd (omega (arith, below)); behind = λ k d later. refl }

pub rounded_share-requires : goal.rounded_share-requires
rounded_share-requires c =
    let n = c.loop-sample.sample-index in
    let x = get_or c.loop-sample.samples n (pos 0) in
    let fits : SFits w32 x = search rules in
    rw (to_z-of_z w32 x fits, c.loop-sample.invariant.behind n (pos 0) (omega arith))
    (c.requires n (pos 0) c.loop-sample-test.true)

pub loop-sample-preserved : goal.loop-sample-preserved
loop-sample-preserved c =
    let n = c.loop-sample.sample-index in
    let samples = c.loop-sample.samples in
    let first = c.args.samples.now in
    let bits = bits_of c.args.depth in
    let gain = c.args.gain.fraction in
    let x = get_or samples n (pos 0) in
    let fits : SFits w32 x = search rules in
    let inside : n < length samples = omega (arith, c.loop-sample.auto.samples) in
    let share_fits : SFits w32 c.rounded_share.result = search rules in
    let value : to_z w32 (of_z w32 c.rounded_share.result)
    ≡ quantized bits (share_of (full_scale bits (get_or first n (pos 0))) (gain.num, gain.den)) =
    to_z-of_z w32 c.rounded_share.result share_fits
    ∙ (rw (to_z-of_z w32 x fits, c.loop-sample.invariant.behind n (pos 0) (omega arith)) at c.rounded_share.ensures.share) in
    record {
      faded = entry_more (λ k z. z ≡ quantized bits (share_of (full_scale bits (get_or first k (pos 0))) (gain.num, gain.den)))
          n samples _ inside c.loop-sample.invariant.faded value;
      behind = λ k d later.
          get_or-set_other samples n k _ d (λ same. absurd (omega (arith, same, later)))
          ∙ c.loop-sample.invariant.behind k d (omega (arith, later));
    }

pub returns : goal.returns
returns c = λ k below. c.loop-sample.invariant.faded k (omega (arith, below))
