use Rattle.std.proofs.Common.{◌≡◌, ◌<◌, length, get_or, arith, rules, ap, ◌∙◌}
use Rattle.std.specs.Prelude.{pos, ◌+ℤ◌}
use Rattle.std.proofs.lemmas.Int.{to_z-of_z}
use mir.Syntax.{w64}
use mir.Val.{SFits}
use Rattle.sound_terms.specs.Depth.{bits_of}
use Rattle.sound_terms.specs.Blocks.{held}
use Rattle.blockmachine.proofs.Added.{added_more}
use Rattle.blockmachine.proofs.addition.add_shares.Goals as goal

pub loop-i-preserved : goal.loop-i-preserved
loop-i-preserved c =
    let n = c.loop-i.i in
    let sums = c.loop-i.sums in
    let inside : n < length sums = omega arith in
    let sample_fits : SFits w64 c.full_sample-sample.result = search rules in
    let sum_fits : SFits w64 (get_or sums n (pos 0)) = search rules in
    let fits : SFits w64 c.added.result = search rules in
    let share_fits : SFits w64 c.share-share.result = search rules in
    let share = rw (to_z-of_z w64 c.full_sample-sample.result sample_fits) at c.share-share.ensures.share in
    let sum =
    rw (to_z-of_z w64 (get_or sums n (pos 0)) sum_fits, to_z-of_z w64 c.share-share.result share_fits) at c.added.ensures in
    let value =
    to_z-of_z w64 c.added.result fits ∙ sum
    ∙ ap (λ z. held (get_or sums n (pos 0) +ℤ z)) (rw (← c.full_sample-sample.ensures.value) share) in
    added_more n (c.args.gain.fraction.num, c.args.gain.fraction.den) (bits_of c.args.row.now.scale.depth) c.args.row.now.samples.now c.args.sums.now sums _
    inside c.loop-i.invariant value

pub added-requires : goal.added-requires
added-requires c =
    let n = c.loop-i.i in
    let sums = c.loop-i.sums in
    let inside : n < length c.args.sums.now = omega arith in
    let sum_fits : SFits w64 (get_or sums n (pos 0)) = search rules in
    let share_fits : SFits w64 c.share-share.result = search rules in
    let same : get_or sums n (pos 0) ≡ get_or c.args.sums.now n (pos 0) = c.loop-i.invariant.1 n (omega arith) in
    record {
      small = λ yes. rw (to_z-of_z w64 (get_or sums n (pos 0)) sum_fits, same) (c.requires.small yes n (pos 0) inside);
      share = rw (to_z-of_z w64 c.share-share.result share_fits) c.share-share.ensures.within;
    }

pub returns : goal.returns
returns c = λ k below. c.loop-i.invariant.0 k (omega arith)
