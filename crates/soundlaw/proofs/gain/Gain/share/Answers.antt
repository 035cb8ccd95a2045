use Rattle.std.proofs.Common.{◌≡◌, ◌^◌, ◌∙◌, refl, sym, ap, rules, arith}
use Rattle.std.specs.Prelude.{pos, ◌*ℤ◌, ◌+ℤ◌}
use Rattle.std.proofs.lemmas.Int.{ints, to_z-of_z}
use mir.Syntax.{w64, w128}
use mir.Val.{SFits, of_z, to_z}
use Rattle.sound_terms.specs.Mix.{share_of}
use Rattle.soundlaw.proofs.Floors.{share_within}
use Rattle.soundlaw.proofs.Parts.{share_between}
use Rattle.soundlaw.proofs.gain.Gain.share.Goals as goal

right : (c : goal.Then-upper-share) → c.upper-share.result ≡ share_of c.args.v (c.args.self.now.fraction.num, c.args.self.now.fraction.den)
right c =
    let gain = c.args.self.now in
    let v_fits : SFits w64 c.args.v = c.ranges.v in
    let s = pos 4 *ℤ c.args.v in
    let l = c.scaled_parts-low.result in
    let s_fits : SFits w64 s = omega (arith, ints, c.requires.low, c.requires.high) in
    let s_wide : SFits w128 s = omega (arith, ints, c.requires.low, c.requires.high) in
    let scaled : to_z w64 (of_z w64 (pos 4 *ℤ to_z w64 (of_z w64 c.args.v))) ≡ s =
    rw (to_z-of_z w64 c.args.v v_fits) (to_z-of_z w64 s s_fits) in
    let product = rw scaled at c.scaled_parts-low.ensures.is in
    let l_fits : SFits w128 l = search rules in
    let first = rw (to_z-of_z w128 l l_fits) at c.upper-share.ensures in
    let from : to_z w128 (of_z w128 c.from.result) ≡ s =
    ap (λ x. to_z w128 (of_z w128 x)) (c.from.ensures ∙ scaled) ∙ to_z-of_z w128 s s_wide in
    let within = c.scaled_parts-low.ensures.within in
    let sum_fits : SFits w128 (l +ℤ s) = omega (arith, ints, within, c.requires.low, c.requires.high) in
    let second = rw (to_z-of_z w128 l l_fits, from, to_z-of_z w128 (l +ℤ s) sum_fits) at c.upper.ensures in
    let fits : SFits w64 c.upper-share.result = search rules in
    let next_fits : SFits w64 c.upper.result = search rules in
    let same : c.upper-share.result ≡ c.upper.result =
    sym (to_z-of_z w64 c.upper-share.result fits) ∙ ap (to_z w64) (sym c.if-upper-share.true)
    ∙ to_z-of_z w64 c.upper.result next_fits in
    share_between gain.fraction.num gain.fraction.den gain.parts gain.fraction.some gain.low gain.high c.args.v s l c.upper-share.result refl
    product first (same ∙ second)

pub returns-then-upper-share-clause-share : goal.returns-then-upper-share-clause-share
returns-then-upper-share-clause-share c =
    let fits : SFits w64 c.upper-share.result = search rules in
    to_z-of_z w64 c.upper-share.result fits ∙ right c

pub returns-then-upper-share-clause-within : goal.returns-then-upper-share-clause-within
returns-then-upper-share-clause-within c =
    let gain = c.args.self.now in
    let fits : SFits w64 c.upper-share.result = search rules in
    let within = share_within c.args.v (2 ^ 47) gain.fraction.num gain.fraction.den gain.fraction.at_most_one gain.fraction.some c.requires.low c.requires.high in
    rw (to_z-of_z w64 c.upper-share.result fits, right c) within
