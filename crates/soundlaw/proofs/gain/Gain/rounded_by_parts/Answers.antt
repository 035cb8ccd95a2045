use Rattle.std.proofs.Common.{◌≡◌, ◌/◌, ◌^◌, ◌∙◌, sym, ap, rules, arith}
use Rattle.std.specs.Prelude.{◌+ℤ◌}
use Rattle.std.proofs.lemmas.Int.{ints, to_z-of_z}
use mir.Syntax.{w32, w64}
use mir.Val.{SFits, of_z, to_z}
use Rattle.soundlaw.proofs.Nearest.{fewer_parts, nearest_at}
use Rattle.soundlaw.proofs.gain.Gain.rounded_by_parts.Goals as goal

pub returns-then-whole_parts-share : goal.returns-then-whole_parts-share
returns-then-whole_parts-share c =
    let gain = c.args.self.now in
    let x = c.args.sample in
    let z = c.parts_and_half-product.result in
    let q = c.whole_parts-share.result in
    let parts = fewer_parts gain.parts gain.fraction.num gain.fraction.den gain.low gain.high in
    let x_fits : SFits w32 x = c.ranges.sample in
    let x_wide : SFits w64 x = search rules in
    let z_fits : SFits w64 z = search rules in
    let q_fits : SFits w64 q = search rules in
    let q_few : SFits w32 q = search rules in
    let next_fits : SFits w64 c.whole_parts.result = search rules in
    let size : to_z w64 (of_z w64 c.from-size.result) ≡ x =
    ap (λ y. to_z w64 (of_z w64 y)) (c.from-size.ensures ∙ to_z-of_z w32 x x_fits) ∙ to_z-of_z w64 x x_wide in
    let product = rw size at c.parts_and_half-product.ensures.is in
    let first = rw (to_z-of_z w64 z z_fits) at c.whole_parts-share.ensures in
    let within = c.parts_and_half-product.ensures.within in
    let sum_fits : SFits w64 (z +ℤ x) = omega (arith, ints, within, c.requires.shallow, c.requires.fit) in
    let second = rw (to_z-of_z w64 z z_fits, size, to_z-of_z w64 (z +ℤ x) sum_fits) at c.whole_parts.ensures in
    let same : q ≡ c.whole_parts.result =
    sym (to_z-of_z w64 q q_fits) ∙ ap (to_z w64) (sym c.if-whole_parts-share.true)
    ∙ to_z-of_z w64 c.whole_parts.result next_fits in
    ap (λ y. to_z w32 (of_z w32 y)) (to_z-of_z w64 q q_fits) ∙ to_z-of_z w32 q q_few
    ∙ nearest_at c.args.depth x z q gain.fraction.num gain.fraction.den (gain.parts / 2 ^ 23) c.requires.shallow c.requires.fit
    gain.fraction.at_most_one gain.fraction.some parts.0 parts.1 product first (same ∙ second)
