use Rattle.std.proofs.Common.{◌<◌, ◌^◌, ◌++◌, ◌∷◌, [], take, List, rules, length, subst, refl, arith, get_or}
use Rattle.std.specs.Prelude.{ℤ, pos}
use Rattle.std.specs.Int.{w32}
use Rattle.std.proofs.lemmas.Int.{to_z-of_z}
use Rattle.std.proofs.lemmas.List.{length-take-le, take_all, take_more}
use mir.Val.{SFits}
use Rattle.sound_terms.specs.Depth.{bits_of}
use Rattle.clipping.specs.Kept.{AreOutside}
use Rattle.clipping.proofs.kept.outside_by.Goals as goal

pub loop-k-init : goal.loop-k-init
loop-k-init c = record { each = refl; most = omega arith }

pub loop-k-preserved : goal.loop-k-preserved
loop-k-preserved c =
    let small : length c.args.sums.now < 2 ^ 63 = search rules in
    let few : length (take c.loop-k.k c.args.sums.now) < 2 ^ 63 =
    omega (arith, length-take-le c.loop-k.k c.args.sums.now (omega (arith, c.loop-k-test.true)), c.loop-k-test.true, small) in
    let fits : SFits w32 (get_or c.args.sums.now c.loop-k.k (pos 0)) = search rules in
    let here = to_z-of_z w32 (get_or c.args.sums.now c.loop-k.k (pos 0)) fits in
    rw (take_more c.args.sums.now c.loop-k.k (pos 0) c.loop-k-test.true)
    (subst (λ z. AreOutside (bits_of c.args.depth) (take c.loop-k.k c.args.sums.now ++ z ∷ [])
    c.with-outside.result.count c.with-outside.result.farthest) here
    (c.with-outside.ensures (take c.loop-k.k c.args.sums.now) few c.loop-k.invariant))

pub returns : goal.returns
returns c = subst (λ (l : List ℤ). AreOutside (bits_of c.args.depth) l c.loop-k.outside.count c.loop-k.outside.farthest)
    (take_all c.loop-k.k c.args.sums.now c.loop-k-test.false) c.loop-k.invariant
