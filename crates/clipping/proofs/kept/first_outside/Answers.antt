use Rattle.std.proofs.Common.{◌∙◌, rules, ap, sym, refl, get_or}
use Rattle.std.specs.Prelude.{ℤ, pos, List}
use Rattle.std.specs.List.{position}
use Rattle.std.proofs.lemmas.List.{take_all}
use Rattle.sound_terms.specs.Depth.{bits_of}
use Rattle.clipping.specs.Clips.{is_clipped}
use Rattle.clipping.specs.Kept.{at_full_scale}
use Rattle.clipping.proofs.Outsides.{first_after, none_after, test_of}
use Rattle.clipping.proofs.kept.first_outside.Goals as goal

pub loop-k-init : goal.loop-k-init
loop-k-init c = refl

pub returns-then-is_outside : goal.returns-then-is_outside
returns-then-is_outside c =
    let bits = bits_of c.args.depth in
    first_after bits c.args.sums.now c.loop-k.k c.loop-k-test.true c.loop-k.invariant
    (test_of bits (get_or c.args.sums.now c.loop-k.k (pos 0)) _ _ (search rules) c.is_outside.ensures c.if-is_outside.true)

pub loop-k-preserved : goal.loop-k-preserved
loop-k-preserved c =
    let bits = bits_of c.args.depth in
    none_after bits c.args.sums.now c.loop-k.k c.loop-k-test.true c.loop-k.invariant
    (test_of bits (get_or c.args.sums.now c.loop-k.k (pos 0)) _ _ (search rules) c.is_outside.ensures c.if-is_outside.false)

pub returns : goal.returns
returns c =
    let bits = bits_of c.args.depth in
    sym (ap (λ (l : List ℤ). position (is_clipped bits) (at_full_scale bits l))
    (sym (take_all c.loop-k.k c.args.sums.now c.loop-k-test.false)) ∙ c.loop-k.invariant)
