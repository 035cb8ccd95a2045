use Rattle.std.proofs.Common.{◌∙◌, rules, refl, ap, sym, arith, get_or, subst, take, List}
use Rattle.std.specs.Prelude.{ℤ, pos}
use Rattle.std.specs.Int.{w32}
use Rattle.std.proofs.lemmas.Bool.{or_parts}
use Rattle.std.proofs.lemmas.Int.{to_z-of_z}
use Rattle.std.proofs.lemmas.List.{take_all, take_more}
use mir.Val.{SFits}
use Rattle.sound_terms.specs.Depth.{bits_of}
use Rattle.sound_terms.specs.Mix.{full_scale}
use Rattle.clipping.specs.Clips.{is_clipped}
use Rattle.clipping.specs.Kept.{AreOutside}
use Rattle.clipping.proofs.Outsides.{inside_more}
use Rattle.clipping.proofs.kept.is_one_outside.Goals as goal

pub loop-k-init : goal.loop-k-init
loop-k-init c = λ none. record { each = refl; most = omega arith }

pub loop-k-preserved : goal.loop-k-preserved
loop-k-preserved c = λ none.
    let bits = bits_of c.args.depth in
    let sums = c.args.sums.now in
    let sum = get_or sums c.loop-k.k (pos 0) in
    let fits : SFits w32 sum = search rules in
    let parts = or_parts c.loop-k.found c.is_outside-found.result none in
    let inside = ap (λ z. is_clipped bits (full_scale bits z)) (sym (to_z-of_z w32 sum fits))
    ∙ sym c.is_outside-found.ensures ∙ parts.1 in
    rw (take_more sums c.loop-k.k (pos 0) c.loop-k-test.true)
    (inside_more bits (take c.loop-k.k sums) sum 0 0 inside (c.loop-k.invariant parts.0))

pub returns : goal.returns
returns c = λ none. subst (λ (l : List ℤ). AreOutside (bits_of c.args.depth) l 0 0)
    (take_all c.loop-k.k c.args.sums.now c.loop-k-test.false) (c.loop-k.invariant none)
