use Rattle.std.proofs.Common.{get_or, arith, rules, ap, ◌∙◌}
use Rattle.std.specs.Prelude.{pos}
use Rattle.std.proofs.lemmas.Int.{to_z-of_z}
use mir.Syntax.{w32, w64}
use mir.Val.{SFits}
use Rattle.sound_terms.specs.Depth.{bits_of}
use Rattle.sound_terms.specs.Mix.{quantized}
use Rattle.blockmachine.proofs.AtDepth.{rounded_more}
use Rattle.blockmachine.proofs.layers.finish_layers.Goals as goal

pub loop-k-preserved : goal.loop-k-preserved
loop-k-preserved c =
    let sum = get_or c.args.sums.now c.loop-k.k (pos 0) in
    let sum_fits : SFits w32 sum = search rules in
    let wide : SFits w64 c.widen.result = search rules in
    let fits : SFits w32 c.finish.result = search rules in
    let full = rw (to_z-of_z w32 sum sum_fits) at c.widen.ensures.value in
    let rounded = rw (to_z-of_z w64 c.widen.result wide) at c.finish.ensures.rounded in
    rounded_more c.args.kept c.args.depth c.args.sums.now c.loop-k.out c.loop-k.k _ (omega arith) c.loop-k.invariant
    (to_z-of_z w32 c.finish.result fits ∙ rounded ∙ ap (quantized (bits_of c.args.depth)) full)
