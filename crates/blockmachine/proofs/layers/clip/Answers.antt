use Rattle.std.proofs.Common.{get_or, arith, rules, ◌∙◌}
use Rattle.std.specs.Prelude.{pos}
use Rattle.std.proofs.lemmas.Int.{to_z-of_z}
use mir.Syntax.{w32}
use mir.Val.{SFits}
use Rattle.blockmachine.proofs.AtDepth.{rounded_more}
use Rattle.blockmachine.proofs.layers.clip.Goals as goal

pub loop-k-preserved : goal.loop-k-preserved
loop-k-preserved c =
    let sum = get_or c.args.sums.now c.loop-k.k (pos 0) in
    let sum_fits : SFits w32 sum = search rules in
    let fits : SFits w32 c.clipped.result = search rules in
    let rounded = rw (to_z-of_z w32 sum sum_fits) at c.clipped.ensures in
    rounded_more c.args.depth c.args.depth c.args.sums.now c.loop-k.out c.loop-k.k _ (omega arith) c.loop-k.invariant
    (to_z-of_z w32 c.clipped.result fits ∙ rounded)
