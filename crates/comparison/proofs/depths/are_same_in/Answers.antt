use Rattle.std.proofs.Common.{◌∙◌, ap, rules, sym}
use Rattle.std.proofs.lemmas.Int.{to_z-of_z}
use mir.Syntax.{w32}
use mir.Val.{SFits, to_z}
use Rattle.sound_terms.specs.Depth.{bits_of}
use Rattle.comparison.proofs.Lanes.{one_same}
use Rattle.comparison.proofs.depths.are_same_in.Goals as goal

pub loop-i-preserved : goal.loop-i-preserved
loop-i-preserved c =
    let sample = c.sample_at.result in
    let counterpart = c.sample_at-in-loop-i.result in
    let fits : SFits w32 sample = search rules in
    let other_fits : SFits w32 counterpart = search rules in
    one_same (bits_of c.args.pair.now.depth) (bits_of c.args.pair.now.other) c.loop-i.i c.args.pair.now.bytes.now
    c.args.pair.now.others.now sample counterpart c.sample_at.ensures c.sample_at-in-loop-i.ensures
    (sym (to_z-of_z w32 sample fits) ∙ ap (to_z w32) c.if-sample_at.false ∙ to_z-of_z w32 counterpart other_fits)
    c.loop-i.invariant
