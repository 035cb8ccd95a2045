use Rattle.std.proofs.Common.{ap, ◌∙◌, rules}
use Rattle.std.specs.Prelude.{◌+ℤ◌}
use Rattle.std.proofs.lemmas.Int.{to_z-of_z}
use mir.Syntax.{w32}
use mir.Val.{SFits}
use Rattle.sound_terms.specs.Depth.{bits_of}
use Rattle.sound_terms.specs.Mix.{full_scale}
use Rattle.sound_terms.specs.Blocks.{held}
use Rattle.blockmachine.proofs.AtDepth.{layer_fits, layer_sum}
use Rattle.blockmachine.proofs.layers.layered.Goals as goal

pub returns : goal.returns
returns c =
    let sum = c.args.sum in
    let sample = c.at_depth.result in
    let fits : SFits w32 sample = search rules in
    let whole = layer_fits c.args.layer.now.depth sum sample c.args.layer.now.shallow c.requires.small c.at_depth.ensures.fit in
    let value = rw (to_z-of_z w32 c.args.sample c.ranges.sample) at c.at_depth.ensures.value in
    rw (to_z-of_z w32 sum c.ranges.sum, to_z-of_z w32 sample fits, to_z-of_z w32 (sum +ℤ sample) whole)
    (layer_sum c.args.layer.now.depth sum sample c.requires.small c.at_depth.ensures.fit
    ∙ ap (λ z. held (full_scale (bits_of c.args.layer.now.depth) sum +ℤ z)) value)
