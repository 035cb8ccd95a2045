use Rattle.std.proofs.Common.{◌∙◌, sym}
use Rattle.sound_terms.specs.Depth.{bits_of}
use Rattle.clipping.specs.Clips.{is_clipped}
use Rattle.clipping.specs.Kept.{at_full_scale}
use Rattle.clipping.proofs.Outsides.{none_passes}
use Rattle.clipping.proofs.tally.Clips.of_kept.Goals as goal

pub returns-then-outside-eq0 : goal.returns-then-outside-eq0
returns-then-outside-eq0 c =
    let bits = bits_of c.args.kept.now.depth in
    let sums = at_full_scale bits c.args.kept.now.sums.now in
    c.none.ensures bits c.args.kept.now.channels sums
    (none_passes (is_clipped bits) sums (sym c.outside_of-outside.ensures.each ∙ c.if-outside-eq0.true))
