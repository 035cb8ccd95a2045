use Rattle.rendering.specs.Cut.{no_stretch}
use Rattle.rendering.specs.CutLaws.{cut-inside}
use Rattle.rendering.proofs.order.keys_of.Goals as goal

pub source_of-requires : goal.source_of-requires
source_of-requires c =
    (cut-inside c.args.stretches.now 0 _ c.last_with.result no_stretch c.requires c.last_with.ensures.there).2
