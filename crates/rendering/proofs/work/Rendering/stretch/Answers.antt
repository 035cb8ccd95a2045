use Rattle.std.proofs.lemmas.List.{get_or_read}
use Rattle.rendering.specs.Cut.{no_stretch}
use Rattle.rendering.proofs.Jobs.{stretch_inside}
use Rattle.rendering.proofs.work.Rendering.stretch.Goals as goal

pub returns-clause-inside : goal.returns-clause-inside
returns-clause-inside c =
    let below = rw (← c.self.view_is) at c.requires in
    rw (← c.self.view_is, get_or_read c.self.inside.stretches.items c.args.job _ below c.index.ensures no_stretch)
    (stretch_inside _ c.self.invariant.0 c.args.job below)
