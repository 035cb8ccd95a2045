use Rattle.std.proofs.Common.{◌≡◌, ◌++◌}
use Rattle.std.specs.Vec.Iter.{into_iter_items}
use Rattle.sound_terms.specs.Passes.{without_silent}
use Rattle.passes.proofs.silence.sounding.Given as goal

abbrev pub invariant-loop-group : goal.invariant-loop-group
invariant-loop-group l =
    l.sounding.items ++ without_silent (into_iter_items l.group-iterator) l.left
    ≡ without_silent l.fn.intervals l.fn.silent
