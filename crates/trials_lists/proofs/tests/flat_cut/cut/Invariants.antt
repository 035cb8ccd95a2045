use Rattle.std.proofs.Common.{◌≡◌, ◌++◌}
use Rattle.std.specs.List.{flat_map}
use Rattle.std.specs.Vec.Iter.{into_iter_items}
use Rattle.trials_lists.specs.FlatCut.{flat_cut}
use Rattle.trials_lists.proofs.tests.flat_cut.cut.Given as goal

abbrev pub invariant-loop-group : goal.invariant-loop-group
invariant-loop-group l =
    l.groups.items ++ flat_map (flat_cut l.time) (into_iter_items l.group-iterator)
    ≡ flat_map (flat_cut l.time) l.fn.intervals
