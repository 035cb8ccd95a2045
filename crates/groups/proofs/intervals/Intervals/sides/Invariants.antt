use Rattle.std.proofs.Common.{◌≡◌, take}
use Rattle.std.specs.List.{flat_map}
use Rattle.sound_terms.specs.Passes.{cut_group}
use Rattle.groups.proofs.intervals.Intervals.sides.Given as goal

abbrev pub invariant-loop-group : goal.invariant-loop-group
invariant-loop-group l = l.sides.items ≡ flat_map (cut_group l.time) (take l.group-index l.group-items)
