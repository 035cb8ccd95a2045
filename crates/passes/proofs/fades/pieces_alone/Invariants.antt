use Rattle.std.proofs.Common.{◌≡◌, take}
use Rattle.std.specs.List.{flat_map}
use Rattle.passes.specs.Alone.{each_alone}
use Rattle.passes.proofs.fades.pieces_alone.Given as goal

abbrev pub invariant-loop-group : goal.invariant-loop-group
invariant-loop-group l = l.groups.items ≡ flat_map each_alone (take l.group-index l.group-items)
