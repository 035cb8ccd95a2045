use Rattle.std.proofs.Common.{◌≡◌, ◌++◌, take}
use Rattle.passes.specs.Alone.{each_alone}
use Rattle.passes.proofs.fades.push_each.Given as goal

abbrev pub invariant-loop-piece : goal.invariant-loop-piece
invariant-loop-piece l = l.groups.items ≡ l.fn.groups.items ++ each_alone (take l.piece-index l.piece-items)
