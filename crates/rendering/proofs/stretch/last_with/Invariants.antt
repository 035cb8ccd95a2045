use Rattle.std.proofs.Common.{◌≡◌, ◌+◌}
use Rattle.rendering.specs.Cut.{group_at}
use Rattle.rendering.proofs.stretch.last_with.Given as goal

-- the last one is the one before the next
abbrev pub invariant-loop-next : goal.invariant-loop-next
invariant-loop-next l = (l.next ≡ l.last + 1) × (group_at l.stretches l.last ≡ group_at l.stretches l.k)
