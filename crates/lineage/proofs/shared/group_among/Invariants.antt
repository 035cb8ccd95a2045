use Rattle.std.proofs.Common.{◌≡◌, ◌≤◌, take}
use Rattle.lineage.specs.Groups.{group_of, seen}
use Rattle.lineage.proofs.shared.group_among.Given as goal

-- The entries so far.
abbrev pub invariant-loop-other : goal.invariant-loop-other
invariant-loop-other l =
    (seen l.group ≡ group_of (take l.other-index l.entries) l.entry) × (l.group.more ≤ l.other-index)
