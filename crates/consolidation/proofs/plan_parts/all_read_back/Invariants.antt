use Rattle.std.specs.List.{AllWithin}
use Rattle.consolidation.specs.Planned.{IsMediumRun}
use Rattle.consolidation.proofs.plan_parts.all_read_back.Given as goal

-- those so far can become media
abbrev pub invariant-loop-run : goal.invariant-loop-run
invariant-loop-run l = AllWithin (IsMediumRun l.sounds l.homes) l.list 0 l.run-index
