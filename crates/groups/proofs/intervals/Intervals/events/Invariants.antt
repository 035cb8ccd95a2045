use Rattle.std.proofs.Common.{◌≡◌, take}
use Rattle.std.specs.List.{flat_map}
use Rattle.sound_terms.specs.Entries.{event_of}
use Rattle.groups.proofs.intervals.Intervals.events.Given as goal

abbrev pub invariant-loop-group : goal.invariant-loop-group
invariant-loop-group l = l.events.items ≡ flat_map event_of (take l.group-index l.group-items)
