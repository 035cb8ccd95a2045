use Rattle.std.proofs.Common.{◌≡◌, take}
use Rattle.sound_terms.specs.Groups.{pieces_of}
use Rattle.groups.proofs.intervals.Intervals.pieces.Given as goal

abbrev pub invariant-loop-group : goal.invariant-loop-group
invariant-loop-group l = l.pieces.items ≡ pieces_of (take l.group-index l.group-items)
