use Rattle.std.proofs.Common.{◌≡◌, ◌<◌, ◌^◌, length, take}
use Rattle.sound_terms.specs.Groups.{pieces_of}
use Rattle.groups.proofs.intervals.Intervals.piece_count.Given as goal

abbrev pub invariant-loop-group : goal.invariant-loop-group
invariant-loop-group l = let done = length (pieces_of (take l.group-index l.group-items)) in done < 2 ^ 64 → l.count ≡ done
