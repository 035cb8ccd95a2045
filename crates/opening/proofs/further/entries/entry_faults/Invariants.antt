use Rattle.std.proofs.Common.{◌≡◌, false, map, take}
use Rattle.opening.specs.Faults.{refusal_of}
use Rattle.opening.specs.Further.{faults_beside, names_device}
use Rattle.opening.proofs.further.entries.entry_faults.Given as goal

-- The faults of the entries so far, and that none of them is a failed device.
abbrev pub invariant-loop-event : goal.invariant-loop-event
invariant-loop-event l =
    (map refusal_of l.faults.items ≡ faults_beside l.bound l.reported (take l.event-index l.events))
    × (names_device l.faults.items ≡ false)
