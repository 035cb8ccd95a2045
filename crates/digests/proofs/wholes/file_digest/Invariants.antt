use Rattle.std.proofs.Common.{◌-◌, ◌≤◌, IsTrue, take}
use Rattle.sha2.specs.Hashers.{Holds256}
use Rattle.mediacopy.specs.Pieces.{content}
use Rattle.devices.specs.Frame.{IsQuiet}
use Rattle.digests.proofs.wholes.file_digest.Given as goal

-- the bytes so far are hashed, and nothing has failed
abbrev pub invariant-loop-done : goal.invariant-loop-done
invariant-loop-done g l =
    (l.done ≤ l.end) × IsQuiet g.S.Shelf l.initial.shelf l.shelf
    × (IsTrue (g.S.Shelf.honest l.initial.shelf)
    → Holds256 l.hasher (take l.done (content (g.S.Shelf.stored l.initial.shelf) l.name)))

abbrev pub decreases-loop-done : goal.decreases-loop-done
decreases-loop-done g l = l.end - l.done
