use Rattle.std.proofs.Common.{◌-◌, ◌≤◌, ℕ, IsTrue, List}
use Rattle.sha2.specs.Hashers.{Holds256}
use Rattle.devices.specs.Frame.{IsQuiet}
use Rattle.digests.specs.Media.{IsHashed}
use Rattle.digests.proofs.digests.hash_run.Given as goal

-- the sample frames so far are hashed, and nothing has failed
abbrev pub invariant-loop-done : goal.invariant-loop-done
invariant-loop-done g l =
    (l.done ≤ l.run.length) × IsQuiet g.S.Shelf l.initial.shelf l.shelf
    × (IsTrue (g.S.Shelf.honest l.initial.shelf) → (m : List ℕ) → Holds256 l.initial.hasher m
    → IsHashed l.kept.sound.now (g.S.Shelf.stored l.initial.shelf) l.run.first l.done m l.hasher)

abbrev pub decreases-loop-done : goal.decreases-loop-done
decreases-loop-done g l = l.run.length - l.done
