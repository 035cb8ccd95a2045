use Rattle.std.proofs.Common.{◌≡◌, All, IsTrue, take}
use Rattle.list_terms.specs.Renewed.{numbered}
use Rattle.devices.specs.Frame.{IsQuiet}
use Rattle.digests.specs.Media.{HasSource, IsTellable, medium_by}
use Rattle.digests.proofs.digests.hashed_media.Given as goal

-- the media of the runs before the index are hashed, and nothing has failed
abbrev pub invariant-loop-position : goal.invariant-loop-position
invariant-loop-position g l =
    IsQuiet g.S.Shelf l.initial.shelf l.shelf
    × All (IsTellable l.sounds l.homes) l.media.items
    × (IsTrue (g.S.Shelf.honest l.initial.shelf) → l.media.items
    ≡ numbered (medium_by l.digests (g.S.Shelf.stored l.initial.shelf) l.sounds l.homes) 1 (take l.position l.list))
    × (IsTrue (g.S.Shelf.honest l.initial.shelf)
    → All (HasSource l.digests (g.S.Shelf.stored l.initial.shelf) l.sounds) l.media.items)
