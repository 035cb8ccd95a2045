use Rattle.std.proofs.Common.{IsTrue, List, ◌++◌, take}
use Rattle.list_terms.specs.Names.{Place}
use Rattle.opening.specs.Further.{AreTold, IsCounted, WasRead, places_of, used_of}
use Rattle.opening.specs.Paths.{Knows}
use Rattle.opening.proofs.further.files.tell_files.Given as goal

-- the faults of the sources so far are reported and counted, their paths are recorded, and the store was only read
pub record IsWalked (Read Told Counted Noted : Type 0) : Type 0 where
  pub read : Read
  pub reported : Told
  pub counted : Counted
  pub noted : Noted

abbrev pub invariant-loop-source : goal.invariant-loop-source
invariant-loop-source g l = IsWalked (WasRead g.S.Shelf l.initial.shelf l.shelf)
    (IsTrue (g.S.Shelf.honest l.initial.shelf) → (named : List Place) → Knows l.initial.paths named
    → AreTold (g.S.Shelf.stored l.initial.shelf) named (used_of l.used (take l.source-index l.sources)) l.faults.items)
    (IsCounted g.S.Shelf l.initial.shelf l.shelf l.faults.items)
    ((named : List Place) → Knows l.initial.paths named
    → Knows l.paths (named ++ places_of (used_of l.used (take l.source-index l.sources))))
