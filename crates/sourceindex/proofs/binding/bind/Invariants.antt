use Rattle.std.proofs.Common.{◌≡◌, IsTrue, Ok, take}
use Rattle.devices.specs.Frame.{IsQuiet}
use Rattle.list_terms.specs.Binding.{nothing_bound}
use Rattle.list_terms.specs.Bound.{with_sources}
use Rattle.list_terms.specs.BoundHomes.{IsBinding}
use Rattle.sourceindex.proofs.binding.bind.Given as goal

-- The sources so far are bound.
abbrev pub invariant-loop-source : goal.invariant-loop-source
invariant-loop-source g l = record {
  so_far : IsTrue (g.S.Shelf.honest l.fn.shelf)
      → with_sources (g.S.Shelf.stored l.fn.shelf) l.project.events nothing_bound (take l.source-index l.sources)
      ≡ Ok l.binder;
  sound : IsBinding l.binder;
  read : IsQuiet g.S.Shelf l.fn.shelf l.shelf;
}
