use Rattle.std.proofs.Common.{◌≡◌, ◌≤◌, ◌-◌, List, ℕ, Some, IsTrue}
use Rattle.devices.specs.Frame.{IsQuiet}
use Rattle.riff.specs.Sizes.{IsIndexed}
use Rattle.riff.proofs.index.index_of.Given as goal

abbrev pub invariant-loop-done : goal.invariant-loop-done
invariant-loop-done g l = record {
  sources : IsQuiet g.S.Shelf l.fn.shelf l.shelf;
  within : l.done ≤ l.entries;
  indexed : IsTrue (g.S.Shelf.honest l.fn.shelf) → (file : List ℕ) → g.S.Shelf.stored l.fn.shelf l.name ≡ Some file
      → IsIndexed file l.done l.index;
}

abbrev pub decreases-loop-done : goal.decreases-loop-done
decreases-loop-done g l = l.entries - l.done
