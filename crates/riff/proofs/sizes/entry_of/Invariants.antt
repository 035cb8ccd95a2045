use Rattle.std.proofs.Common.{◌≡◌, ℕ, ◌+◌, ◌-◌, ◌*◌, ◌≤◌, List, Some, IsTrue}
use Rattle.devices.specs.Frame.{IsQuiet}
use Rattle.riff.specs.Sizes.{entry_size, entry_from}
use Rattle.riff.proofs.sizes.entry_of.Given as goal

abbrev pub invariant-loop-done : goal.invariant-loop-done
invariant-loop-done g l = record {
  sources : IsQuiet g.S.Shelf l.fn.shelf l.shelf;
  within : l.done ≤ l.entries;
  passed : IsTrue (g.S.Shelf.honest l.fn.shelf) → (file : List ℕ) → g.S.Shelf.stored l.fn.shelf l.name ≡ Some file
      → entry_size file l.entries l.id ≡ entry_from file (48 + 12 * l.done) (l.entries - l.done) l.id;
}

abbrev pub decreases-loop-done : goal.decreases-loop-done
decreases-loop-done g l = l.entries - l.done
