use Rattle.std.proofs.Common.{◌≡◌, ℕ, ◌-◌, ◌≤◌, IsTrue}
use Rattle.std.specs.Prelude.{ℤ}
use Rattle.sound_terms.specs.Blocks.{sums_with, IsFull}
use Rattle.sound_terms.specs.Sounds.{reading_by}
use Rattle.devices.specs.Frame.{IsQuiet}
use Rattle.blockmachine.specs.Holding.{Holds}
use Rattle.blockmachine.specs.Sums.{AreSums}
use Rattle.blockmachine.proofs.stretches.add_stretch.Given as goal

abbrev pub invariant-loop-done : goal.invariant-loop-done
invariant-loop-done g l = record {
  within : l.done ≤ l.stretch.length;
  same_extent : l.sums.extent ≡ l.fn.sums.extent;
  held : Holds (g.S.Shelf.honest l.shelf) (g.S.Shelf.stored l.shelf) l.sounds l.buffer.held l.buffer.bytes.items;
  quiet : IsQuiet g.S.Shelf l.fn.shelf l.shelf;
  added : IsTrue (g.S.Shelf.honest l.fn.shelf) → (before : ℕ → ℕ → ℤ) → AreSums l.fn.sums before
      → AreSums l.sums (sums_with (reading_by (g.S.Shelf.stored l.fn.shelf) l.sounds)
      (record l.stretch { length = l.done }) l.shape before);
  full : IsTrue (g.S.Shelf.honest l.fn.shelf)
      → IsFull (reading_by (g.S.Shelf.stored l.fn.shelf) l.sounds) (record l.stretch { length = l.done });
}

abbrev pub decreases-loop-done : goal.decreases-loop-done
decreases-loop-done g l = l.stretch.length - l.done
