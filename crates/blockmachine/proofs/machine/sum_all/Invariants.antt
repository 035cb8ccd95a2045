use Rattle.std.proofs.Common.{◌≡◌, ℕ, All, IsTrue, take}
use Rattle.sound_terms.specs.Blocks.{BlockState, executed_all, PlaysFull}
use Rattle.sound_terms.specs.Sounds.{reading_by}
use Rattle.devices.specs.Frame.{IsQuiet}
use Rattle.blockmachine.specs.Holding.{Holds}
use Rattle.blockmachine.specs.Lines.{silent}
use Rattle.blockmachine.specs.Sums.{AreSums}
use Rattle.blockmachine.proofs.machine.sum_all.Given as goal

abbrev pub invariant-loop-k : goal.invariant-loop-k
invariant-loop-k g l = record {
  same_extent : l.sums.extent ≡ l.fn.sums.extent;
  held : Holds (g.S.Shelf.honest l.shelf) (g.S.Shelf.stored l.shelf) l.sounds l.buffer.held l.buffer.bytes.items;
  quiet : IsQuiet g.S.Shelf l.fn.shelf l.shelf;
  summed : IsTrue (g.S.Shelf.honest l.fn.shelf) → (channels : ℕ) (begun : BlockState) → AreSums l.sums
      (executed_all (reading_by (g.S.Shelf.stored l.fn.shelf) l.sounds) channels (take l.k l.lines) (silent begun)).sums;
  full : IsTrue (g.S.Shelf.honest l.fn.shelf)
      → All (PlaysFull (reading_by (g.S.Shelf.stored l.fn.shelf) l.sounds)) (take l.k l.lines);
}
