use Rattle.std.proofs.Common.{◌≡◌, IsTrue}
use Rattle.std.specs.Vec.Iter.{into_iter_items}
use Rattle.sound_terms.specs.Sounds.{reading_by}
use Rattle.devices.specs.Frame.{IsQuiet}
use Rattle.passes.specs.Left.{IsLeft}
use Rattle.silence.proofs.turns.run.Given as goal

-- the passes so far gave the current groups, and nothing has failed
abbrev pub invariant-loop-pass : goal.invariant-loop-pass
invariant-loop-pass g l = record {
  quiet : IsQuiet g.S.Shelf l.fn.shelf l.shelf;
  left : IsLeft (reading_by (g.S.Shelf.stored l.fn.shelf) l.sounds) (IsTrue (g.S.Shelf.honest l.fn.shelf))
      (l.shelf ≡ l.fn.shelf)
      (λ pass. (goal.Pass-dyn g (pass.vtable, pass.value)).looking pass.value)
      (λ pass. (goal.Pass-dyn g (pass.vtable, pass.value)).gives pass.value)
      l.fn.passes.items (into_iter_items l.pass-iterator) l.fn.intervals l.left;
}
