use Rattle.std.proofs.Common.{◌≡◌, ◌≤◌, ℕ, List, Some, length, IsTrue}
use Rattle.devices.specs.Frame.{IsQuiet}
use Rattle.riff.specs.Form.{IsLaid}
use Rattle.riff.specs.Found.{IsWalked, IsInside}
use Rattle.riff.specs.Sizes.{IsIndexOf}
use Rattle.riff.proofs.wave.walk_form.Given as goal

abbrev pub invariant-loop-left : goal.invariant-loop-left
invariant-loop-left g l = record {
  sources : IsQuiet g.S.Shelf l.fn.shelf l.shelf;
  count : (8 ≤ l.count) × (l.count ≤ 16384);
  close : l.close ≤ 64;
  inside : IsInside l.end l.left l.found;
  walked : IsTrue (g.S.Shelf.honest l.fn.shelf) → (file : List ℕ) → g.S.Shelf.stored l.fn.shelf l.name ≡ Some file
      → length file ≡ l.end → IsLaid file l.end l.form.sizes l.form.left → IsIndexOf file l.form.sizes l.index
      → IsWalked file l.form.sizes l.end l.left l.found;
}

abbrev pub decreases-loop-left : goal.decreases-loop-left
decreases-loop-left g l = l.left
