use Rattle.std.proofs.Common.{ℕ, ◌-◌, ◌≤◌, List}
use Rattle.riff.specs.Found.{IsAhead, IsWalked, IsInside}
use Rattle.riff.specs.Sizes.{IsIndexOf}
use Rattle.riff.proofs.wave.walk_ahead.Given as goal

abbrev pub invariant-loop-left : goal.invariant-loop-left
invariant-loop-left l = record {
  within : l.left ≤ l.first;
  inside : IsInside l.end l.left l.found;
  walked : (file : List ℕ) → IsIndexOf file l.sizes l.index → IsAhead file (l.end - l.first) l.bytes → IsWalked file l.sizes l.end l.first l.fn.found
      → IsWalked file l.sizes l.end l.left l.found;
}

abbrev pub decreases-loop-left : goal.decreases-loop-left
decreases-loop-left l = l.left
