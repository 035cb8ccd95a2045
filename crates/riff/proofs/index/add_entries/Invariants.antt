use Rattle.std.proofs.Common.{ℕ, ◌+◌, ◌*◌, List}
use Rattle.riff.specs.Found.{IsAhead}
use Rattle.riff.specs.Sizes.{IsIndexed}
use Rattle.riff.proofs.index.add_entries.Given as goal

abbrev pub invariant-loop-i : goal.invariant-loop-i
invariant-loop-i l = (file : List ℕ) (n : ℕ) → IsAhead file (48 + 12 * n) l.entries.bytes.now → IsIndexed file n l.initial.index
    → IsIndexed file (n + l.i) l.index
