use Rattle.std.proofs.Common.{◌≡◌, ℕ, ◌+◌, ◌-◌, ◌*◌, List}
use Rattle.riff.specs.Found.{IsAhead}
use Rattle.riff.specs.Sizes.{entry_from}
use Rattle.riff.proofs.sizes.size_among.Given as goal

abbrev pub invariant-loop-i : goal.invariant-loop-i
invariant-loop-i l = (file : List ℕ) (at rest : ℕ) → IsAhead file at l.entries.bytes.now
    → entry_from file at (l.entries.count + rest) l.id ≡ entry_from file (at + 12 * l.i) (l.entries.count - l.i + rest) l.id
