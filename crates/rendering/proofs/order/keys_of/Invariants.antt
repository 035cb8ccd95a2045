use Rattle.std.proofs.Common.{◌≡◌, length}
use Rattle.rendering.proofs.order.keys_of.Given as goal

abbrev pub invariant-loop-i : goal.invariant-loop-i
invariant-loop-i l = length l.keys.items ≡ l.i
