use Rattle.std.proofs.Common.{◌≡◌, length}
use Rattle.list_terms.specs.Names as spec
use Rattle.adltoken.proofs.names.behind_byte.Given as goal

-- The byte hasn't been skipped.
abbrev pub invariant-loop-text : goal.invariant-loop-text
invariant-loop-text l = spec.behind_byte l.sought l.text ≡ spec.behind_byte l.sought l.fn.text

abbrev pub decreases-loop-text : goal.decreases-loop-text
decreases-loop-text l = length l.text
