use Rattle.std.proofs.Common.{◌≡◌, length}
use Rattle.list_terms.specs.Text.{has_word}
use Rattle.adlread.proofs.tags.has_word.Given as goal

-- The word hasn't been skipped.
abbrev pub invariant-loop-rest : goal.invariant-loop-rest
invariant-loop-rest l = has_word l.word l.rest ≡ has_word l.word l.fn.name

abbrev pub decreases-loop-rest : goal.decreases-loop-rest
decreases-loop-rest l = length l.rest
