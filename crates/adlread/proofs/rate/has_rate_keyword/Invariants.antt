use Rattle.std.proofs.Common.{◌≡◌, codes, length}
use Rattle.list_terms.specs.Text.{has_word}
use Rattle.adlread.proofs.rate.has_rate_keyword.Given as goal

-- The keyword hasn't been skipped.
abbrev pub invariant-loop-rest : goal.invariant-loop-rest
invariant-loop-rest l = has_word (codes "SEQ_FRAME_RATE") l.rest ≡ has_word (codes "SEQ_FRAME_RATE") l.fn.text

abbrev pub decreases-loop-rest : goal.decreases-loop-rest
decreases-loop-rest l = length l.rest
