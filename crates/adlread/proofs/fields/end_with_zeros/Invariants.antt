use Rattle.std.proofs.Common.{◌≡◌, length}
use Rattle.list_terms.specs.Fields.{is_zero}
use Rattle.adlread.specs.FaultSpans.{line_length}
use Rattle.adlread.proofs.TokenRun.{IsLeft}
use Rattle.adlread.proofs.fields.end_with_zeros.Given as goal

abbrev pub invariant-loop-token : goal.invariant-loop-token
invariant-loop-token l = record {
  left : IsLeft (λ t. is_zero t.content) (line_length l.fn.tokens) l.fn.tokens.rest.now l.tokens.rest.now;
  long : line_length l.tokens ≡ line_length l.fn.tokens;
}

abbrev pub decreases-loop-token : goal.decreases-loop-token
decreases-loop-token l = length l.tokens.rest.now
