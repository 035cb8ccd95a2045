use Rattle.std.proofs.Common.{◌≡◌, length}
use Rattle.list_terms.specs.Forms.{any}
use Rattle.adlread.specs.FaultSpans.{line_length}
use Rattle.adlread.proofs.TokenRun.{IsLeft}
use Rattle.adlread.proofs.fields.end_line.Given as goal

abbrev pub invariant-loop : goal.invariant-loop
invariant-loop l = record {
  left : IsLeft any (line_length l.fn.tokens) l.fn.tokens.rest.now l.tokens.rest.now;
  long : line_length l.tokens ≡ line_length l.fn.tokens;
}

abbrev pub decreases-loop : goal.decreases-loop
decreases-loop l = length l.tokens.rest.now
