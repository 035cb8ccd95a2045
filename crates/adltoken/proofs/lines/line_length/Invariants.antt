use Rattle.std.proofs.Common.{◌≡◌, ◌+◌, ◌==◌, length}
use Rattle.std.specs.List.{position_or_len}
use Rattle.adltoken.proofs.lines.line_length.Given as goal

-- No LF has been skipped.
abbrev pub invariant-loop-rest : goal.invariant-loop-rest
invariant-loop-rest l = record {
  passed : l.before + length l.rest ≡ length l.text;
  none : position_or_len (λ byte. byte == 10) l.text ≡ l.before + position_or_len (λ byte. byte == 10) l.rest;
}

abbrev pub decreases-loop-rest : goal.decreases-loop-rest
decreases-loop-rest l = length l.rest
