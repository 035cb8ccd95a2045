use Rattle.std.proofs.Common.{◌≡◌, ◌≤◌, ◌+◌, length, take}
use Rattle.std.specs.List.{suffix_len}
use Rattle.list_terms.specs.Tokens.{is_blank}
use Rattle.adltoken.proofs.blanks.without_last_blanks.Given as goal

-- Only blanks are after `end`.
abbrev pub invariant-loop-end : goal.invariant-loop-end
invariant-loop-end l = record {
  inside : l.end ≤ length l.text;
  blanks : l.end + suffix_len is_blank l.text ≡ length l.text + suffix_len is_blank (take l.end l.text);
}

abbrev pub decreases-loop-end : goal.decreases-loop-end
decreases-loop-end l = l.end
