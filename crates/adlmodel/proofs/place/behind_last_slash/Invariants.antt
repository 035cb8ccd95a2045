use Rattle.std.proofs.Common.{◌≡◌, ◌≤◌, ◌+◌, length, take, not}
use Rattle.std.specs.List.{suffix_len}
use Rattle.list_terms.specs.Names.{is_slash}
use Rattle.adlmodel.proofs.place.behind_last_slash.Given as goal

-- No slash is after `start`.
abbrev pub invariant-loop-start : goal.invariant-loop-start
invariant-loop-start l = record {
  inside : l.start ≤ length l.text;
  others : l.start + suffix_len (λ b. not (is_slash b)) l.text
      ≡ length l.text + suffix_len (λ b. not (is_slash b)) (take l.start l.text);
}

abbrev pub decreases-loop-start : goal.decreases-loop-start
decreases-loop-start l = l.start
