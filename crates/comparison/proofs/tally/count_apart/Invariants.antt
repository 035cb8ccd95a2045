use Rattle.std.proofs.Common.{◌≡◌, ◌+◌, ◌<◌, ◌≤◌, ℕ, get_or}
use Rattle.comparison.specs.Counted.{differing, of_channel}
use Rattle.comparison.proofs.tally.count_apart.Given as goal

-- the channels before k are counted
abbrev pub invariant-loop-k : goal.invariant-loop-k
invariant-loop-k l = record {
  counted : (c : ℕ) → c < l.k → get_or l.counts c 0 ≡ get_or l.initial.counts c 0
      + differing (of_channel l.block.channels c l.block.sums.now) (of_channel l.block.channels c l.block.others.now)
      l.block.frames;
  later : (c : ℕ) → l.k ≤ c → get_or l.counts c 0 ≡ get_or l.initial.counts c 0;
}
