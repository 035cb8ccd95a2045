use Rattle.std.proofs.Common.{◌≡◌, ◌≤◌}
use Rattle.comparison.specs.Counted.{differing, of_channel}
use Rattle.comparison.proofs.tally.count_channel.Given as goal

-- the samples before i are counted
abbrev pub invariant-loop-i : goal.invariant-loop-i
invariant-loop-i l = record {
  counted : l.count
      ≡ differing (of_channel l.channels l.channel l.sums) (of_channel l.channels l.channel l.others) l.i;
  few : l.count ≤ l.i;
}
