use Rattle.std.proofs.Common.{◌-◌, ◌≤◌, ℕ, get_or}
use Rattle.comparison.specs.Both.{AreGoneOver, OfBoth}
use Rattle.comparison.specs.Counted.{AreCounts}
use Rattle.comparison.specs.Side.{reached}
use Rattle.comparison.proofs.tally.count_sides.Given as goal

-- the blocks before k are counted
abbrev pub invariant-loop-k : goal.invariant-loop-k
invariant-loop-k g l = record {
  gone_over : AreGoneOver g.S.Shelf g.T.Shelf l.fn.first_shelf l.first_shelf l.fn.second_shelf l.second_shelf l.fn.sides
      l.sides;
  few : (c : ℕ) → get_or l.counts c 0
      ≤ reached l.fn.sides.first.work.planned.range l.k - l.fn.sides.first.work.planned.range.from;
  counted : OfBoth g.S.Shelf g.T.Shelf l.fn.first_shelf l.fn.second_shelf l.fn.sides
      (λ mix other. AreCounts mix other l.fn.sides.first.work.planned.range.from
      (reached l.fn.sides.first.work.planned.range l.k - l.fn.sides.first.work.planned.range.from) l.counts);
}
