use Rattle.comparison.specs.Alike.{AreAlike}
use Rattle.comparison.specs.Both.{AreGoneOver, OfBoth}
use Rattle.comparison.specs.Side.{reached}
use Rattle.comparison.proofs.first_difference.compare_sides.Given as goal

-- the blocks before k are equal
abbrev pub invariant-loop-k : goal.invariant-loop-k
invariant-loop-k g l = record {
  gone_over : AreGoneOver g.S.Shelf g.T.Shelf l.fn.first_shelf l.first_shelf l.fn.second_shelf l.second_shelf l.fn.sides
      l.sides;
  alike : OfBoth g.S.Shelf g.T.Shelf l.fn.first_shelf l.fn.second_shelf l.fn.sides
      (AreAlike l.fn.sides.first.work.planned.range.from (reached l.fn.sides.first.work.planned.range l.k)
      l.fn.sides.first.work.planned.range.channels);
}
