use Rattle.std.proofs.Common.{◌≡◌, ◌*◌, ◌≤◌, ◌-◌, length, All, min}
use Rattle.rendering.specs.Cut.{AreEven, AreGrouped, IsCut, IsFresh, IsShort}
use Rattle.rendering.proofs.job_length.fresh_stretches.Given as goal

abbrev pub invariant-loop-first : goal.invariant-loop-first
invariant-loop-first l = record {
  within : l.first ≤ l.blocks;
  cut : IsCut 0 l.stretches.items l.first;
  place : l.first ≡ min (length l.stretches.items * l.most) l.blocks;
  even : AreEven l.most l.blocks l.stretches.items;
  fresh : All IsFresh l.stretches.items;
  short : All (IsShort l.most) l.stretches.items;
  grouped : AreGrouped l.together l.stretches.items;
}

abbrev pub decreases-loop-first : goal.decreases-loop-first
decreases-loop-first l = l.blocks - l.first
