use Rattle.rendering.proofs.work.stretches_of.Goals as goal

pub returns-clause-short : goal.returns-clause-short
returns-clause-short c = record {
  together = c.limits-limits.result.together;
  grouped = c.in_ok-stretches.ensures.grouped;
  most = c.limits-limits.result.blocks;
  short = c.in_ok-stretches.ensures.short;
  few = c.limits-limits.ensures.few;
}
