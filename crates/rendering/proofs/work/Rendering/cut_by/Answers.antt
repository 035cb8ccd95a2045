use Rattle.rendering.proofs.work.Rendering.cut_by.Goals as goal

pub returns-clause-whole : goal.returns-clause-whole
returns-clause-whole c = rw (← c.self.view_is) (record {
  planned = c.self.invariant.0.planned;
  cut = rw (c.requires, ← c.self.view_is) at c.in_ok-stretches.ensures.cut;
  short = record {
    together = c.limits-limits.result.together;
    grouped = c.in_ok-stretches.ensures.grouped;
    most = c.limits-limits.result.blocks;
    short = c.in_ok-stretches.ensures.short;
    few = c.limits-limits.ensures.few;
  };
  fits = c.self.invariant.0.fits;
})
