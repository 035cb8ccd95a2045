use Rattle.rendering.proofs.Works.{sound_jobs}
use Rattle.rendering.proofs.maker.RenderingWork.plan.Goals as goal

pub returns-in-Ok-of-clause-jobs : goal.returns-in-Ok-of-clause-jobs
returns-in-Ok-of-clause-jobs c = sound_jobs (record {
  work = c.in-Ok.rendering;
  run = c.run-run.result;
  clips = c.in-Ok-unclipped.clips.items;
}) c.run-run.ensures.whole
