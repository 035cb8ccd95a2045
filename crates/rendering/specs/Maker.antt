-- A marked rendering as a work of an execution.
use Rattle.std.specs.Prelude.{◌≡◌, ◌==◌, ℕ, true, cond, None, Some, length, slice_index_or}
use Rattle.clipping.specs.declared.tally.Clips.{Clips}
use Rattle.work_terms.specs.Disk.{Files}
use Rattle.job_terms.specs.Workers.{jobs_over}
use Rattle.markfile.specs.Format.{head_of, marks_name, sound_name}
use Rattle.execution.specs.Filled.{AreApart}
use Rattle.execution.specs.Marking.{Marking}
use Rattle.execution.specs.Plan.{JobPlan, SourcesFit}
use Rattle.rendering.specs.Clipping.{ClipsJob}
use Rattle.rendering.specs.Marked.{IsRunOf, MarkedWork, block_end, block_place}
use Rattle.rendering.specs.Work.{IsRenderWork, whole_of, work_of}
use Rattle.rendering.specs.Cut.{group_at, stretch_at}

-- the rendered file, block by block, and its marks
abbrev pub marks_of : MarkedWork → Files → Marking
marks_of marked sources = record {
  name = sound_name;
  whole = whole_of marked.work sources;
  count = marked.run.blocks;
  first = block_place marked.work.planned.range;
  last = block_end marked.work.planned.range;
  jobs = length marked.work.stretches;
  from = λ k. (stretch_at marked.work.stretches k).first;
  end = λ k. (stretch_at marked.work.stretches k).end;
  group = group_at marked.work.stretches;
  marks = marks_name;
  head = head_of marked.run;
}

-- its jobs write the rendered file, the output 0, and mark it in the output 1; no output comes last
abbrev pub plan_of : MarkedWork → JobPlan
plan_of marked = record {
  jobs = work_of marked.work;
  group = group_at marked.work.stretches;
  marks = true;
  marking = λ sources. Some (marks_of marked sources);
  whole = λ sources name. whole_of marked.work sources;
  output = λ file. cond (file == 0) sound_name marks_name;
  last = 2;
  outputs = 2;
}

-- nothing is clipped
abbrev pub no_clips : Clips
no_clips = record { samples = 0; first = None; peak = 0; channels = 0 }

-- it has noted what is clipped of this job, over these sources
abbrev pub HasClips : MarkedWork → Files → ℕ → Type 0
HasClips marked sources k = ClipsJob marked.work sources k (slice_index_or marked.clips k no_clips)

-- its jobs are all its blocks, of which its run has as many
pub record IsMarkedWork (marked : MarkedWork) : Type 0 where
  pub work : IsRenderWork marked.work
  pub run : IsRunOf marked.work marked.run

-- whatever the sources hold, each job has as many bytes as are counted, which are a part of the rendered file, and the
-- places of two jobs don't meet
pub record HasSoundJobs (marked : MarkedWork) : Type 0 where
  pub fit : (sources : Files) → SourcesFit (plan_of marked) sources
  pub apart : (sources : Files) → AreApart (jobs_over (plan_of marked).jobs sources)

-- marks were opened: the same plan, files and run, whole, with sound jobs, however its blocks are cut now
pub record IsReopened (old new : MarkedWork) : Type 0 where
  pub planned : new.work.planned ≡ old.work.planned
  pub sounds : new.work.sounds ≡ old.work.sounds
  pub run : new.run ≡ old.run
  pub whole : IsMarkedWork new
  pub jobs : HasSoundJobs new
