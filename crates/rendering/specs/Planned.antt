-- That a rendering is the one that was asked for.
use Rattle.std.specs.Prelude.{◌≡◌, ℕ, ◌<◌, ℤ, false, List}
use Rattle.sound_terms.specs.declared.piece.Piece.{Piece}
use Rattle.sound_terms.specs.Groups.{sum_of}
use Rattle.sound_terms.specs.Render.{ReadsBack, rendering_of}
use Rattle.work_terms.specs.Disk.{Files}
use Rattle.list_terms.specs.Accepted.{OptionValues, range_of}
use Rattle.list_terms.specs.Binding.{Binding}
use Rattle.list_terms.specs.Heard.{project_mix, reading_of, sounds_of}
use Rattle.list_terms.specs.Project.{ListProject}
use Rattle.job_terms.specs.Workers.{jobs_over}
use Rattle.execution.specs.Filled.{AreApart, AreParts}
use Rattle.rendering.specs.Cut.{AreEven, AreGrouped, IsCut}
use Rattle.rendering.specs.declared.job_length.JobLength.{JobLength}
use Rattle.sound_terms.specs.Blocks.{block_count}
use Rattle.rendering.specs.Work.{RenderWork, done_before, heard, job_blocks, marked_jobs, whole_of, work_of}

-- the pieces sound like the bound project, over any files
abbrev pub MixAs : ListProject → Binding → List Piece → Type 0
MixAs project binding pieces = (files : Files) (channel time : ℕ)
    → sum_of (reading_of files binding) pieces channel time ≡ project_mix files project binding channel time

-- it plays these opened files as the project does, in the chosen range, in jobs of this length, no more of which are
-- marked together than of such jobs, to a file that reads back
pub record IsPlanFor (jobs : JobLength) (project : ListProject) (binding : Binding) (values : OptionValues)
    (work : RenderWork) : Type 0 where
  pub range : work.planned.range ≡ range_of project values
  pub sounds : work.sounds ≡ sounds_of binding
  pub mixes : MixAs project binding work.planned.pieces
  pub even : AreEven (job_blocks jobs work.planned.range) (block_count work.planned.range) work.stretches
  pub grouped : AreGrouped (marked_jobs jobs work.planned.range) work.stretches
  pub reads_back : (mix : ℕ → ℕ → ℤ)
      → ReadsBack (range_of project values) mix (rendering_of (range_of project values) mix)

-- Its jobs are all blocks of what was chosen of a bound project, each of this length but the last, none of them done, and
-- make its rendering, which reads back, whatever the sources hold.
pub record IsRenderingOf (jobs : JobLength) (project : ListProject) (binding : Binding) (values : OptionValues)
    (work : RenderWork) : Type 0 where
  pub range : work.planned.range ≡ range_of project values
  pub cut : IsCut 0 work.stretches (block_count work.planned.range)
  pub even : AreEven (job_blocks jobs work.planned.range) (block_count work.planned.range) work.stretches
  pub grouped : AreGrouped (marked_jobs jobs work.planned.range) work.stretches
  pub some : 0 < (work_of work).count
  pub fresh : (k : ℕ) → done_before work k ≡ false
  pub parts : (sources : Files) → AreParts (jobs_over (work_of work) sources) (λ _. whole_of work sources)
  pub apart : (sources : Files) → AreApart (jobs_over (work_of work) sources)
  pub heard_as : (sources : Files) (channel time : ℕ)
      → heard work.planned work.sounds sources channel time ≡ project_mix sources project binding channel time
  pub whole : (sources : Files) → whole_of work sources
      ≡ rendering_of (range_of project values) (project_mix sources project binding)
  pub reads_back : (mix : ℕ → ℕ → ℤ)
      → ReadsBack (range_of project values) mix (rendering_of (range_of project values) mix)
