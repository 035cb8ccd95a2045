-- What is rendered of a project by what was chosen, and which refusal is due.
use Rattle.std.specs.Prelude.{◌≡◌, ℕ, ◌-◌, ◌<◌, ◌≤◌, nat_le, false, List, Option, None, Some, if◌then◌else◌}
use Rattle.std.specs.Option.{ForSome}
use Rattle.sound_terms.specs.Render.{Range, ReadsBack, rendering_of}
use Rattle.work_terms.specs.Disk.{Files}
use Rattle.work_terms.specs.Refusals.{Refusal, Nowhere}
use Rattle.list_terms.specs.Project.{ListProject}
use Rattle.list_terms.specs.Binding.{Binding}
use Rattle.list_terms.specs.Accepted.{OptionValues, range_of}
use Rattle.list_terms.specs.Heard.{project_mix}
use Rattle.markfile.specs.declared.run.RunRange.{RunRange}
use Rattle.rendering.specs.declared.options.Options.{Options}
use Rattle.rendering.specs.declared.work.Rendered.{Rendered}

-- what was chosen
abbrev pub values_of : Options → OptionValues
values_of options = record {
  from = options.from;
  to = options.to;
  channels = options.channels;
  depth = options.depth;
}

-- a number of channels that was chosen is 1 to 64
abbrev pub HaveChannels : Options → Type 0
HaveChannels options = ForSome options.channels (λ channels. (1 ≤ channels) × (channels ≤ 64))

-- it has a frame, and 1 to 64 channels
pub record IsSpan (span : RunRange) : Type 0 where
  pub some : span.from < span.to
  pub channels : (1 ≤ span.channels) × (span.channels ≤ 64)

-- so many frames and channels are those of a range
pub record HasRange (rendered : Rendered) (range : Range) : Type 0 where
  pub frames : rendered.frames ≡ range.to - range.from
  pub channels : rendered.channels ≡ range.channels

-- 58: the range is empty
abbrev pub empty_fault : Range → Option Refusal
empty_fault range =
    if nat_le range.to range.from then Some (record { number = 58; location = Nowhere; late = false }) else None

-- the first fault of rendering a project without a fault
abbrev pub render_fault : ListProject → OptionValues → Option Refusal
render_fault project values = empty_fault (range_of project values)

-- The file is that of the exact sums of a bound project over its sources, rounded and clipped, and it reads back so.
pub record IsRendered (project : ListProject) (binding : Binding) (values : OptionValues) (sources : Files)
    (file : Option (List ℕ)) : Type 0 where
  pub bytes : List ℕ
  pub there : file ≡ Some bytes
  pub whole : bytes ≡ rendering_of (range_of project values) (project_mix sources project binding)
  pub reads_back : ReadsBack (range_of project values) (project_mix sources project binding) bytes
