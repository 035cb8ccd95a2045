-- What is clipped of a list's rendering.
use Rattle.std.specs.Prelude.{◌≡◌, ℕ, ℤ, Bool, List}
use Rattle.consolidate.specs.declared.choice.Clipping.{Clipping}
use Rattle.list_terms.specs.Accepted.{OptionValues, range_of}
use Rattle.list_terms.specs.Binding.{Binding}
use Rattle.list_terms.specs.Heard.{IsAccepted, project_mix}
use Rattle.list_terms.specs.Project.{ListProject}
use Rattle.rendering.specs.Clipping.{ClipsUnmarked}
use Rattle.sound_terms.specs.Render.{Range}
use Rattle.work_terms.specs.Disk.{Files}

-- this is clipped of the exact sums of a range, in the blocks that aren't marked
pub record IsClipping (marked : List Bool) (range : Range) (mix : ℕ → ℕ → ℤ) (clipping : Clipping) : Type 0 where
  pub clips : ClipsUnmarked marked range mix clipping.clips
  pub start : clipping.start ≡ range.from
  pub channels : clipping.channels ≡ range.channels

-- the list is accepted, and this is clipped of what was chosen
pub record ClipsList (text : List ℕ) (values : OptionValues) (sources : Files) (marked : Range → List Bool)
    (clipping : Clipping) : Type 0 where
  pub project : ListProject
  pub binding : Binding
  pub accepted : IsAccepted text sources project binding
  pub clipped : IsClipping (marked (range_of project values)) (range_of project values)
      (project_mix sources project binding) clipping
