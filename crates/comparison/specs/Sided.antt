-- The sides of a comparison as regions of projects.
use Rattle.std.specs.Prelude.{◌≡◌, ℕ}
use Rattle.sound_terms.specs.declared.Depth.TheVariants.{TwentyFour}
use Rattle.sound_terms.specs.Render.{Range}
use Rattle.list_terms.specs.Binding.{Binding}
use Rattle.list_terms.specs.Heard.{project_mix, sounds_of}
use Rattle.list_terms.specs.Project.{ListProject}
use Rattle.work_terms.specs.Disk.{Files}
use Rattle.comparison.specs.declared.range.Region.{Region}
use Rattle.comparison.specs.Side.{SideState, heard}

-- the plan's range for a region
abbrev pub range_of : Region → Range
range_of region = record { from = region.from; to = region.to; channels = region.channels; depth = TwentyFour }

-- the side has this region of the project, its files and its mix
pub record IsSideOf (project : ListProject) (binding : Binding) (region : Region) (side : SideState) : Type 0 where
  pub range : side.work.planned.range ≡ range_of region
  pub sounds : side.work.sounds ≡ sounds_of binding
  pub mixes : (files : Files) (channel time : ℕ)
      → heard side.work files channel time ≡ project_mix files project binding channel time
