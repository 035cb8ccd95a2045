use Rattle.std.proofs.Common.{◌≡◌, ◌<◌, ℕ, Bool, List, drop, false, All}
use Rattle.sound_terms.specs.Blocks.{block_count}
use Rattle.work_terms.specs.Disk.{Files}
use Rattle.rendering.specs.Clipping.{Clip, sums_of_blocks, unmarked}
use Rattle.rendering.specs.Cut.{IsCut, IsUniform}
use Rattle.rendering.specs.Maker.{HasClips, plan_of}
use Rattle.rendering.specs.Work.{done_before, heard}
use Rattle.rendering.proofs.maker.RenderingWork.clips.Given as goal

-- what was clipped of the jobs before this one, which end where the others begin
abbrev pub invariant-loop-job : goal.invariant-loop-job
invariant-loop-job l = (next : ℕ)
    × IsCut next (drop l.job l.fn.self.work.stretches) (block_count l.fn.self.work.planned.range)
    × ((sources : Files) (marked : List Bool) → All (IsUniform marked) l.fn.self.work.stretches
    → ((k : ℕ) → k < (plan_of l.fn.self).jobs.count → done_before l.fn.self.work k ≡ false
    → HasClips l.fn.self sources k) → Clip l.fn.self.work.planned.range (sums_of_blocks l.fn.self.work.planned.range
    (unmarked marked l.fn.self.work.planned.range (heard l.fn.self.work.planned l.fn.self.work.sounds sources)) 0 next)
    l.clips)
