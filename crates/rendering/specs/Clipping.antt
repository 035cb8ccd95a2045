-- What a rendering clips.
use Rattle.std.specs.Prelude.{ℕ, ◌-◌, ◌/◌, ℤ, pos, Bool, false, List, [], Option, None, Some, Result, Ok, Err, slice_index_or, if◌then◌else◌}
use Rattle.clipping.specs.declared.tally.Clips.{Clips}
use Rattle.clipping.specs.Clips.{IsClippingOf, block_sums}
use Rattle.sound_terms.specs.Blocks.{block_length, block_start}
use Rattle.sound_terms.specs.Depth.{bits_of}
use Rattle.sound_terms.specs.Render.{Range}
use Rattle.markfile.specs.declared.fault.MarkFault.{MarkFault}
use Rattle.work_terms.specs.Disk.{Files}
use Rattle.rendering.specs.declared.stretch.Stretch.{Stretch}
use Rattle.rendering.specs.Cut.{stretch_at}
use Rattle.rendering.specs.Work.{RenderWork, heard}
use Rattle.rendering.specs.Written.{frames_before}

-- the exact sums of n frames, from this time on
abbrev pub sums_from : Range → (ℕ → ℕ → ℤ) → (time n : ℕ) → List ℤ
sums_from range mix time n = block_sums (λ time channel. mix channel time) range.channels time n

-- those of the blocks from one on up to, and without, another
abbrev pub sums_of_blocks : Range → (ℕ → ℕ → ℤ) → (first last : ℕ) → List ℤ
sums_of_blocks range mix first last =
    sums_from range mix (block_start range first) (frames_before range last - frames_before range first)

-- what the depth of a range clips of these sums
abbrev pub Clip : Range → List ℤ → Clips → Type 0
Clip range = IsClippingOf (bits_of range.depth) range.channels

-- what is clipped of this job
abbrev pub ClipsJob : RenderWork → Files → ℕ → Clips → Type 0
ClipsJob work sources k = Clip work.planned.range (sums_of_blocks work.planned.range
    (heard work.planned work.sounds sources) (stretch_at work.stretches k).first (stretch_at work.stretches k).end)

-- a mix that is silent in the blocks that are marked
abbrev pub unmarked : List Bool → Range → (ℕ → ℕ → ℤ) → ℕ → ℕ → ℤ
unmarked marked range mix channel time =
    if slice_index_or marked ((time - range.from) / block_length) false then pos 0 else mix channel time

-- what is clipped of a stretch of its blocks, the marked ones aside
abbrev pub ClipsIn : List Bool → RenderWork → Files → Stretch → Clips → Type 0
ClipsIn marked work sources s = Clip work.planned.range (sums_of_blocks work.planned.range
    (unmarked marked work.planned.range (heard work.planned work.sounds sources)) s.first s.end)

-- what is clipped of a rendering, its marked blocks aside
abbrev pub ClipsUnmarked : List Bool → Range → (ℕ → ℕ → ℤ) → Clips → Type 0
ClipsUnmarked marked range mix =
    Clip range (sums_from range (unmarked marked range mix) range.from (range.to - range.from))

-- the blocks that marks were found for; none where none are started
abbrev pub marked_in : Result (Option (List Bool)) MarkFault → List Bool
marked_in (Ok (Some marked)) = marked
marked_in (Ok None) = []
marked_in (Err fault) = []
