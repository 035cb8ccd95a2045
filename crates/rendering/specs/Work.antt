-- A rendering as jobs: stretches of its blocks, each a place of the rendered file.
use Rattle.std.specs.Prelude.{◌≡◌, ℕ, ◌+◌, ◌-◌, ◌*◌, ◌/◌, ◌<◌, ◌≤◌, ℤ, Bool, List, Vec, length, codes}
use Rattle.std.specs.List.{All}
use Rattle.std.specs.declared.alloc.Global.{Global}
use Rattle.sound_terms.specs.Blocks.{block_count, block_frames, block_length}
use Rattle.sound_terms.specs.Depth.{bits_of}
use Rattle.sound_terms.specs.Groups.{sum_of}
use Rattle.sound_terms.specs.Media.{IsPieceOf}
use Rattle.sound_terms.specs.Render.{Range, render_info, rendering_of}
use Rattle.sound_terms.specs.Sounds.{SoundFacts, reading_by}
use Rattle.sound_terms.specs.Waves.{header_of}
use Rattle.work_terms.specs.Disk.{Files}
use Rattle.blockmachine.specs.Sums.{Extent}
use Rattle.renderplan.specs.Planned.{IsPlan, Planned}
use Rattle.wavwrite.specs.Info.{Fits}
use Rattle.job_terms.specs.Workers.{JobsBy}
use Rattle.workboard.specs.Indexed.{IsOrder}
use Rattle.rendering.specs.declared.job_length.JobLength.{JobLength}
use Rattle.rendering.specs.declared.stretch.Stretch.{Stretch}
use Rattle.rendering.specs.Cut.{AreFewTogether, AreGrouped, AreLongest, IsCut, IsShort, IsUniform, blocks_in_job, jobs_together, stretch_at}
use Rattle.rendering.specs.Written.{bytes_of_blocks, frames_before}

-- a plan over opened files
pub record BlockWork : Type 0 where
  pub planned : Planned
  pub sounds : List SoundFacts

-- whose pieces lie in these files
pub record IsBlockWork (work : BlockWork) : Type 0 where
  pub planned : IsPlan work.planned
  pub inside : All (IsPieceOf work.sounds) work.planned.pieces

-- this machine can sum any of its blocks, with this room for a program and for samples
pub record CanPlay (work : BlockWork) (extent : Extent) (room count : ℕ) : Type 0 where
  pub inside : All (IsPieceOf work.sounds) work.planned.pieces
  pub machine : extent ≡ record { frames = 4096; channels = work.planned.range.channels }
  pub program : room ≡ length work.planned.pieces + 2
  pub samples : count ≡ 4096 * work.planned.range.channels

-- and the stretches into which its blocks are cut
pub record RenderWork : Type 0 where
  pub planned : Planned
  pub sounds : List SoundFacts
  pub stretches : List Stretch

-- all its blocks, not too many of which are marked together, of a file that fits
pub record IsRenderWork (work : RenderWork) : Type 0 where
  pub planned : IsPlan work.planned
  pub cut : IsCut 0 work.stretches (block_count work.planned.range)
  pub short : AreFewTogether work.stretches
  pub fits : Fits (render_info work.planned.range)

-- what the plan's pieces sound like over these sources
abbrev pub heard : Planned → List SoundFacts → Files → ℕ → ℕ → ℤ
heard planned sounds sources = sum_of (reading_by sources sounds) planned.pieces

-- the whole file over these sources
abbrev pub whole_of : RenderWork → Files → List ℕ
whole_of work sources = rendering_of work.planned.range (heard work.planned work.sounds sources)

-- the bytes of so many frames
abbrev pub bytes_for : Range → ℕ → ℕ
bytes_for range n = n * range.channels * (bits_of range.depth / 8)

-- there is such a block, and just room for its bytes
pub record HasRoom (range : Range) (k room : ℕ) : Type 0 where
  pub there : k < block_count range
  pub exact : room ≡ bytes_for range (block_frames range k)

-- a range has the blocks from one on up to, and without, another, and there are some
pub record IsInRange (range : Range) (first end : ℕ) : Type 0 where
  pub some : first < end
  pub there : end ≤ block_count range

abbrev pub frames_of_blocks : Range → (first end : ℕ) → ℕ
frames_of_blocks range first end = frames_before range end - frames_before range first

-- such blocks, and just room for their bytes
pub record HasRoomFor (range : Range) (first end room : ℕ) : Type 0 where
  pub inside : IsInRange range first end
  pub exact : room ≡ bytes_for range (frames_of_blocks range first end)

-- such blocks, and room for their bytes from here on
pub record HasRoomAt (range : Range) (first end at room : ℕ) : Type 0 where
  pub inside : IsInRange range first end
  pub enough : at + bytes_for range (frames_of_blocks range first end) ≤ room

-- how many blocks a job of a range has
abbrev pub job_blocks : JobLength → Range → ℕ
job_blocks jobs range = blocks_in_job jobs (block_count range) (bytes_for range block_length)

-- how many jobs of a range are marked together
abbrev pub marked_jobs : JobLength → Range → ℕ
marked_jobs jobs range = jobs_together jobs (block_count range) (bytes_for range block_length)

-- these are all its blocks, each stretch marked whole or not at all, and as long as such a job can be; and no more of them
-- are marked together than of such jobs
pub record AreCutBy (jobs : JobLength) (marked : List Bool) (work : RenderWork) : Type 0 where
  pub cut : IsCut 0 work.stretches (block_count work.planned.range)
  pub uniform : All (IsUniform marked) work.stretches
  pub short : All (IsShort (job_blocks jobs work.planned.range)) work.stretches
  pub longest : AreLongest (job_blocks jobs work.planned.range) work.stretches
  pub grouped : AreGrouped (marked_jobs jobs work.planned.range) work.stretches

-- where a stretch begins in the rendered file
abbrev pub place_of : Range → Stretch → ℕ
place_of range s = length (header_of (render_info range)) + s.first * bytes_for range block_length

-- the jobs whose blocks were marked before
abbrev pub done_before : RenderWork → ℕ → Bool
done_before work k = (stretch_at work.stretches k).done

-- the bytes of each stretch, its blocks' one after the other, at their place in the rendered file
abbrev pub work_of : RenderWork → JobsBy
work_of work = record {
  count = length work.stretches;
  name = λ _. codes "render.wav";
  at = λ k. place_of work.planned.range (stretch_at work.stretches k);
  size = λ k. bytes_for work.planned.range (frames_of_blocks work.planned.range
      (stretch_at work.stretches k).first (stretch_at work.stretches k).end);
  bytes = λ sources k. bytes_of_blocks work.planned.range (heard work.planned work.sounds sources)
      (stretch_at work.stretches k).first (stretch_at work.stretches k).end;
}

-- its jobs in some order
abbrev pub IsOrderOf : RenderWork → Vec ℕ Global → Type 0
IsOrderOf work order = IsOrder (work_of work).count order.items
