-- A rendering whose blocks are marked.
use Rattle.std.specs.Prelude.{◌≡◌, ◌≢◌, ℕ, ◌+◌, ◌-◌, ◌*◌, ◌%◌, ◌<◌, Bool, true, List, ◌∷◌, ◌++◌, Option, None, Some, Result, Ok, Err, IsOk, length, replicate, ⊤}
use Rattle.std.specs.List.{count_by}
use Rattle.sha2.specs.Sha256.{sha256}
use Rattle.clipping.specs.declared.tally.Clips.{Clips}
use Rattle.sound_terms.specs.Blocks.{block_count, block_length}
use Rattle.sound_terms.specs.Render.{Range, render_info}
use Rattle.sound_terms.specs.Waves.{header_of, zeros}
use Rattle.work_terms.specs.Disk.{Files}
use Rattle.markfile.specs.Format.{AreMarksOf, head_of, marks_name, run_bytes, sound_name}
use Rattle.markfile.specs.Started.{is_started}
use Rattle.markfile.specs.declared.fault.MarkFault.{MarkFault}
use Rattle.markfile.specs.declared.fault.MarkFault.TheVariants as fault
use Rattle.markfile.specs.declared.run.RunId.{RunId}
use Rattle.execution.specs.Marking.{AreTrueMarks, HoldsIn, Marking, is_marked}
use Rattle.rendering.specs.Work.{RenderWork, bytes_for}
use Rattle.rendering.specs.Written.{frames_before}

-- its jobs, the run that its marks belong to, and what was clipped of each job when it was made last
pub record MarkedWork : Type 0 where
  pub work : RenderWork
  pub run : RunId
  pub clips : List Clips

-- how many blocks are marked
abbrev pub marked_count : List Bool → ℕ
marked_count marked = count_by (λ mark. mark) marked

-- where a block begins in the rendered file, and where it ends
abbrev pub block_place : Range → ℕ → ℕ
block_place range b = length (header_of (render_info range)) + b * bytes_for range block_length

abbrev pub block_end : Range → ℕ → ℕ
block_end range b = length (header_of (render_info range)) + bytes_for range (frames_before range (b + 1))

-- how long the rendered file is
abbrev pub padded : ℕ → ℕ
padded n = n + n % 2

abbrev pub file_length : Range → ℕ
file_length range = length (header_of (render_info range)) + padded (bytes_for range (range.to - range.from))

-- the rendered file as it is laid out: its header, and zeros
abbrev pub laid_file : Range → List ℕ
laid_file range = header_of (render_info range) ++ zeros (padded (bytes_for range (range.to - range.from)))

-- the run has the blocks and the length of the rendering
pub record IsRunOf (work : RenderWork) (run : RunId) : Type 0 where
  pub blocks : run.blocks ≡ block_count work.planned.range
  pub size : run.length ≡ file_length work.planned.range

-- the run that the marks of this rendering of a list belong to
abbrev pub run_of : List ℕ → Range → RunId
run_of list range = record {
  digest = sha256 (run_bytes range list);
  blocks = block_count range;
  length = file_length range;
}

-- the marks of a run that is done
pub record IsAllMarked (run : RunId) (file : Option (List ℕ)) : Type 0 where
  pub marks : List ℕ
  pub there : file ≡ Some marks
  pub ours : AreMarksOf run marks
  pub all : (b : ℕ) → b < run.blocks → is_marked marks b ≡ true

-- so many blocks are found to be marked, none where nothing is started, or why this run can't go on with the marks
abbrev pub IsFoundAs : Result (Option ℕ) MarkFault → Result (Option (List Bool)) MarkFault → Type 0
IsFoundAs (Ok None) due = due ≡ Ok None
IsFoundAs (Ok (Some count)) due = (marked : List Bool) × (due ≡ Ok (Some marked)) × (count ≡ marked_count marked)
IsFoundAs (Err fault.OtherRun) due = due ≡ Err fault.OtherRun
IsFoundAs (Err fault.BadMarks) due = due ≡ Err fault.BadMarks
IsFoundAs (Err fault.Memory) due = IsOk due
IsFoundAs (Err (fault.Device file)) due = ⊤

-- what a crash may leave of a run: marks that aren't started, or true ones
abbrev pub IsResumable : Marking → Files → Type 0
IsResumable m c = is_started (c m.marks) ≡ true → AreTrueMarks m c c

-- what a run may leave: marks that are started in one outcome of a crash are true of the output of each
abbrev pub IsLeftByRun : Marking → (Files → Type 0) → Type 0
IsLeftByRun m outcomes =
    (c d : Files) → outcomes c → outcomes d → is_started (c m.marks) ≡ true → AreTrueMarks m c d

-- each block that these marks tell stands in the rendered file
abbrev pub HoldsMarked : Marking → List ℕ → Files → Type 0
HoldsMarked m marks c = HoldsIn m (is_marked marks) (c m.name)

-- the marks of a run, all of them set
abbrev pub full_marks : RunId → List ℕ
full_marks run = 1 ∷ (head_of run ++ replicate run.blocks 1)

-- a file of this name is neither the rendered one nor its marks
abbrev pub IsOther : List ℕ → Type 0
IsOther n = (n ≢ sound_name) × (n ≢ marks_name)
