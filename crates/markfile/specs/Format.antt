-- Format of the marks file: a front of 44 bytes, followed by one byte for each block of the rendering.
use Rattle.std.specs.Prelude.{◌≡◌, ℕ, ◌+◌, Bool, false, ◌==◌, List, ◌∷◌, ◌++◌, codes, length, take, replicate, slice_index_or}
use Rattle.sound_terms.specs.Depth.{bits_of}
use Rattle.sound_terms.specs.Render.{Range}
use Rattle.sound_terms.specs.Waves.{u16_bytes, u32_bytes, u64_bytes}
use Rattle.markfile.specs.declared.run.RunId.{RunId}

-- name of the rendered file
abbrev pub sound_name : List ℕ
sound_name = codes "render.wav"

-- name of the file of marks
abbrev pub marks_name : List ℕ
marks_name = codes "render.marks"

-- bytes that identify a run: samples, channels and depth of the rendering, and the list; the order of its jobs does not
-- matter
unfoldable pub run_bytes : Range → List ℕ → List ℕ
run_bytes range list =
    u64_bytes range.from ++ (u64_bytes range.to
    ++ (u16_bytes range.channels ++ (u16_bytes (bits_of range.depth) ++ list)))

-- bytes 1 to 43: the file type, the digest of the run, and its number of blocks
unfoldable pub head_of : RunId → List ℕ
head_of run = codes "ADLMRK1" ++ (run.digest ++ u32_bytes run.blocks)

-- the marks belong to the run: the gate is open, the head is its own, and there is a byte for each block
pub record AreMarksOf (run : RunId) (marks : List ℕ) : Type 0 where
  pub front : take 44 marks ≡ 1 ∷ head_of run
  pub size : length marks ≡ 44 + run.blocks

-- marks of a new run, none of them set
abbrev pub fresh_marks : RunId → List ℕ
fresh_marks run = 1 ∷ (head_of run ++ replicate run.blocks 0)

-- the byte of a marked block is 1
abbrev pub is_marked : List ℕ → ℕ → Bool
is_marked marks block = slice_index_or marks (44 + block) 0 == 1

-- no block of the run is marked
pub record AreFresh (run : RunId) (marks : List ℕ) : Type 0 where
  pub ours : AreMarksOf run marks
  pub unmarked : (block : ℕ) → is_marked marks block ≡ false
