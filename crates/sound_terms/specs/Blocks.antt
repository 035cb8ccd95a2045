-- Blocks of a rendering: the effect of instructions, and the instructions that render pieces.
use Rattle.std.specs.Prelude.{◌≡◌, ℕ, zero, suc, ◌+◌, ◌-◌, ◌*◌, ◌/◌, ◌^◌, ◌<◌, ◌≤◌, ◌&&◌, nat_lt, nat_le, min, max, Bool, ℤ, pos, neg_ℤ, ◌+ℤ◌, ◌≤ℤ◌, List, [], ◌∷◌, ◌++◌, All, Option, None, Some, IfSome, IsSomeAnd, if◌then◌else◌}
use Rattle.std.specs.Int.{saturate_to_bits}
use Rattle.std.specs.List.{flat_map}
use Rattle.sampletime.specs.TimeCode.{day}
use Rattle.sound_terms.specs.declared.Depth.{Depth}
use Rattle.sound_terms.specs.declared.block.Stretch.{Stretch}
use Rattle.sound_terms.specs.declared.block.Instruction.{Instruction}
use Rattle.sound_terms.specs.declared.block.Instruction.TheVariants.{Start, Flat, Rise, Fall, Emit}
use Rattle.sound_terms.specs.declared.piece.Piece.{Piece}
use Rattle.sound_terms.specs.declared.piece.Shape.{Shape}
use Rattle.sound_terms.specs.declared.piece.Shape.TheVariants as shape
use Rattle.sound_terms.specs.Depth.{bits_of}
use Rattle.sound_terms.specs.Mix.{Reading, share_of, quantized}
use Rattle.sound_terms.specs.Groups.{IsRamp, fraction_of}
use Rattle.sound_terms.specs.Passes.{shape_behind}
use Rattle.sound_terms.specs.Render.{Range}
use Rattle.sound_terms.specs.Sounds.{SoundFacts}
use Rattle.sound_terms.specs.Media.{LiesInFile}

-- ---- effect of instructions

-- state of a block: its number of sample frames, the sum at each sample (from 0) and channel (from 1), and the output
pub record BlockState : Type 0 where
  pub frames : ℕ
  pub sums : ℕ → ℕ → ℤ
  pub out : List ℤ

-- a sum saturated to 64 bits
abbrev pub held : ℤ → ℤ
held sum = saturate_to_bits 63 sum

-- the stretch plays at sample i of the block on this channel
abbrev pub is_on : Stretch → ℕ → ℕ → Bool
is_on s i channel =
    nat_le s.dest channel && (nat_lt channel (s.dest + s.width) && (nat_le s.at i && nat_lt i (s.at + s.length)))

-- value that a stretch adds to a sum
abbrev pub share_at : Reading → Stretch → Shape → ℕ → ℕ → ℤ
share_at reading s shape i channel =
    share_of (reading s.file (s.first + (channel - s.dest)) (s.frame + (i - s.at))) (fraction_of shape (i - s.at))

-- sums after adding a stretch with a shape
abbrev pub sums_with : Reading → Stretch → Shape → (ℕ → ℕ → ℤ) → ℕ → ℕ → ℤ
sums_with reading s shape sums i channel =
    if is_on s i channel then held (sums i channel +ℤ share_at reading s shape i channel) else sums i channel

-- output of n channels from `channel` on at sample i, rounded and clipped to the depth
abbrev pub frame_samples : ℕ → (ℕ → ℕ → ℤ) → (i channel n : ℕ) → List ℤ
frame_samples depth sums i channel zero = []
frame_samples depth sums i channel (suc n) =
    quantized depth (sums i channel) ∷ frame_samples depth sums i (suc channel) n

-- output of n sample frames from sample i on, interleaved
abbrev pub block_samples : ℕ → (ℕ → ℕ → ℤ) → (channels i n : ℕ) → List ℤ
block_samples depth sums channels i zero = []
block_samples depth sums channels i (suc n) =
    frame_samples depth sums i 1 channels ++ block_samples depth sums channels (suc i) n

-- state of a block with the given number of channels after an instruction
abbrev pub executed : Reading → ℕ → Instruction → BlockState → BlockState
executed reading channels (Start frames) old = record old { frames = frames; sums = λ i channel. pos 0 }
executed reading channels (Flat stretch) old = record old { sums = sums_with reading stretch shape.Flat old.sums }
executed reading channels (Rise stretch offset den) old =
    record old { sums = sums_with reading stretch (shape.Rise offset den) old.sums }
executed reading channels (Fall stretch offset den) old =
    record old { sums = sums_with reading stretch (shape.Fall offset den) old.sums }
executed reading channels (Emit depth) old =
    record old { out = block_samples (bits_of depth) old.sums channels 0 old.frames }

-- state of a block after a list of instructions
abbrev pub executed_all : Reading → ℕ → List Instruction → BlockState → BlockState
executed_all reading channels [] state = state
executed_all reading channels (instruction ∷ program) state =
    executed_all reading channels program (executed reading channels instruction state)

-- a program: its capacity and its instructions
pub record Programmed : Type 0 where
  pub room : ℕ
  pub lines : List Instruction

-- ---- instructions of pieces

-- instruction that adds a stretch with a shape
abbrev pub adding : Stretch → Shape → Instruction
adding stretch shape.Flat = Flat stretch
adding stretch (shape.Rise offset den) = Rise stretch offset den
adding stretch (shape.Fall offset den) = Fall stretch offset den

-- stretch and shape that an instruction adds, or None if it adds nothing
abbrev pub addition_of : Instruction → Option (Stretch × Shape)
addition_of (Start frames) = None
addition_of (Flat stretch) = Some (stretch, shape.Flat)
addition_of (Rise stretch offset den) = Some (stretch, shape.Rise offset den)
addition_of (Fall stretch offset den) = Some (stretch, shape.Fall offset den)
addition_of (Emit depth) = None

-- number of sample frames of a block; the last block may be shorter
abbrev pub block_length : ℕ
block_length = 4096

-- number of blocks of a range
abbrev pub block_count : Range → ℕ
block_count range = (((range.to - range.from) + block_length) - 1) / block_length

-- start time of block k, and its number of sample frames
abbrev pub block_start : Range → ℕ → ℕ
block_start range k = range.from + k * block_length

abbrev pub block_frames : Range → ℕ → ℕ
block_frames range k = min block_length (range.to - block_start range k)

-- part of a piece between two times, in a block that starts at `from`, limited to the given channels
abbrev pub stretch_in : (from first last channels : ℕ) → Piece → Stretch
stretch_in from first last channels p = record {
  at = first - from;
  length = last - first;
  frame = p.frame + (first - p.start);
  file = p.file;
  first = p.first;
  dest = p.dest;
  width = min p.width ((channels + 1) - p.dest);
}

-- instruction that adds the part of a piece in the n samples from `from` on; empty if it has none
abbrev pub lines_of : (from n channels : ℕ) → Piece → List Instruction
lines_of from n channels p =
    let first = max from p.start in
    let last = min (from + n) (p.start + p.length) in
    if nat_lt first last && nat_le p.dest channels
    then adding (stretch_in from first last channels p) (shape_behind (first - p.start) p.shape) ∷ []
    else []

-- program of block k of a range, for the given pieces
abbrev pub program_of : List Piece → Range → ℕ → List Instruction
program_of pieces range k =
    Start (block_frames range k) ∷ (flat_map (lines_of (block_start range k) (block_frames range k) range.channels)
    pieces ++ Emit range.depth ∷ [])

-- output of block k of a range, for the given mix
abbrev pub mixed_block : Range → (ℕ → ℕ → ℤ) → ℕ → List ℤ
mixed_block range mix k =
    block_samples (bits_of range.depth) (λ i channel. mix channel (block_start range k + i)) range.channels 0
    (block_frames range k)

-- ---- well-formed programs

-- the stretch is inside a block of the given numbers of sample frames and channels
pub record FitsBlock (frames channels : ℕ) (s : Stretch) : Type 0 where
  pub some : 1 ≤ s.length
  pub inside : s.at + s.length ≤ frames
  pub wide : 1 ≤ s.width
  pub source_from_one : 1 ≤ s.first
  pub source_to_64 : s.first + s.width ≤ 65
  pub dest_from_one : 1 ≤ s.dest
  pub dest_inside : s.dest + s.width ≤ channels + 1
  pub source_in_day : s.frame + s.length ≤ day

-- the instruction adds a stretch inside the block, with a shape that is a valid ramp of the same length
abbrev pub IsFormed : (frames channels : ℕ) → Instruction → Type 0
IsFormed frames channels instruction = IsSomeAnd (addition_of instruction)
    (λ added. FitsBlock frames channels added.0 × IsRamp added.1 added.0.length)

-- a program starts the block, adds stretches inside it, and outputs it
pub record IsBlockProgram (frames channels : ℕ) (depth : Depth) (program : List Instruction) : Type 0 where
  pub lines : List Instruction
  pub whole : program ≡ Start frames ∷ (lines ++ Emit depth ∷ [])
  pub formed : All (IsFormed frames channels) lines

-- the instruction plays existing sample frames and channels of an opened file
abbrev pub LiesInFiles : List SoundFacts → Instruction → Type 0
LiesInFiles sounds instruction = IfSome (addition_of instruction)
    (λ added. LiesInFile sounds added.0.file added.0.first added.0.width added.0.frame added.0.length)

-- no sample of the stretch exceeds full scale
abbrev pub IsFull : Reading → Stretch → Type 0
IsFull reading s = (j i : ℕ) → j < s.width → i < s.length
    → (neg_ℤ (pos (2 ^ 47)) ≤ℤ reading s.file (s.first + j) (s.frame + i))
    × (reading s.file (s.first + j) (s.frame + i) ≤ℤ pos (2 ^ 47))

-- no sample that the instruction plays exceeds full scale
abbrev pub PlaysFull : Reading → Instruction → Type 0
PlaysFull reading instruction = IfSome (addition_of instruction) (λ added. IsFull reading added.0)
