-- The rendered file: the bytes of its samples, and calls that write no other.
use Rattle.std.specs.Prelude.{◌≢◌, ℕ, ◌-◌, ◌*◌, min, ℤ, List, Result, codes}
use Rattle.std.specs.List.{flat_map}
use Rattle.sound_terms.specs.Blocks.{block_length, block_start, mixed_block}
use Rattle.sound_terms.specs.Depth.{bits_of}
use Rattle.sound_terms.specs.Render.{Range, frames_of}
use Rattle.sound_terms.specs.Waves.{sample_bytes}
use Rattle.work_terms.specs.Disk.{LeavesOthers}
use Rattle.devices.specs.declared.bench.Bench as output
use Rattle.devices.specs.Frame.{OnlyWrites}

-- the bytes of block k
abbrev pub block_bytes : Range → (ℕ → ℕ → ℤ) → ℕ → List ℕ
block_bytes range mix k = flat_map (sample_bytes (bits_of range.depth)) (mixed_block range mix k)

-- the frames before block k
abbrev pub frames_before : Range → ℕ → ℕ
frames_before range k = min (k * block_length) (range.to - range.from)

-- the bytes of the blocks from one on up to, and without, another
abbrev pub bytes_of_blocks : Range → (ℕ → ℕ → ℤ) → (first last : ℕ) → List ℕ
bytes_of_blocks range mix first last =
    frames_of (bits_of range.depth) mix range.channels (block_start range first)
    (frames_before range last - frames_before range first)

-- a call that writes no other file: these faults tell that the device of this one failed
abbrev pub WritesRendering : {B X E : Type 0} → output.Ghosts B → B → B → Result X E → (E → Type 0) → Type 0
WritesRendering bench old new result is_device =
    OnlyWrites bench (λ n. n ≢ codes "render.wav") old new result is_device (λ _ failed. failed (codes "render.wav"))

-- it spares the other files: no moment leaves any of them otherwise
abbrev pub Spares : {B : Type 0} → output.Ghosts B → B → B → Type 0
Spares bench = LeavesOthers bench.may_leave bench.moment bench.left_since (codes "render.wav")
