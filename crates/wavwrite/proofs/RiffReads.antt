-- Reading a written RIFF file: all chunks are found without a fault.
use Rattle.std.proofs.Common.{◌≡◌, ℕ, suc, ◌+◌, ◌-◌, ◌%◌, ◌≤◌, Some, List, [], ◌∷◌, ◌++◌, length, drop, refl, ap, ◌∙◌, arith, codes, length-append, true, false, None, Ok, le-leb, le-ltb}
use Rattle.sound_terms.specs.Waves.{u32_bytes, zeros, chunk_head}
use Rattle.sound_terms.specs.Chunks.{Chunk, chunks_from, stands_at}
use Rattle.sound_terms.specs.declared.Chunks.{Chunks}
use Rattle.sound_terms.specs.Walks.{is_riff, as_it_stands, chunks_in, first_chunk_fault, riff_layout, walked}
use Rattle.sound_terms.specs.Laws.{length-zeros, length-chunk_head}
use Rattle.wavwrite.proofs.WaveChunks.{AreWhole, chunk_read, wave_chunks, wave_heads, wave_read, whole_chunk, length-wave_chunks, samples_inside}

-- header of RIFF, and JUNK of 28 zero bytes
unfoldable pub riff_front : ℕ → List ℕ
riff_front size = chunk_head (codes "RIFF") size ++ (codes "WAVE" ++ (chunk_head (codes "JUNK") 28 ++ zeros 28))

pub length-riff_front : (size : ℕ) → length (riff_front size) ≡ 48
unfolding riff_front
length-riff_front size = simp (length-append, length-zeros, length-chunk_head) (omega arith)

pub riff_front_is : (size : ℕ)
    → chunk_head (codes "RIFF") size ++ (codes "WAVE" ++ (chunk_head (codes "JUNK") 28 ++ zeros 28)) ≡ riff_front size
unfolding riff_front
riff_front_is size = refl

-- a RIFF file with this size in its header
abbrev riff_file : ℕ → ℕ → ℕ → List ℕ → List ℕ → List ℕ → List ℕ
riff_file size bext_size told bext format sound = riff_front size ++ wave_chunks bext_size told bext format sound

length-riff_file : (size bext_size told : ℕ) (bext format sound : List ℕ)
    → length (riff_file size bext_size told bext format sound) ≡ 72 + (length bext + (length format + length sound))
length-riff_file size bext_size told bext format sound =
    simp (length-append, length-riff_front, length-wave_chunks) (omega arith)

-- the file starts with the RIFF header
begins_riff : (size : ℕ) (rest : List ℕ) → stands_at (codes "RIFF") 0 (riff_front size ++ rest) ≡ true
unfolding riff_front chunk_head u32_bytes
begins_riff size rest = refl

tells_wave : (size : ℕ) (rest : List ℕ) → stands_at (codes "WAVE") 8 (riff_front size ++ rest) ≡ true
unfolding riff_front chunk_head u32_bytes
tells_wave size rest = refl

-- the file is RIFF WAVE
riff_is_riff : (size bext_size told : ℕ) (bext format sound : List ℕ)
    → is_riff (riff_file size bext_size told bext format sound) ≡ true
riff_is_riff size bext_size told bext format sound =
    let file = riff_file size bext_size told bext format sound in
    let rest = wave_chunks bext_size told bext format sound in
    let long = le-leb 12 (length file) (omega (arith, length-riff_file size bext_size told bext format sound)) in
    rw (long, begins_riff size rest, tells_wave size rest) refl

-- bytes after the header of the form
behind_head : (size : ℕ) (rest : List ℕ)
    → drop 12 (riff_front size ++ rest) ≡ chunk_head (codes "JUNK") 28 ++ (zeros 28 ++ rest)
unfolding riff_front chunk_head u32_bytes zeros
behind_head size rest = refl

-- headers of its chunks
abbrev riff_heads : ℕ → ℕ → List Chunk
riff_heads bext_size data_size = whole_chunk (codes "JUNK") 12 28 ∷ wave_heads bext_size data_size

chunks_in-riff : (size bext_size data_size : ℕ) (bext format sound : List ℕ)
    → AreWhole as_it_stands bext_size data_size data_size bext format sound
    → chunks_in (riff_file size bext_size data_size bext format sound) riff_layout ≡ riff_heads bext_size data_size
chunks_in-riff size bext_size data_size bext format sound whole =
    let file = riff_file size bext_size data_size bext format sound in
    let rest = wave_chunks bext_size data_size bext format sound in
    let long = length-riff_file size bext_size data_size bext format sound in
    let fuel : length file ≡ suc (suc (suc (suc (length file - 4)))) = omega (arith, long) in
    ap (λ n. chunks_from as_it_stands n 12 (drop 12 file)) fuel
    ∙ ap (chunks_from as_it_stands (suc (suc (suc (suc (length file - 4))))) 12) (behind_head size rest)
    ∙ chunk_read as_it_stands 74 85 78 75 28 28 (suc (suc (suc (length file - 4)))) 12 (zeros 28) rest (omega arith)
    refl (length-zeros 28)
    ∙ ap (λ (chunks : List Chunk). whole_chunk (codes "JUNK") 12 28 ∷ chunks)
    (wave_read as_it_stands (length file - 4) bext_size data_size data_size bext format sound whole)

-- no chunk is faulty if the samples end within the file
faultless : (end bext_size data_size : ℕ) → 88 + (bext_size + bext_size % 2) + data_size ≤ end
    → first_chunk_fault end [] (riff_heads bext_size data_size) ≡ None
faultless end bext_size data_size inside =
    let junk = le-ltb end 48 (omega arith) in
    let bext = le-ltb end (56 + bext_size) (omega arith) in
    let format = le-ltb end (56 + (bext_size + bext_size % 2) + 8 + 16) (omega arith) in
    let sound = le-ltb end (80 + (bext_size + bext_size % 2) + 8 + data_size) (omega arith) in
    rw (junk, bext, format, sound) refl

-- chunks found by the walk
abbrev pub wave_found : ℕ → ℕ → Chunks
wave_found bext_size data_size = record {
  format = record { at = 64 + (bext_size + bext_size % 2); length = 16 };
  sound = record { at = 88 + (bext_size + bext_size % 2); length = data_size };
  bext = Some (record { at = 56; length = bext_size });
  others = false;
}

-- the walk reaches the end of the file
pub riff_walked : (size bext_size data_size : ℕ) (bext format sound : List ℕ)
    → AreWhole as_it_stands bext_size data_size data_size bext format sound
    → walked (riff_front size ++ wave_chunks bext_size data_size bext format sound)
    ≡ Ok (wave_found bext_size data_size)
riff_walked size bext_size data_size bext format sound whole =
    let file = riff_file size bext_size data_size bext format sound in
    let long = length-riff_file size bext_size data_size bext format sound in
    let format_place : 56 + (bext_size + bext_size % 2) + 8 ≡ 64 + (bext_size + bext_size % 2) = omega arith in
    let sound_place : 80 + (bext_size + bext_size % 2) + 8 ≡ 88 + (bext_size + bext_size % 2) = omega arith in
    let none = faultless (length file) bext_size data_size (samples_inside _ _ _ _ _ _ _ whole _ long) in
    rw (
      riff_is_riff size bext_size data_size bext format sound,
      chunks_in-riff size bext_size data_size bext format sound whole,
      none,
      format_place,
      sound_place,
    ) refl
