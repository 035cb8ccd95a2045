-- Reading a written RF64 file: `ds64` is read, and all chunks are found without a fault.
use Rattle.std.proofs.Common.{◌≡◌, ℕ, suc, ◌+◌, ◌-◌, ◌%◌, ◌^◌, ◌<◌, ◌≤◌, Some, List, [], ◌++◌, length, take, drop, refl, ap, ◌∙◌, arith, codes, length-append, true, false, None, Ok, le-leb, le-ltb}
use Rattle.std.proofs.lemmas.List.{append_assoc, drop_at, take_at}
use Rattle.sound_terms.specs.Waves.{u32_bytes, u64_bytes, zeros, chunk_head}
use Rattle.sound_terms.specs.Chunks.{chunks_from, stands_at}
use Rattle.sound_terms.specs.Ds64.{ds64_bytes, ds64_in, ds64_size}
use Rattle.sound_terms.specs.declared.Ds64.{Ds64}
use Rattle.sound_terms.specs.Walks.{size_in, chunks_in, first_chunk_fault, rf64_layout, walked}
use Rattle.sound_terms.specs.Laws.{length-chunk_head, length-u32_bytes, length-u64_bytes}
use Rattle.rf64.specs.Laws.{ds64_again}
use Rattle.wavwrite.proofs.WaveChunks.{AreWhole, wave_chunks, wave_heads, wave_read, length-wave_chunks, samples_inside}
use Rattle.wavwrite.proofs.RiffReads.{wave_found}

-- header of RF64, and `ds64` without table entries
unfoldable pub rf64_front : ℕ → ℕ → ℕ → List ℕ
rf64_front form sound frames = chunk_head (codes "RF64") 4294967295
    ++ (codes "WAVE" ++ (chunk_head (codes "ds64") 28 ++ ds64_bytes form sound frames))

length-ds64_bytes : (form sound frames : ℕ) → length (ds64_bytes form sound frames) ≡ 28
unfolding ds64_bytes
length-ds64_bytes form sound frames = simp (length-append, length-u64_bytes, length-u32_bytes) (omega arith)

pub length-rf64_front : (form sound frames : ℕ) → length (rf64_front form sound frames) ≡ 48
unfolding rf64_front
length-rf64_front form sound frames = simp (length-append, length-ds64_bytes, length-chunk_head) (omega arith)

pub rf64_front_is : (form sound frames : ℕ)
    → chunk_head (codes "RF64") 4294967295 ++ (codes "WAVE" ++ (chunk_head (codes "ds64") 28
    ++ (u64_bytes form ++ (u64_bytes sound ++ (u64_bytes frames ++ zeros 4)))))
    ≡ rf64_front form sound frames
unfolding rf64_front ds64_bytes u32_bytes zeros
rf64_front_is form sound frames = refl

-- properties of the first twelve bytes and of the header of `ds64`
record TellsRf64 (bytes : List ℕ) : Type 0 where
  not_riff : stands_at (codes "RIFF") 0 bytes ≡ false
  rf64 : stands_at (codes "RF64") 0 bytes ≡ true
  wave : stands_at (codes "WAVE") 8 bytes ≡ true
  ds64 : stands_at (codes "ds64") 12 bytes ≡ true
  size : ds64_size bytes ≡ 28

front_told : (form sound frames : ℕ) (rest : List ℕ) → TellsRf64 (rf64_front form sound frames ++ rest)
unfolding rf64_front chunk_head u32_bytes
front_told form sound frames rest = record { not_riff = refl; rf64 = refl; wave = refl; ds64 = refl; size = refl }

-- the fields of `ds64`
ds64_stands : (form sound frames : ℕ) (rest : List ℕ)
    → take 28 (drop 20 (rf64_front form sound frames ++ rest)) ≡ ds64_bytes form sound frames
unfolding rf64_front
ds64_stands form sound frames rest =
    let front = chunk_head (codes "RF64") 4294967295 ++ (codes "WAVE" ++ chunk_head (codes "ds64") 28) in
    let fields = ds64_bytes form sound frames in
    let long : length front ≡ 20 = simp (length-append, length-chunk_head) (omega arith) in
    let grouped : rf64_front form sound frames ++ rest ≡ front ++ (fields ++ rest) = simp append_assoc in
    ap (λ (bytes : List ℕ). take 28 (drop 20 bytes)) grouped
    ∙ ap (take 28) (drop_at front (fields ++ rest) 20 long)
    ∙ take_at fields rest 28 (length-ds64_bytes form sound frames)

-- values of the fields
abbrev told_by : ℕ → ℕ → ℕ → Ds64
told_by form sound frames = record { riff_size = form; data_size = sound; samples = frames; entries = 0 }

-- sizes that fit 64 bits
pub record AreSizes (form sound frames : ℕ) : Type 0 where
  pub form_fits : form < 2 ^ 64
  pub sound_fits : sound < 2 ^ 64
  pub frames_fit : frames < 2 ^ 64

ds64_found : (form sound frames : ℕ) (rest : List ℕ) → AreSizes form sound frames
    → ds64_in (rf64_front form sound frames ++ rest) ≡ Some (told_by form sound frames)
ds64_found form sound frames rest sizes =
    let file = rf64_front form sound frames ++ rest in
    let long : 48 ≤ length file =
    omega (arith, length-append (rf64_front form sound frames) rest, length-rf64_front form sound frames) in
    let inside = le-leb (20 + 28) (length file) long in
    let told = front_told form sound frames rest in
    rw (told.ds64, told.size, inside, ds64_stands form sound frames rest)
    (ds64_again form sound frames sizes.form_fits sizes.sound_fits sizes.frames_fit)

-- an RF64 file with these sizes in `ds64`
abbrev rf64_file : ℕ → ℕ → ℕ → ℕ → List ℕ → List ℕ → List ℕ → List ℕ
rf64_file form data_size frames bext_size bext format sound =
    rf64_front form data_size frames ++ wave_chunks bext_size 4294967295 bext format sound

length-rf64_file : (form data_size frames bext_size : ℕ) (bext format sound : List ℕ)
    → length (rf64_file form data_size frames bext_size bext format sound)
    ≡ 72 + (length bext + (length format + length sound))
length-rf64_file form data_size frames bext_size bext format sound =
    simp (length-append, length-rf64_front, length-wave_chunks) (omega arith)

-- headers of its chunks
chunks_in-rf64 : (form data_size frames bext_size : ℕ) (bext format sound : List ℕ)
    → AreWhole (size_in data_size []) bext_size 4294967295 data_size bext format sound
    → chunks_in (rf64_file form data_size frames bext_size bext format sound)
    (rf64_layout (rf64_file form data_size frames bext_size bext format sound) (told_by form data_size frames))
    ≡ wave_heads bext_size data_size
chunks_in-rf64 form data_size frames bext_size bext format sound whole =
    let front = rf64_front form data_size frames in
    let rest = wave_chunks bext_size 4294967295 bext format sound in
    let file = front ++ rest in
    let long = length-rf64_file form data_size frames bext_size bext format sound in
    let fuel : length file ≡ suc (suc (suc (length file - 3))) = omega (arith, long) in
    let behind : drop 48 file ≡ rest = drop_at front rest 48 (length-rf64_front form data_size frames) in
    rw (front_told form data_size frames rest).size (ap (λ n. chunks_from (size_in data_size []) n 48 (drop 48 file)) fuel
    ∙ ap (chunks_from (size_in data_size []) (suc (suc (suc (length file - 3)))) 48) behind
    ∙ wave_read (size_in data_size []) (length file - 3) bext_size 4294967295 data_size bext format sound whole)

-- no chunk is faulty if the samples end within the file
faultless : (end bext_size data_size : ℕ) → 88 + (bext_size + bext_size % 2) + data_size ≤ end
    → first_chunk_fault end [] (wave_heads bext_size data_size) ≡ None
faultless end bext_size data_size inside =
    let bext = le-ltb end (56 + bext_size) (omega arith) in
    let format = le-ltb end (56 + (bext_size + bext_size % 2) + 8 + 16) (omega arith) in
    let sound = le-ltb end (80 + (bext_size + bext_size % 2) + 8 + data_size) (omega arith) in
    rw (bext, format, sound) refl

-- the walk reaches the end of the file
pub rf64_walked : (form data_size frames bext_size : ℕ) (bext format sound : List ℕ)
    → AreSizes form data_size frames
    → AreWhole (size_in data_size []) bext_size 4294967295 data_size bext format sound
    → walked (rf64_front form data_size frames ++ wave_chunks bext_size 4294967295 bext format sound)
    ≡ Ok (wave_found bext_size data_size)
rf64_walked form data_size frames bext_size bext format sound sizes whole =
    let rest = wave_chunks bext_size 4294967295 bext format sound in
    let file = rf64_file form data_size frames bext_size bext format sound in
    let long = length-rf64_file form data_size frames bext_size bext format sound in
    let enough = le-leb 12 (length file) (omega (arith, long)) in
    let format_place : 56 + (bext_size + bext_size % 2) + 8 ≡ 64 + (bext_size + bext_size % 2) = omega arith in
    let sound_place : 80 + (bext_size + bext_size % 2) + 8 ≡ 88 + (bext_size + bext_size % 2) = omega arith in
    let none = faultless (length file) bext_size data_size (samples_inside _ _ _ _ _ _ _ whole _ long) in
    let told = front_told form data_size frames rest in
    rw (
      enough,
      told.not_riff,
      told.rf64,
      told.wave,
      ds64_found form data_size frames rest sizes,
      chunks_in-rf64 form data_size frames bext_size bext format sound whole,
      none,
      format_place,
      sound_place,
    ) refl
