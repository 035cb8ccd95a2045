-- Reading the contents of the written chunks.
use Rattle.std.proofs.Common.{◌≡◌, ℕ, Bool, true, Option, Some, Ok, [], codes, if◌then◌else◌, ◌+◌, ◌-◌, ◌*◌, ◌/◌, ◌%◌, ◌^◌, ◌<◌, ◌≤◌, List, ◌++◌, length, take, drop, refl, ap, ◌∙◌, arith, length-append, false, le-leb, le-ltb, ltb-false}
use Rattle.std.proofs.lemmas.List.{append_assoc, drop_at, take_at, take_all}
use Rattle.std.proofs.lemmas.Bool.{ne_eqb}
use Rattle.std.proofs.Math.Nat.{mul-div_cancel}
use Rattle.byteorder.specs.Endian.{little_number}
use Rattle.sound_terms.specs.Waves.{u16_bytes, u64_bytes, zeros, SoundInfo, chunk_head, frame_bytes, data_size, bext_size, file_length, is_large, ds64_chunk, form_head, header_of, file_of}
use Rattle.sound_terms.specs.Walks.{as_it_stands, size_in, walked}
use Rattle.sound_terms.specs.declared.Depth.{Depth}
use Rattle.sound_terms.specs.Depth.{bits_of}
use Rattle.sound_terms.specs.Chunks.{number_at}
use Rattle.sound_terms.specs.Sounds.{facts_with, history_limit}
use Rattle.sound_terms.specs.Laws.{bits_bounded, length-chunk_head, length-u16_bytes, length-u64_bytes, length-zeros, u64-reads_back}
use Rattle.wavwrite.proofs.WaveChunks.{AreWhole, wave_chunks}
use Rattle.wavwrite.proofs.RiffReads.{riff_front_is, riff_walked, wave_found}
use Rattle.wavwrite.proofs.Rf64Reads.{AreSizes, rf64_front_is, rf64_walked}
use Rattle.wavwrite.proofs.FormatReads.{format_bytes, length-format_bytes}
use Rattle.wavwrite.specs.Info.{facts_of}
use Rattle.wavwrite.proofs.FileInfo.{IsInfo}

-- contents of the `bext` chunk, without padding
unfoldable pub bext_contents : SoundInfo → List ℕ
bext_contents info = info.text ++ (u64_bytes info.time_reference ++ (u16_bytes 1 ++ (zeros 254 ++ info.history)))

-- contents of the `fmt ` chunk
abbrev pub format_contents : SoundInfo → List ℕ
format_contents info =
    format_bytes 1 info.channels 48000 (48000 * frame_bytes info) (frame_bytes info) (bits_of info.depth)

-- size field of the `data` chunk
abbrev pub data_told : SoundInfo → ℕ
data_told info = if is_large info then 4294967295 else data_size info

-- a file is the header of its form followed by the three chunks
pub file_is : (info : SoundInfo) (samples : List ℕ)
    → file_of info samples ≡ form_head info ++ wave_chunks (bext_size info) (data_told info)
    (bext_contents info ++ zeros (bext_size info % 2)) (format_contents info) (samples ++ zeros (length samples % 2))
unfolding file_of header_of wave_chunks bext_contents format_bytes
file_is info samples = simp append_assoc

-- the contents of `bext` have 602 bytes and the CodingHistory
pub length-bext_contents : (info : SoundInfo) → length info.text ≡ 338 → length (bext_contents info) ≡ bext_size info
unfolding bext_contents
length-bext_contents info whole =
    simp (length-append, length-zeros, length-u16_bytes, length-u64_bytes) (omega arith)

-- length of a choice between two lists of the same length
length_either : (b : Bool) (xs ys : List ℕ) (n : ℕ) → length xs ≡ n → length ys ≡ n → length (if b then xs else ys) ≡ n
length_either true xs ys n left right = left
length_either false xs ys n left right = right

-- the RIFF header with JUNK is as long as the RF64 header with `ds64`
pub length-form_head : (info : SoundInfo) → length (form_head info) ≡ 48
length-form_head info =
    length_either (is_large info) _ _ 48
    (simp (length-append, length-zeros, length-chunk_head, length-u64_bytes) (omega arith))
    (simp (length-append, length-zeros, length-chunk_head) (omega arith))

-- the chunks of this layout match their size fields
chunks_whole : (info : SoundInfo) (samples : List ℕ) (size_of : List ℕ → ℕ → Option ℕ) (told : ℕ) → IsInfo info
    → length samples ≡ data_size info → told < 4294967296
    → size_of (codes "bext") (bext_size info) ≡ Some (bext_size info)
    → size_of (codes "fmt ") 16 ≡ Some 16 → size_of (codes "data") told ≡ Some (data_size info)
    → AreWhole size_of (bext_size info) told (data_size info) (bext_contents info ++ zeros (bext_size info % 2))
    (format_contents info)
    (samples ++ zeros (length samples % 2))
chunks_whole info samples size_of told is counted below bext_means format_means data_means =
    let few = is.within.history_fits in
    let bext = length-bext_contents info is.within.text_whole in
    record {
      bext_fits = omega (arith, few);
      told_fits = below;
      bext_told = bext_means;
      format_told = format_means;
      data_told = data_means;
      bext_whole = simp (length-append, length-zeros) (omega (arith, bext));
      format_whole = length-format_bytes 1 info.channels 48000 (48000 * frame_bytes info) (frame_bytes info)
          (bits_of info.depth);
      data_whole = simp (length-append, length-zeros) (rw counted refl);
    }

-- a sample frame has at least one byte
frame_some : (channels : ℕ) (depth : Depth) → 1 ≤ channels → 0 < channels * (bits_of depth / 8)
frame_some channels depth some =
    let bounds = bits_bounded depth in
    let wide : 1 ≤ bits_of depth / 8 = omega (arith, bounds) in
    grind (arith, wide)

-- there are no more sample frames than bytes
frames_bounded : (frames size : ℕ) → 0 < size → frames ≤ frames * size
frames_bounded frames size some = grind arith

-- the sizes of the file fit 64 bits
sizes_told : (info : SoundInfo) → IsInfo info → AreSizes (file_length info - 8) (data_size info) info.frames
sizes_told info is =
    let fits = is.fits in
    let some = frame_some info.channels info.depth is.within.some_channels in
    let few = frames_bounded info.frames (frame_bytes info) some in
    record { form_fits = omega (arith, fits); sound_fits = omega (arith, fits); frames_fit = omega (arith, fits, few) }

-- the chunk walk reaches the end of the file, as RIFF or as RF64
pub file_walked : (info : SoundInfo) (samples : List ℕ) → IsInfo info → length samples ≡ data_size info
    → walked (form_head info ++ wave_chunks (bext_size info) (data_told info)
    (bext_contents info ++ zeros (bext_size info % 2)) (format_contents info) (samples ++ zeros (length samples % 2)))
    ≡ Ok (wave_found (bext_size info) (data_size info))
file_walked info samples is counted = by_size (is_large info) refl where
  by_size : (large : Bool) → is_large info ≡ large
      → walked ((if large
      then chunk_head (codes "RF64") 4294967295 ++ (codes "WAVE" ++ ds64_chunk info)
      else chunk_head (codes "RIFF") (file_length info - 8)
      ++ (codes "WAVE" ++ (chunk_head (codes "JUNK") 28 ++ zeros 28)))
      ++ wave_chunks (bext_size info) (if large then 4294967295 else data_size info)
      (bext_contents info ++ zeros (bext_size info % 2)) (format_contents info) (samples ++ zeros (length samples % 2)))
      ≡ Ok (wave_found (bext_size info) (data_size info))
  by_size false small =
      let low = ltb-false 4294967294 (file_length info - 8) small in
      let whole = chunks_whole info samples as_it_stands (data_size info) is counted (omega (arith, low)) refl refl refl in
      ap (λ (front : List ℕ). walked (front ++ wave_chunks (bext_size info) (data_size info)
      (bext_contents info ++ zeros (bext_size info % 2)) (format_contents info) (samples ++ zeros (length samples % 2))))
      (riff_front_is (file_length info - 8))
      ∙ riff_walked (file_length info - 8) (bext_size info) (data_size info) _ _ _ whole
  by_size true large =
      let few = is.within.history_fits in
      let other = ne_eqb (bext_size info) 4294967295 (omega (arith, few)) in
      let whole = chunks_whole info samples (size_in (data_size info) []) 4294967295 is counted (omega arith)
      (rw other refl) refl refl in
      ap (λ (front : List ℕ). walked (front ++ wave_chunks (bext_size info) 4294967295
      (bext_contents info ++ zeros (bext_size info % 2)) (format_contents info) (samples ++ zeros (length samples % 2))))
      (rf64_front_is (file_length info - 8) (data_size info) info.frames)
      ∙ rf64_walked (file_length info - 8) (data_size info) info.frames (bext_size info) _ _ _ (sizes_told info is) whole

-- the fields read from the `bext` chunk
time_told : (info : SoundInfo) → length info.text ≡ 338 → info.time_reference < 2 ^ 64
    → number_at 8 338 (bext_contents info) ≡ info.time_reference
unfolding bext_contents
time_told info whole fits =
    let rest = u16_bytes 1 ++ (zeros 254 ++ info.history) in
    ap (little_number 8) (drop_at info.text (u64_bytes info.time_reference ++ rest) 338 whole)
    ∙ u64-reads_back info.time_reference rest fits

text_told : (info : SoundInfo) → length info.text ≡ 338 → take 338 (bext_contents info) ≡ info.text
unfolding bext_contents
text_told info whole =
    take_at info.text (u64_bytes info.time_reference ++ (u16_bytes 1 ++ (zeros 254 ++ info.history))) 338 whole

history_told : (info : SoundInfo) → length info.text ≡ 338 → length info.history ≤ 65536
    → take history_limit (drop 602 (bext_contents info)) ≡ info.history
unfolding bext_contents
history_told info whole fits =
    let front = info.text ++ (u64_bytes info.time_reference ++ (u16_bytes 1 ++ zeros 254)) in
    let long : length front ≡ 602 =
    simp (length-append, length-zeros, length-u16_bytes, length-u64_bytes) (omega arith) in
    let grouped : bext_contents info ≡ front ++ info.history = simp append_assoc in
    ap (λ (bytes : List ℕ). take history_limit (drop 602 bytes)) grouped
    ∙ ap (take history_limit) (drop_at front info.history 602 long) ∙ take_all 65536 info.history fits

-- the facts read from these chunks
pub facts_found : (name : List ℕ) (info : SoundInfo) → IsInfo info
    → facts_with name (wave_found (bext_size info) (data_size info))
    (record { channels = info.channels; depth = info.depth }) (bext_contents info)
    ≡ facts_of name info
facts_found name info is =
    let long = length-bext_contents info is.within.text_whole in
    let history_fits = is.within.history_fits in
    let whole = le-leb 346 (length (bext_contents info)) (omega (arith, long)) in
    let cut = le-ltb (602 + 65536) (length (bext_contents info)) (omega (arith, long)) in
    let frames : data_size info / frame_bytes info ≡ info.frames =
    mul-div_cancel info.frames (frame_some info.channels info.depth is.within.some_channels) in
    rw (
      frames,
      whole,
      cut,
      text_told info is.within.text_whole,
      time_told info is.within.text_whole is.within.time_fits,
      history_told info is.within.text_whole is.within.history_fits,
    ) refl
