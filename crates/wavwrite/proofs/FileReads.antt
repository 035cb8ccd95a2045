-- Reading a written file back: its facts and its samples.
use Rattle.std.proofs.Common.{◌≡◌, ℕ, ◌+◌, ◌-◌, ◌*◌, ◌/◌, ◌%◌, List, ◌++◌, length, take, drop, refl, sym, ap, ◌∙◌, arith, length-append, Ok}
use Rattle.std.proofs.lemmas.List.{append_assoc, drop_at, take_at, drop-drop}
use Rattle.sound_terms.specs.Depth.{bits_of}
use Rattle.sound_terms.specs.Waves.{zeros, SoundInfo, frame_bytes, data_size, bext_size, data_place, file_length, header_of, file_of, form_head, sample_at, sample_of}
use Rattle.sound_terms.specs.Formats.{format_of}
use Rattle.sound_terms.specs.SoundFiles.{sound_of}
use Rattle.sound_terms.specs.Laws.{length-u16_bytes, length-u32_bytes, length-u64_bytes, length-zeros, length-chunk_head}
use Rattle.wavwrite.proofs.WaveChunks.{behind_bext, behind_format, wave_chunks}
use Rattle.wavwrite.proofs.FormatReads.{format_read, length-format_bytes}
use Rattle.wavwrite.specs.Info.{facts_of}
use Rattle.wavwrite.proofs.FileInfo.{IsInfo}
use Rattle.wavwrite.proofs.ContentReads.{bext_contents, data_told, facts_found, file_is, file_walked, format_contents, length-bext_contents, length-form_head}

-- the walk finds the contents of `bext` and `fmt `
bext_found : (info : SoundInfo) (format sound : List ℕ) → length info.text ≡ 338
    → take (bext_size info) (drop 56 (form_head info ++ wave_chunks (bext_size info) (data_told info)
    (bext_contents info ++ zeros (bext_size info % 2)) format sound))
    ≡ bext_contents info
bext_found info format sound whole =
    let bext = bext_contents info in
    let pad = zeros (bext_size info % 2) in
    let behind = behind_bext (form_head info) (bext_size info) (data_told info) (bext ++ pad) format sound
    (length-form_head info) in
    ap (take (bext_size info)) (behind.1 ∙ append_assoc bext pad behind.0)
    ∙ take_at bext (pad ++ behind.0) (bext_size info) (length-bext_contents info whole)

format_found : (info : SoundInfo) (bext format sound : List ℕ) → length bext ≡ bext_size info + bext_size info % 2
    → length format ≡ 16
    → take 16 (drop (64 + (bext_size info + bext_size info % 2))
    (form_head info ++ wave_chunks (bext_size info) (data_told info) bext format sound)) ≡ format
format_found info bext format sound bext_whole format_whole =
    let behind = behind_format (form_head info) (bext_size info) (data_told info) bext format sound
    (length-form_head info) bext_whole in
    ap (take 16) behind.1 ∙ take_at format behind.0 16 format_whole

-- reading a written file gives all its facts
pub reads_back : (name : List ℕ) (info : SoundInfo) (samples : List ℕ) → IsInfo info → length samples ≡ data_size info
    → sound_of name (file_of info samples) ≡ Ok (facts_of name info)
reads_back name info samples is counted =
    let bext = bext_contents info ++ zeros (bext_size info % 2) in
    let sound = samples ++ zeros (length samples % 2) in
    let formed : format_of (format_contents info) ≡ Ok (record { channels = info.channels; depth = info.depth }) =
    format_read info.channels (48000 * frame_bytes info) info.depth is.within.some_channels is.within.few_channels in
    let long = length-bext_contents info is.within.text_whole in
    let bext_whole : length bext ≡ bext_size info + bext_size info % 2 =
    simp (length-append, length-zeros) (omega (arith, long)) in
    let format_whole =
    length-format_bytes 1 info.channels 48000 (48000 * frame_bytes info) (frame_bytes info) (bits_of info.depth) in
    let walk = file_walked info samples is counted in
    let format_there = format_found info bext (format_contents info) sound bext_whole format_whole in
    let bext_there = bext_found info (format_contents info) sound is.within.text_whole in
    rw (file_is info samples, walk, format_there, formed, bext_there)
    (ap Ok (facts_found name info is))

-- ---- offset of the samples

-- the header ends at the offset of the samples
pub length-header_of : (info : SoundInfo) → length info.text ≡ 338 → length (header_of info) ≡ data_place info
unfolding header_of
length-header_of info whole =
    simp (
      length-append,
      length-form_head,
      length-zeros,
      length-chunk_head,
      length-u16_bytes,
      length-u32_bytes,
      length-u64_bytes,
    ) (omega arith)

-- length of the whole file with its padding
pub length-file_of : (info : SoundInfo) (samples : List ℕ) → length info.text ≡ 338 → length samples ≡ data_size info
    → length (file_of info samples) ≡ file_length info
unfolding file_of
length-file_of info samples whole counted =
    simp (length-append, length-zeros) (rw (counted, length-header_of info whole) refl)

-- the bytes after the header are the samples and their padding
pub behind_header : (info : SoundInfo) (samples : List ℕ) → length info.text ≡ 338
    → drop (data_place info) (file_of info samples) ≡ samples ++ zeros (length samples % 2)
unfolding file_of
behind_header info samples whole =
    drop_at (header_of info) (samples ++ zeros (length samples % 2)) (data_place info) (length-header_of info whole)

-- the bytes of the samples are at their offset
pub samples_stand : (info : SoundInfo) (samples : List ℕ) → length info.text ≡ 338 → length samples ≡ data_size info
    → take (data_size info) (drop (data_place info) (file_of info samples)) ≡ samples
samples_stand info samples whole counted =
    ap (take (data_size info)) (behind_header info samples whole)
    ∙ take_at samples (zeros (length samples % 2)) (data_size info) counted

-- a sample of the file is read from the bytes of its samples
pub sample_stands : (info : SoundInfo) (samples : List ℕ) (channels depth frame channel : ℕ) → length info.text ≡ 338
    → sample_at (file_of info samples) (data_place info) channels depth frame channel
    ≡ sample_of depth (drop ((frame * channels + (channel - 1)) * (depth / 8)) (samples ++ zeros (length samples % 2)))
sample_stands info samples channels depth frame channel whole =
    let place = (frame * channels + (channel - 1)) * (depth / 8) in
    ap (sample_of depth) (sym (drop-drop place (data_place info) (file_of info samples))
    ∙ ap (drop place) (behind_header info samples whole))
