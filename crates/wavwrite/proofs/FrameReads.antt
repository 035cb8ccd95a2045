-- Reading written samples back at their offsets.
use Rattle.std.proofs.Common.{◌≡◌, ℕ, zero, suc, ◌+◌, ◌-◌, ◌*◌, ◌/◌, ◌%◌, ◌<◌, ◌≤◌, List, ◌++◌, length, drop, sym, ap, ◌∙◌, arith, length-append}
use Rattle.std.proofs.lemmas.List.{append_assoc, drop_at, drop-drop}
use Rattle.std.specs.Prelude.{ℤ}
use Rattle.sound_terms.specs.Waves.{zeros, SoundInfo, data_place, file_of, sample_at, sample_of, sample_bytes}
use Rattle.sound_terms.specs.declared.Depth.{Depth}
use Rattle.sound_terms.specs.Depth.{bits_of}
use Rattle.sound_terms.specs.Mix.{quantized}
use Rattle.sound_terms.specs.Render.{frame_of, frames_of}
use Rattle.pcm.specs.Laws.{fits_quantized, length-sample_bytes, sample_of-sample_bytes}
use Rattle.wavwrite.proofs.FileReads.{sample_stands}

-- length of the samples of one time
pub length-frame_of : (depth : ℕ) (mix : ℕ → ℕ → ℤ) (time channel n : ℕ)
    → length (frame_of depth mix time channel n) ≡ n * (depth / 8)
length-frame_of depth mix time channel zero = omega arith
length-frame_of depth mix time channel (suc n) =
    let first = sample_bytes depth (quantized depth (mix channel time)) in
    let rest = frame_of depth mix time (suc channel) n in
    length-append first rest ∙ omega (
      arith,
      length-sample_bytes depth (quantized depth (mix channel time)),
      length-frame_of depth mix time (suc channel) n,
    )

-- length of n sample frames
pub length-frames_of : (depth : ℕ) (mix : ℕ → ℕ → ℤ) (channels from n : ℕ)
    → length (frames_of depth mix channels from n) ≡ n * (channels * (depth / 8))
length-frames_of depth mix channels from zero = omega arith
length-frames_of depth mix channels from (suc n) =
    length-append (frame_of depth mix from 1 channels) (frames_of depth mix channels (suc from) n)
    ∙ omega (arith, length-frame_of depth mix from 1 channels, length-frames_of depth mix channels (suc from) n)

-- dropping past a list of known length
past : (front rest : List ℕ) (n m : ℕ) → length front ≡ n → drop (n + m) (front ++ rest) ≡ drop m rest
past front rest n m long = sym (drop-drop m n (front ++ rest)) ∙ ap (drop m) (drop_at front rest n long)

-- the samples of one sample frame
in_frame : (depth : Depth) (mix : ℕ → ℕ → ℤ) (time first n i : ℕ) (rest : List ℕ) → i < n
    → sample_of (bits_of depth) (drop (i * (bits_of depth / 8)) (frame_of (bits_of depth) mix time first n ++ rest))
    ≡ quantized (bits_of depth) (mix (first + i) time)
in_frame depth mix time first zero i rest below = absurd (omega arith)
in_frame depth mix time first (suc n) zero rest below =
    let bits = bits_of depth in
    let sample = quantized bits (mix first time) in
    let others = frame_of bits mix time (suc first) n in
    let start : zero * (bits / 8) ≡ 0 = omega arith in
    let here : first ≡ first + zero = omega arith in
    ap (λ (k : ℕ). sample_of bits (drop k ((sample_bytes bits sample ++ others) ++ rest))) start
    ∙ ap (sample_of bits) (append_assoc (sample_bytes bits sample) others rest)
    ∙ sample_of-sample_bytes depth sample (others ++ rest) (fits_quantized depth (mix first time))
    ∙ ap (λ (channel : ℕ). quantized bits (mix channel time)) here
in_frame depth mix time first (suc n) (suc i) rest below =
    let bits = bits_of depth in
    let sample = quantized bits (mix first time) in
    let others = frame_of bits mix time (suc first) n in
    let further : suc i * (bits / 8) ≡ bits / 8 + i * (bits / 8) = omega arith in
    let there : suc first + i ≡ first + suc i = omega arith in
    ap (λ (k : ℕ). sample_of bits (drop k ((sample_bytes bits sample ++ others) ++ rest))) further
    ∙ ap (sample_of bits) (ap (drop (bits / 8 + i * (bits / 8))) (append_assoc (sample_bytes bits sample) others rest)
    ∙ past (sample_bytes bits sample) (others ++ rest) (bits / 8) (i * (bits / 8)) (length-sample_bytes bits sample))
    ∙ in_frame depth mix time (suc first) n i rest (omega arith)
    ∙ ap (λ (channel : ℕ). quantized bits (mix channel time)) there

-- one of many sample frames, and the bytes after it
in_frames : (depth : ℕ) (mix : ℕ → ℕ → ℤ) (channels from n frame : ℕ) (rest : List ℕ) → frame < n
    → (behind : List ℕ) × (drop (frame * (channels * (depth / 8))) (frames_of depth mix channels from n ++ rest)
    ≡ frame_of depth mix (from + frame) 1 channels ++ behind)
in_frames depth mix channels from zero frame rest below = absurd (omega arith)
in_frames depth mix channels from (suc n) zero rest below =
    let size = channels * (depth / 8) in
    let others = frames_of depth mix channels (suc from) n in
    let start : zero * size ≡ 0 = omega arith in
    let here : from ≡ from + zero = omega arith in (
      others ++ rest,
      ap (λ (k : ℕ). drop k ((frame_of depth mix from 1 channels ++ others) ++ rest)) start
          ∙ append_assoc (frame_of depth mix from 1 channels) others rest
          ∙ ap (λ (time : ℕ). frame_of depth mix time 1 channels ++ (others ++ rest)) here,
    )
in_frames depth mix channels from (suc n) (suc frame) rest below =
    let size = channels * (depth / 8) in
    let first = frame_of depth mix from 1 channels in
    let others = frames_of depth mix channels (suc from) n in
    let further : suc frame * size ≡ size + frame * size = omega arith in
    let there : suc from + frame ≡ from + suc frame = omega arith in
    let later = in_frames depth mix channels (suc from) n frame rest (omega arith) in (
      later.0,
      ap (λ (k : ℕ). drop k ((first ++ others) ++ rest)) further
          ∙ ap (drop (size + frame * size)) (append_assoc first others rest)
          ∙ past first (others ++ rest) size (frame * size) (length-frame_of depth mix from 1 channels)
          ∙ later.1
          ∙ ap (λ (time : ℕ). frame_of depth mix time 1 channels ++ later.0) there,
    )

-- the sample of a sample frame and a channel among written sample frames
pub samples_of_frames : (depth : Depth) (mix : ℕ → ℕ → ℤ) (channels from n frame channel : ℕ) (rest : List ℕ)
    → frame < n → 1 ≤ channel → channel ≤ channels
    → sample_of (bits_of depth) (drop ((frame * channels + (channel - 1)) * (bits_of depth / 8))
    (frames_of (bits_of depth) mix channels from n ++ rest))
    ≡ quantized (bits_of depth) (mix channel (from + frame))
samples_of_frames depth mix channels from n frame channel rest below first last =
    let bits = bits_of depth in
    let width = bits / 8 in
    let file = frames_of bits mix channels from n ++ rest in
    let place : (frame * channels + (channel - 1)) * width ≡ frame * (channels * width) + (channel - 1) * width =
    omega arith in
    let counted : 1 + (channel - 1) ≡ channel = omega arith in
    let there = in_frames bits mix channels from n frame rest below in
    ap (λ (k : ℕ). sample_of bits (drop k file)) place
    ∙ ap (sample_of bits) (sym (drop-drop ((channel - 1) * width) (frame * (channels * width)) file)
    ∙ ap (drop ((channel - 1) * width)) there.1)
    ∙ in_frame depth mix (from + frame) 1 channels (channel - 1) there.0 (omega arith)
    ∙ ap (λ (c : ℕ). quantized bits (mix c (from + frame))) counted

-- the samples of a file made of these sample frames
pub frames_read : (info : SoundInfo) (mix : ℕ → ℕ → ℤ) (from frame channel : ℕ) → length info.text ≡ 338
    → frame < info.frames → 1 ≤ channel → channel ≤ info.channels
    → sample_at (file_of info (frames_of (bits_of info.depth) mix info.channels from info.frames)) (data_place info)
    info.channels (bits_of info.depth) frame channel
    ≡ quantized (bits_of info.depth) (mix channel (from + frame))
frames_read info mix from frame channel whole below first last =
    let samples = frames_of (bits_of info.depth) mix info.channels from info.frames in
    sample_stands info samples info.channels (bits_of info.depth) frame channel whole
    ∙ samples_of_frames info.depth mix info.channels from info.frames frame channel (zeros (length samples % 2)) below
    first last
