-- The bytes of blocks, one behind the other, are those of frames, and where they stand in the rendered file.
use Rattle.std.proofs.Common.{◌≡◌, ℕ, zero, suc, ◌+◌, ◌-◌, ◌*◌, ◌/◌, ◌<◌, ◌≤◌, List, ◌++◌, length, take, refl, sym, ap, ◌∙◌, arith, length-append, ◌%◌, ℤ, flat_map, mul-le-mul_right, append_assoc, length-take-le, take_at}
use borrow.Rule.Slice.PartMut.{post_of, put_mid}
use Rattle.std.proofs.lemmas.List.Concat.{flat_map-append}
use Rattle.pcm.specs.Laws.{length-sample_bytes}
use Rattle.sound_terms.specs.Depth.{bits_of}
use Rattle.sound_terms.specs.Blocks.{block_count, block_frames, block_samples, block_start, frame_samples}
use Rattle.sound_terms.specs.Mix.{quantized}
use Rattle.sound_terms.specs.Render.{Range, frame_of, frames_of, rendering_of, render_info}
use Rattle.sound_terms.specs.Waves.{sample_bytes, file_of, header_of, zeros}
use Rattle.rendering.specs.declared.stretch.Stretch.{Stretch}
use Rattle.rendering.specs.Work.{bytes_for, IsInRange, place_of}
use Rattle.rendering.specs.Written.{block_bytes, frames_before, bytes_of_blocks}

-- ---- a block

module _ (depth start : ℕ) (mix : ℕ → ℕ → ℤ) where
  abbrev sums : ℕ → ℕ → ℤ
  sums i channel = mix channel (start + i)

  -- the bytes of one frame
  channels_packed : (i channel n : ℕ)
      → flat_map (sample_bytes depth) (frame_samples depth sums i channel n) ≡ frame_of depth mix (start + i) channel n
  channels_packed i channel zero = refl
  channels_packed i channel (suc n) = rw (channels_packed i (suc channel) n) refl

  -- those of some frames
  frames_packed : (channels i n : ℕ)
      → flat_map (sample_bytes depth) (block_samples depth sums channels i n)
      ≡ frames_of depth mix channels (start + i) n
  frames_packed channels i zero = refl
  frames_packed channels i (suc n) =
      let next : start + suc i ≡ suc (start + i) = omega arith in
      flat_map-append (sample_bytes depth) (frame_samples depth sums i 1 channels)
      (block_samples depth sums channels (suc i) n)
      ∙ rw (channels_packed i 1 channels, frames_packed channels (suc i) n, next) refl

  -- the bytes of a block's samples are those of its frames
  pub block_packed : (channels n : ℕ)
      → flat_map (sample_bytes depth) (block_samples depth sums channels 0 n) ≡ frames_of depth mix channels start n
  block_packed channels n =
      frames_packed channels 0 n ∙ ap (λ (time : ℕ). frames_of depth mix channels time n) (omega arith)

-- ---- one block behind the other

-- frames behind frames
pub frames_behind : (depth channels from n m : ℕ) (mix : ℕ → ℕ → ℤ)
    → frames_of depth mix channels from n ++ frames_of depth mix channels (from + n) m
    ≡ frames_of depth mix channels from (n + m)
frames_behind depth channels from zero m mix =
    let here : from + 0 ≡ from = omega arith in
    let none : 0 + m ≡ m = omega arith in
    rw (here, none) refl
frames_behind depth channels from (suc n) m mix =
    let next : from + suc n ≡ suc from + n = omega arith in
    let more : suc n + m ≡ suc (n + m) = omega arith in
    rw (more, next, ← frames_behind depth channels (suc from) n m mix)
    (append_assoc (frame_of depth mix from 1 channels) (frames_of depth mix channels (suc from) n) _)

-- a block by itself
pub one_block : (range : Range) (mix : ℕ → ℕ → ℤ) (k : ℕ) → k < block_count range
    → block_bytes range mix k ≡ bytes_of_blocks range mix k (k + 1)
one_block range mix k inside =
    block_packed (bits_of range.depth) (block_start range k) mix range.channels (block_frames range k)
    ∙ ap (λ (n : ℕ). frames_of (bits_of range.depth) mix range.channels (block_start range k) n) (omega (arith, inside))

-- blocks behind others
pub blocks_behind : (range : Range) (mix : ℕ → ℕ → ℤ) (first k next : ℕ) → first ≤ k → k ≤ next → k < block_count range
    → bytes_of_blocks range mix first k ++ bytes_of_blocks range mix k next ≡ bytes_of_blocks range mix first next
blocks_behind range mix first k next behind before inside =
    let n = frames_before range k - frames_before range first in
    let m = frames_before range next - frames_before range k in
    let start : block_start range k ≡ block_start range first + n = omega (arith, behind, inside) in
    let more : n + m ≡ frames_before range next - frames_before range first = omega (arith, behind, before) in
    rw (start, frames_behind (bits_of range.depth) range.channels (block_start range first) n m mix, more) refl

-- ---- how many bytes they are

-- those of one frame
length-frame_of : (depth time channel n : ℕ) (mix : ℕ → ℕ → ℤ)
    → length (frame_of depth mix time channel n) ≡ n * (depth / 8)
length-frame_of depth time channel zero mix = omega arith
length-frame_of depth time channel (suc n) mix = simp length-append (omega (
  arith,
  length-sample_bytes depth (quantized depth (mix channel time)),
  length-frame_of depth time (suc channel) n mix,
))

-- those of some frames
pub length-frames_of : (depth channels from n : ℕ) (mix : ℕ → ℕ → ℤ)
    → length (frames_of depth mix channels from n) ≡ n * (channels * (depth / 8))
length-frames_of depth channels from zero mix = omega arith
length-frames_of depth channels from (suc n) mix = simp length-append
    (omega (arith, length-frame_of depth from 1 channels mix, length-frames_of depth channels (suc from) n mix))

bytes_sum : (range : Range) (a b : ℕ) → bytes_for range a + bytes_for range b ≡ bytes_for range (a + b)
bytes_sum range a b = omega arith

-- those of some frames, and of frames behind them
pub bytes_more : (range : Range) (a b c : ℕ) → a ≤ b → b ≤ c
    → bytes_for range (b - a) + bytes_for range (c - b) ≡ bytes_for range (c - a)
bytes_more range a b c from to = bytes_sum range (b - a) (c - b) ∙ ap (bytes_for range) (omega (arith, from, to))

-- there is room for them where there is room for all up to a later one
pub bytes_room : (range : Range) (a b c d : ℕ) → a ≤ b → b ≤ c → c ≤ d
    → bytes_for range (b - a) + bytes_for range (c - b) ≤ bytes_for range (d - a)
bytes_room range a b c d from on to = rw (bytes_more range a b c from on)
    (mul-le-mul_right (bits_of range.depth / 8) (mul-le-mul_right range.channels (omega (arith, to))))

-- ---- a stretch in the rendered file

-- the file as what is before a stretch, its bytes, and what is behind them
pub record IsInFile (range : Range) (mix : ℕ → ℕ → ℤ) (s : Stretch) : Type 0 where
  pub front : List ℕ
  pub back : List ℕ
  pub whole : rendering_of range mix ≡ front ++ (bytes_of_blocks range mix s.first s.end ++ back)
  pub place : length front ≡ place_of range s

pub in_file : (range : Range) (mix : ℕ → ℕ → ℤ) (s : Stretch) → IsInRange range s.first s.end → IsInFile range mix s
unfolding rendering_of file_of
in_file range mix s is =
    let depth = bits_of range.depth in
    let channels = range.channels in
    let all = range.to - range.from in
    let a = s.first * 4096 in
    let n = frames_before range s.end - frames_before range s.first in
    let rest = all - (a + n) in
    let head = header_of (render_info range) in
    let before = frames_of depth mix channels range.from a in
    let bytes = bytes_of_blocks range mix s.first s.end in
    let after = frames_of depth mix channels (range.from + a + n) rest in
    let samples = frames_of depth mix channels range.from all in
    let pad = zeros (length samples % 2) in
    let count : a + (n + rest) ≡ all = omega (arith, is.some, is.there) in
    let split : before ++ (bytes ++ after) ≡ samples =
    rw (
      frames_behind depth channels (range.from + a) n rest mix,
      frames_behind depth channels range.from a (n + rest) mix,
      count,
    ) in
    record {
      front = head ++ before;
      back = after ++ pad;
      whole = ap (λ (front : List ℕ). head ++ (front ++ pad)) (sym split) ∙ simp append_assoc;
      place = length-append head before ∙ omega (arith, length-frames_of depth channels range.from a mix);
    }

-- ---- a part of the bytes that was written anew

-- the bytes up to its end are those before it, and its own
pub written_front : (at n : ℕ) (old new bytes : List ℕ) → at + n ≤ length old → length new ≡ n → new ≡ bytes
    → take (at + n) (put_mid at (at + n - at) old new) ≡ take at old ++ bytes
written_front at n old new bytes room long are =
    let back = post_of at (at + n - at) old in
    ap (take (at + n)) (sym (append_assoc (take at old) new back))
    ∙ take_at (take at old ++ new) back (at + n)
    (length-append (take at old) new ∙ omega (arith, long, length-take-le at old (omega (arith, room))))
    ∙ ap (λ (l : List ℕ). take at old ++ l) are
