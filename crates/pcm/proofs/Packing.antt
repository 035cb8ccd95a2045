-- Packing of 24-bit samples from the lower three bytes of 32-bit lanes.
use Rattle.std.proofs.Common.{◌≡◌, ℕ, ◌+◌, ◌*◌, ◌/◌, ◌%◌, ◌^◌, ◌<◌, ◌≤◌, List, [], ◌∷◌, ◌++◌, length, map, take, drop, get_or, refl, sym, ap, ◌∙◌, arith, length-append}
use Rattle.std.specs.Prelude.{ℤ, pos}
use Rattle.std.specs.List.{flat_map}
use Rattle.std.proofs.Math.Facts.{Fits-of_z}
use Rattle.std.proofs.Math.Seq.{take-add}
use Rattle.std.proofs.lemmas.List.{append_assoc, length-take-le, take-append-drop, take_at}
use Rattle.std.proofs.lemmas.List.Concat.{flat_map-append}
use Rattle.std.proofs.lemmas.Simd.{put_chunk_is, swz_l}
use borrow.Rule.Slice.PartMut.{post_of, put_mid}
use lib.Lanes.{digits_l, number_l, put_chunk}
use mir.Syntax.{w8, w32}
use mir.Val.{SFits, of_z}
use Rattle.byteorder.specs.Endian.{little_bytes}
use Rattle.sound_terms.specs.Waves.{sample_bytes}

-- source index of each packed byte
abbrev pub places : List ℕ
places = 0 ∷ 1 ∷ 2 ∷ 4 ∷ 5 ∷ 6 ∷ 8 ∷ 9 ∷ 10 ∷ 12 ∷ 13 ∷ 14 ∷ 128 ∷ 128 ∷ 128 ∷ 128 ∷ []

-- the bytes of the lowest lane do not depend on the lanes above
first_byte : (a n : ℕ) → (a + 4294967296 * n) % 256 ≡ a % 16777216 % 256
first_byte a n = omega arith

second_byte : (a n : ℕ) → (a + 4294967296 * n) / 256 % 256 ≡ a % 16777216 / 256 % 256
second_byte a n = omega arith

third_byte : (a n : ℕ) → (a + 4294967296 * n) / 256 / 256 % 256 ≡ a % 16777216 / 65536 % 256
third_byte a n = omega arith

next_lane : (a n : ℕ) → a < 2 ^ 32 → (a + 4294967296 * n) / 256 / 256 / 256 / 256 ≡ n
next_lane a n below = omega arith

four_packed : (a b c d : ℕ) → a < 2 ^ 32 → b < 2 ^ 32 → c < 2 ^ 32
    → take 12 (swz_l w8 16 (digits_l 256 16 (number_l 4294967296 (a ∷ b ∷ c ∷ d ∷ []))) 0 places)
    ≡ little_bytes 3 (a % 16777216) ++ (little_bytes 3 (b % 16777216) ++ (little_bytes 3 (c % 16777216)
    ++ (little_bytes 3 (d % 16777216) ++ [])))
four_packed a b c d first second third =
    let last = d + 4294967296 * 0 in
    let behind = c + 4294967296 * last in
    let more = b + 4294967296 * behind in
    rw (
      next_lane a more first,
      next_lane b behind second,
      next_lane c last third,
      first_byte a more,
      second_byte a more,
      third_byte a more,
      first_byte b behind,
      second_byte b behind,
      third_byte b behind,
      first_byte c last,
      second_byte c last,
      third_byte c last,
      first_byte d 0,
      second_byte d 0,
      third_byte d 0,
    ) refl

-- four samples stored over bytes
pub packed_bytes : (a b c d : ℤ) (bytes : List ℕ) → SFits w32 a → SFits w32 b → SFits w32 c → 16 ≤ length bytes
    → take 12 (put_chunk 0 bytes
    (swz_l w8 16 (digits_l 256 16 (number_l 4294967296 (map (of_z w32) (a ∷ b ∷ c ∷ d ∷ [])))) 0 places))
    ≡ flat_map (sample_bytes 24) (a ∷ b ∷ c ∷ d ∷ [])
packed_bytes a b c d bytes first second third room =
    ap (λ (l : List ℕ). take 12 l) (put_chunk_is 0 bytes (swz_l w8 16
    (digits_l 256 16 (number_l 4294967296 (map (of_z w32) (a ∷ b ∷ c ∷ d ∷ [])))) 0 places) room)
    ∙ four_packed (of_z w32 a) (of_z w32 b) (of_z w32 c) (of_z w32 d) (Fits-of_z {w = w32} first).fits
    (Fits-of_z {w = w32} second).fits (Fits-of_z {w = w32} third).fits

pub four_of : (samples : List ℤ) → 4 ≤ length samples
    → get_or samples 0 (pos 0) ∷ get_or samples 1 (pos 0) ∷ get_or samples 2 (pos 0) ∷ get_or samples 3 (pos 0) ∷ []
    ≡ take 4 samples
four_of (a ∷ b ∷ c ∷ d ∷ rest) four = refl
four_of samples four = absurd (omega arith)

-- four more samples are written
pub four_written : (i k : ℕ) (samples : List ℤ) (bytes new : List ℕ) → i * 3 ≤ length bytes → 12 ≤ length new
    → take 12 new ≡ flat_map (sample_bytes 24) (take 4 (drop i samples))
    → take (i * 3) bytes ≡ flat_map (sample_bytes 24) (take i samples)
    → take ((i + 4) * 3) (put_mid (i * 3) k bytes new) ≡ flat_map (sample_bytes 24) (take (i + 4) samples)
four_written i k samples bytes new room long written before =
    let front = take (i * 3) bytes in
    let words = take 12 new in
    let rest = post_of (i * 3) k bytes in
    let regroup : front ++ (new ++ rest) ≡ (front ++ words) ++ (drop 12 new ++ rest) =
    ap (λ (l : List ℕ). front ++ (l ++ rest)) (sym (take-append-drop 12 new))
    ∙ ap (λ (l : List ℕ). front ++ l) (append_assoc words (drop 12 new) rest)
    ∙ sym (append_assoc front words (drop 12 new ++ rest)) in
    let whole : length (front ++ words) ≡ (i + 4) * 3 =
    length-append front words ∙ rw (length-take-le (i * 3) bytes room, length-take-le 12 new long) (omega arith) in
    rw (
      regroup,
      take_at (front ++ words) (drop 12 new ++ rest) ((i + 4) * 3) whole,
      before,
      written,
      take-add i 4 samples,
      flat_map-append,
    ) refl
