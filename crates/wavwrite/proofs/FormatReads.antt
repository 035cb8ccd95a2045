-- Reading the written `fmt ` chunk back.
use Rattle.std.proofs.Common.{◌≡◌, ℕ, ◌*◌, ◌/◌, ◌<◌, ◌≤◌, Some, List, [], ◌++◌, length, refl, ap, ◌∙◌, arith, length-append, Ok, le-leb, eq-eqb}
use Rattle.std.proofs.lemmas.List.{append_assoc, append-nil, drop_at}
use Rattle.byteorder.specs.Endian.{little_number}
use Rattle.sound_terms.specs.Waves.{u16_bytes, u32_bytes}
use Rattle.sound_terms.specs.declared.Depth.{Depth}
use Rattle.sound_terms.specs.declared.Depth.TheVariants.{Sixteen, TwentyFour, ThirtyTwo}
use Rattle.sound_terms.specs.Depth.{bits_of}
use Rattle.sound_terms.specs.Chunks.{number_at}
use Rattle.sound_terms.specs.Formats.{depth_of, format_of}
use Rattle.sound_terms.specs.Laws.{bits_bounded, length-u16_bytes, length-u32_bytes, u16-reads_back, u32-reads_back}

-- the six numbers of `fmt `: tag, channels, sample rate, bytes per second, bytes per sample frame, bits per sample
unfoldable pub format_bytes : ℕ → ℕ → ℕ → ℕ → ℕ → ℕ → List ℕ
format_bytes tag channels rate speed frame depth =
    u16_bytes tag ++ (u16_bytes channels ++ (u32_bytes rate
    ++ (u32_bytes speed ++ (u16_bytes frame ++ u16_bytes depth))))

-- the chunk has sixteen bytes
pub length-format_bytes : (tag channels rate speed frame depth : ℕ)
    → length (format_bytes tag channels rate speed frame depth) ≡ 16
unfolding format_bytes
length-format_bytes tag channels rate speed frame depth =
    simp (length-append, length-u16_bytes, length-u32_bytes) (omega arith)

-- each number reads back
tag_told : (tag channels rate speed frame depth : ℕ) → tag < 65536
    → number_at 2 0 (format_bytes tag channels rate speed frame depth) ≡ tag
unfolding format_bytes
tag_told tag channels rate speed frame depth below =
    u16-reads_back tag (u16_bytes channels ++ (u32_bytes rate
    ++ (u32_bytes speed ++ (u16_bytes frame ++ u16_bytes depth)))) below

-- a field after the bytes in `front` reads back
field_told : (width at value : ℕ) (bytes front field rest : List ℕ) → length front ≡ at
    → bytes ≡ front ++ (field ++ rest) → little_number width (field ++ rest) ≡ value → number_at width at bytes ≡ value
field_told width at value bytes front field rest long grouped read =
    ap (number_at width at) grouped ∙ ap (little_number width) (drop_at front (field ++ rest) at long) ∙ read

channels_told : (tag channels rate speed frame depth : ℕ) → channels < 65536
    → number_at 2 2 (format_bytes tag channels rate speed frame depth) ≡ channels
unfolding format_bytes
channels_told tag channels rate speed frame depth below =
    let rest = u32_bytes rate ++ (u32_bytes speed ++ (u16_bytes frame ++ u16_bytes depth)) in
    field_told 2 2 channels (format_bytes tag channels rate speed frame depth) (u16_bytes tag) (u16_bytes channels) rest
    (length-u16_bytes tag) refl (u16-reads_back channels rest below)

rate_told : (tag channels rate speed frame depth : ℕ) → rate < 4294967296
    → number_at 4 4 (format_bytes tag channels rate speed frame depth) ≡ rate
unfolding format_bytes
rate_told tag channels rate speed frame depth below =
    let rest = u32_bytes speed ++ (u16_bytes frame ++ u16_bytes depth) in
    field_told 4 4 rate (format_bytes tag channels rate speed frame depth) (u16_bytes tag ++ u16_bytes channels)
    (u32_bytes rate) rest (simp (length-append, length-u16_bytes) (omega arith)) (simp append_assoc)
    (u32-reads_back rate rest below)

frame_told : (tag channels rate speed frame depth : ℕ) → frame < 65536
    → number_at 2 12 (format_bytes tag channels rate speed frame depth) ≡ frame
unfolding format_bytes
frame_told tag channels rate speed frame depth below =
    field_told 2 12 frame (format_bytes tag channels rate speed frame depth)
    (u16_bytes tag ++ (u16_bytes channels ++ (u32_bytes rate ++ u32_bytes speed))) (u16_bytes frame) (u16_bytes depth)
    (simp (length-append, length-u16_bytes, length-u32_bytes) (omega arith)) (simp append_assoc)
    (u16-reads_back frame (u16_bytes depth) below)

depth_told : (tag channels rate speed frame depth : ℕ) → depth < 65536
    → number_at 2 14 (format_bytes tag channels rate speed frame depth) ≡ depth
unfolding format_bytes
depth_told tag channels rate speed frame depth below =
    field_told 2 14 depth (format_bytes tag channels rate speed frame depth)
    (u16_bytes tag ++ (u16_bytes channels ++ (u32_bytes rate ++ (u32_bytes speed ++ u16_bytes frame))))
    (u16_bytes depth) [] (simp (length-append, length-u16_bytes, length-u32_bytes) (omega arith))
    (simp (append_assoc, append-nil)) (u16-reads_back depth [] below)

-- the depth is determined by its number of bits
depth_named_again : (depth : Depth) → depth_of (bits_of depth) ≡ Some depth
depth_named_again Sixteen = refl
depth_named_again TwentyFour = refl
depth_named_again ThirtyTwo = refl

-- PCM of 1 to 64 channels reads back
pub format_read : (channels speed : ℕ) (depth : Depth) → 1 ≤ channels → channels ≤ 64
    → format_of (format_bytes 1 channels 48000 speed (channels * (bits_of depth / 8)) (bits_of depth))
    ≡ Ok (record { channels = channels; depth = depth })
format_read channels speed depth some few =
    let frame = channels * (bits_of depth / 8) in
    let bits = bits_of depth in
    let bounds = bits_bounded depth in
    let narrow : frame ≤ 64 * 4 = grind (arith, bounds) in
    let tag = tag_told 1 channels 48000 speed frame bits (omega arith) in
    let count = channels_told 1 channels 48000 speed frame bits (omega arith) in
    let rate = rate_told 1 channels 48000 speed frame bits (omega arith) in
    let width = frame_told 1 channels 48000 speed frame bits (omega arith) in
    let named = depth_told 1 channels 48000 speed frame bits (omega (arith, bounds)) in
    let long =
    le-leb 16 (length (format_bytes 1 channels 48000 speed frame bits))
    (omega (arith, length-format_bytes 1 channels 48000 speed frame bits)) in
    rw (
      named,
      depth_named_again depth,
      long,
      tag,
      count,
      le-leb 1 channels some,
      le-leb channels 64 few,
      width,
      eq-eqb frame frame refl,
      rate,
    ) refl
