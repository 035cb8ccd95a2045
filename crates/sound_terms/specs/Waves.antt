-- Bytes of a written sound file: RIFF WAVE with a Broadcast Wave `bext` chunk (EBU Tech 3285), or RF64 (EBU Tech 3306)
-- if it is too long for RIFF. Numbers are little endian.
use Rattle.std.specs.Prelude.{ℕ, ◌+◌, ◌-◌, ◌*◌, ◌/◌, ◌%◌, nat_lt, Bool, ℤ, List, ◌++◌, length, drop, replicate, if◌then◌else◌, codes}
use Rattle.std.specs.Int.{w32}
use Rattle.byteorder.specs.Endian.{little_bytes, little_number, low_bytes, twos_complement}
use Rattle.sound_terms.specs.declared.Depth.{Depth}
use Rattle.sound_terms.specs.Depth.{bits_of}

-- a number as two bytes
unfoldable pub u16_bytes : ℕ → List ℕ
u16_bytes n = little_bytes 2 n

-- a number as four bytes
unfoldable pub u32_bytes : ℕ → List ℕ
u32_bytes n = little_bytes 4 n

-- a number as eight bytes
unfoldable pub u64_bytes : ℕ → List ℕ
u64_bytes n = little_bytes 8 n

-- n zero bytes
unfoldable pub zeros : ℕ → List ℕ
zeros n = replicate n 0

-- header of a chunk: its four-byte id and its size
unfoldable pub chunk_head : List ℕ → ℕ → List ℕ
chunk_head id size = id ++ u32_bytes size

-- a sample as depth / 8 bytes in two's complement
abbrev pub sample_bytes : ℕ → ℤ → List ℕ
sample_bytes depth sample = little_bytes (depth / 8) (low_bytes w32 (depth / 8) sample)

-- the sample at the start of the bytes
abbrev pub sample_of : ℕ → List ℕ → ℤ
sample_of depth bytes = twos_complement (depth / 8) (little_number (depth / 8) bytes)

-- the sample of a sample frame (from 0) and a channel (from 1), if the samples start at offset `place`
abbrev pub sample_at : List ℕ → ℕ → ℕ → ℕ → ℕ → ℕ → ℤ
sample_at file place channels depth frame channel =
    sample_of depth (drop (place + (frame * channels + (channel - 1)) * (depth / 8)) file)

-- properties of a sound file without its samples; `text` is the 338 bytes of the five text fields of `bext`
pub record SoundInfo : Type 0 where
  pub channels : ℕ
  pub depth : Depth
  pub frames : ℕ
  pub text : List ℕ
  pub time_reference : ℕ
  pub history : List ℕ

-- number of bytes per sample frame
abbrev pub frame_bytes : SoundInfo → ℕ
frame_bytes info = info.channels * (bits_of info.depth / 8)

-- number of bytes of the samples
abbrev pub data_size : SoundInfo → ℕ
data_size info = info.frames * frame_bytes info

-- size of the `bext` chunk: 602 bytes and the CodingHistory
abbrev pub bext_size : SoundInfo → ℕ
bext_size info = 602 + length info.history

-- offset of the samples
abbrev pub data_place : SoundInfo → ℕ
data_place info = 88 + (bext_size info + bext_size info % 2)

-- length of the file; chunks are padded to even sizes
abbrev pub file_length : SoundInfo → ℕ
file_length info = data_place info + (data_size info + data_size info % 2)

-- the length exceeds the RIFF size field
abbrev pub is_large : SoundInfo → Bool
is_large info = nat_lt 4294967294 (file_length info - 8)

-- `ds64` chunk of RF64 without table entries (EBU Tech 3306, 3.2)
abbrev pub ds64_chunk : SoundInfo → List ℕ
ds64_chunk info =
    chunk_head (codes "ds64") 28 ++ (u64_bytes (file_length info - 8)
    ++ (u64_bytes (data_size info) ++ (u64_bytes info.frames ++ zeros 4)))

-- header of the file; RIFF has a JUNK chunk of the same size as `ds64`
abbrev pub form_head : SoundInfo → List ℕ
form_head info = if is_large info
    then chunk_head (codes "RF64") 4294967295 ++ (codes "WAVE" ++ ds64_chunk info)
    else chunk_head (codes "RIFF") (file_length info - 8)
    ++ (codes "WAVE" ++ (chunk_head (codes "JUNK") 28 ++ zeros 28))

-- `bext` chunk, version 1 without UMID (EBU Tech 3285, 2.3)
abbrev pub bext_chunk : SoundInfo → List ℕ
bext_chunk info =
    chunk_head (codes "bext") (bext_size info) ++ (info.text ++ (u64_bytes info.time_reference ++ (u16_bytes 1
    ++ (zeros 254 ++ (info.history ++ zeros (bext_size info % 2))))))

-- `fmt ` chunk of PCM at 48,000 samples per second
abbrev pub format_chunk : SoundInfo → List ℕ
format_chunk info =
    chunk_head (codes "fmt ") 16 ++ (u16_bytes 1 ++ (u16_bytes info.channels ++ (u32_bytes 48000
    ++ (u32_bytes (48000 * frame_bytes info) ++ (u16_bytes (frame_bytes info) ++ u16_bytes (bits_of info.depth))))))

-- header of the `data` chunk; in RF64 its size field refers to `ds64`
abbrev pub data_head : SoundInfo → List ℕ
data_head info = chunk_head (codes "data") (if is_large info then 4294967295 else data_size info)

-- all bytes before the samples
unfoldable pub header_of : SoundInfo → List ℕ
header_of info = form_head info ++ (bext_chunk info ++ (format_chunk info ++ data_head info))

-- the complete file with these bytes of samples
unfoldable pub file_of : SoundInfo → List ℕ → List ℕ
file_of info samples = header_of info ++ (samples ++ zeros (length samples % 2))
