-- The `ds64` chunk of RF64 (EBU Tech 3306, 3.2), which holds the sizes that exceed 32 bits. Numbers are little endian.
use Rattle.std.specs.Prelude.{ℕ, ◌+◌, ◌*◌, ◌&&◌, nat_le, List, ◌++◌, length, take, drop, Option, None, Some, if◌then◌else◌, codes}
use Rattle.sound_terms.specs.declared.Ds64.{Ds64}
use Rattle.sound_terms.specs.Chunks.{number_at, stands_at}
use Rattle.sound_terms.specs.Waves.{u64_bytes, u32_bytes}

-- the fields in the first 28 bytes of a chunk of the given size, or None if the chunk is too short for its table
abbrev pub ds64_of : List ℕ → ℕ → Option Ds64
ds64_of bytes size = if nat_le (28 + 12 * number_at 4 24 bytes) size
    then Some (record {
      riff_size = number_at 8 0 bytes;
      data_size = number_at 8 8 bytes;
      samples = number_at 8 16 bytes;
      entries = number_at 4 24 bytes;
    })
    else None

-- the 28 bytes of a chunk without table entries
unfoldable pub ds64_bytes : ℕ → ℕ → ℕ → List ℕ
ds64_bytes riff_size data_size samples =
    u64_bytes riff_size ++ (u64_bytes data_size ++ (u64_bytes samples ++ u32_bytes 0))

-- size of the chunk at offset 12
abbrev pub ds64_size : List ℕ → ℕ
ds64_size file = number_at 4 16 file

-- the `ds64` chunk at offset 12, or None if it is missing or extends past the end of the file
abbrev pub ds64_in : List ℕ → Option Ds64
ds64_in file = if stands_at (codes "ds64") 12 file && nat_le (20 + ds64_size file) (length file)
    then ds64_of (take 28 (drop 20 file)) (ds64_size file)
    else None
