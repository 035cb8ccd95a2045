-- The recognised chunks of a RIFF WAVE or RF64 file (EBU Tech 3306), or its first fault. Faults in order: not WAVE,
-- invalid `ds64`, each chunk from the start, no `fmt `, no `data`.
use Rattle.std.specs.Prelude.{ℕ, ◌+◌, ◌&&◌, nat_lt, nat_le, Bool, not, List, [], ◌∷◌, ◌++◌, length, drop, Option, None, Some, Result, Ok, Err, if◌then◌else◌, option_map, unwrap_or, codes, find, ◌==◌, bytes_eq}
use Rattle.std.specs.Option.{ok_or}
use Rattle.sound_terms.specs.declared.Chunks.{Chunks}
use Rattle.sound_terms.specs.declared.Ds64.{Ds64}
use Rattle.sound_terms.specs.declared.Span.{Span}
use Rattle.sound_terms.specs.declared.SoundFault.{SoundFault}
use Rattle.sound_terms.specs.declared.SoundFault.TheVariants.{NotWave, NoFormat, NoData, Truncated, BadDs64}
use Rattle.sound_terms.specs.Steps.{◌>>=◌}
use Rattle.sound_terms.specs.Chunks.{Chunk, stands_at, padded, chunks_from, table_of, first_of, is_uncounted, has_others}
use Rattle.sound_terms.specs.Ds64.{ds64_in, ds64_size}

-- fault of a chunk after those in `before`: its size is unknown, or it is recognised and passes the end of the file
abbrev pub chunk_fault : ℕ → List Chunk → Chunk → Option SoundFault
chunk_fault end before chunk = fault_by chunk.size where
  fault_by : Option ℕ → Option SoundFault
  fault_by None = Some BadDs64
  fault_by (Some size) =
      if nat_lt end (chunk.at + size) && not (is_uncounted before chunk) then Some Truncated else None

-- first fault of chunks that follow those in `before`
abbrev pub first_chunk_fault : ℕ → List Chunk → List Chunk → Option SoundFault
first_chunk_fault end before [] = None
first_chunk_fault end before (chunk ∷ chunks) =
    fault_or (chunk_fault end before chunk) (first_chunk_fault end (before ++ chunk ∷ []) chunks) where
      fault_or : Option SoundFault → Option SoundFault → Option SoundFault
      fault_or None later = later
      fault_or (Some fault) later = Some fault

-- contents of a chunk whose size is known
abbrev pub span_of : Chunk → Span
span_of chunk = record { at = chunk.at; length = unwrap_or chunk.size 0 }

-- the recognised chunks among chunks without faults
abbrev pub found_in : List Chunk → Result Chunks SoundFault
found_in chunks = found (first_of (codes "fmt ") chunks) (first_of (codes "data") chunks) where
  found : Option Chunk → Option Chunk → Result Chunks SoundFault
  found None sound = Err NoFormat
  found (Some format) None = Err NoData
  found (Some format) (Some sound) = Ok (record {
    format = span_of format;
    sound = span_of sound;
    bext = option_map span_of (first_of (codes "bext") chunks);
    others = has_others [] chunks;
  })

-- the first fault of these chunks, or the recognised chunks
abbrev pub checked_chunks : ℕ → List Chunk → Result Chunks SoundFault
checked_chunks end chunks = checked (first_chunk_fault end [] chunks) where
  checked : Option SoundFault → Result Chunks SoundFault
  checked None = found_in chunks
  checked (Some fault) = Err fault

-- the file starts with the header of RIFF WAVE
abbrev pub is_riff : List ℕ → Bool
is_riff file = nat_le 12 (length file) && (stands_at (codes "RIFF") 0 file && stands_at (codes "WAVE") 8 file)

-- the file starts with the header of RF64 WAVE
abbrev pub is_rf64 : List ℕ → Bool
is_rf64 file = nat_le 12 (length file) && (stands_at (codes "RF64") 0 file && stands_at (codes "WAVE") 8 file)

-- size of a chunk of RIFF
abbrev pub as_it_stands : List ℕ → ℕ → Option ℕ
as_it_stands id size = Some size

-- size of a chunk of RF64: 4294967295 means that the size is in `ds64`, in its `data` field or in its table
abbrev pub size_in : ℕ → List (List ℕ × ℕ) → List ℕ → ℕ → Option ℕ
size_in data_size table id size = if size == 4294967295
    then (if bytes_eq id (codes "data") then Some data_size
    else option_map (λ entry. entry.1) (find (λ entry. bytes_eq entry.0 id) table))
    else Some size

-- chunk sizes, and the offset of the first chunk after the header and, in RF64, after `ds64`
pub record Layout : Type 0 where
  pub size_of : List ℕ → ℕ → Option ℕ
  pub place : ℕ

-- layout of a RIFF file
abbrev pub riff_layout : Layout
riff_layout = record { size_of = as_it_stands; place = 12 }

-- layout of an RF64 file with these fields of `ds64`
abbrev pub rf64_layout : List ℕ → Ds64 → Layout
rf64_layout file ds64 = record {
  size_of = size_in ds64.data_size (table_of ds64.entries (drop 48 file));
  place = 20 + padded (Some (ds64_size file));
}

-- layout of RIFF WAVE, or of RF64 with its `ds64`
abbrev pub layout_of : List ℕ → Result Layout SoundFault
layout_of file =
    if is_riff file then Ok riff_layout
    else (if is_rf64 file then ok_or (option_map (rf64_layout file) (ds64_in file)) BadDs64 else Err NotWave)

-- all chunks of a file, without the `ds64` chunk of RF64
abbrev pub chunks_in : List ℕ → Layout → List Chunk
chunks_in file layout = chunks_from layout.size_of (length file) layout.place (drop layout.place file)

-- the recognised chunks of a file, or its first fault
abbrev pub walked : List ℕ → Result Chunks SoundFault
walked file = layout_of file >>= λ layout. checked_chunks (length file) (chunks_in file layout)
