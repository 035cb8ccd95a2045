-- State of a walk over the chunks of a file.
use Rattle.std.specs.Prelude.{◌≡◌, ℕ, ◌+◌, ◌-◌, ◌≤◌, ◌*◌, List, [], ◌++◌, codes, take, drop, length, replicate, Option, None, Some, IfSome, Result, Ok, Err, option_map}
use Rattle.sound_terms.specs.declared.Ds64.{Ds64}
use Rattle.sound_terms.specs.declared.Span.{Span}
use Rattle.sound_terms.specs.declared.Chunks.{Chunks}
use Rattle.sound_terms.specs.declared.SoundFault.{SoundFault}
use Rattle.sound_terms.specs.Chunks.{Chunk, number_at, chunks_from, first_of, has_others}
use Rattle.sound_terms.specs.Walks.{span_of, Layout, riff_layout, rf64_layout, layout_of, chunks_in, first_chunk_fault, walked}
use Rattle.riff.specs.declared.found.Found.{Found}
use Rattle.riff.specs.declared.head.Head.{Head}

-- the file has this chunk header at offset `at`
pub record HasHead (file : List ℕ) (at : ℕ) (head : Head) : Type 0 where
  pub inside : at + 8 ≤ length file
  pub id : head.id ≡ take 4 (drop at file)
  pub size : head.size ≡ number_at 4 (at + 4) file

-- the file has `count` consecutive chunk headers of id 0 and size 0 at offset `at`
pub record HasZeroHeads (file : List ℕ) (at count : ℕ) : Type 0 where
  pub inside : at + 8 * count ≤ length file
  pub zeros : take (8 * count) (drop at file) ≡ replicate (8 * count) 0

-- the file has these bytes at offset `at`
pub record IsAhead (file : List ℕ) (at : ℕ) (bytes : List ℕ) : Type 0 where
  pub inside : at + length bytes ≤ length file
  pub same : bytes ≡ take (length bytes) (drop at file)

-- the chunks have no fault, and `found` has the recognised chunks among them
pub record IsFoundIn (end : ℕ) (chunks : List Chunk) (found : Found) : Type 0 where
  pub faultless : first_chunk_fault end [] chunks ≡ None
  pub format : found.format ≡ option_map span_of (first_of (codes "fmt ") chunks)
  pub bext : found.bext ≡ option_map span_of (first_of (codes "bext") chunks)
  pub sound : found.sound ≡ option_map span_of (first_of (codes "data") chunks)
  pub others : found.others ≡ has_others [] chunks

-- a chunk with this id and these contents
abbrev pub chunk_at : List ℕ → Span → Chunk
chunk_at id contents = record { id = id; at = contents.at; size = Some contents.length }

-- layout of RIFF, or of RF64 with its `ds64`
abbrev pub layout_by : List ℕ → Option Ds64 → Layout
layout_by file None = riff_layout
layout_by file (Some ds64) = rf64_layout file ds64

-- number of chunk headers before the first chunk: 1 in RF64, for `ds64`
abbrev pub heads_of : Option Ds64 → ℕ
heads_of None = 0
heads_of (Some ds64) = 1

-- the walk has seen all chunks before the last `left` bytes of the file, with this state
pub record IsWalked (file : List ℕ) (sizes : Option Ds64) (end left : ℕ) (found : Found) : Type 0 where
  pub whole : length file ≡ end
  pub laid : layout_of file ≡ Ok (layout_by file sizes)
  pub before : List Chunk
  pub fuel : ℕ
  pub place : ℕ
  pub all : chunks_in file (layout_by file sizes)
      ≡ before ++ chunks_from (layout_by file sizes).size_of fuel place (drop (end - left) file)
  pub enough : left ≤ fuel
  pub within : left ≤ end
  pub placed : 8 ≤ left → place ≡ end - left
  pub seen : IsFoundIn end before found
  pub counted : found.seen ≡ heads_of sizes + length before

-- the walk continues with the given number of bytes left, or the file is faulty
abbrev pub WalksOn : List ℕ → Option Ds64 → ℕ → Found → Result ℕ SoundFault → Type 0
WalksOn file sizes end found (Ok left) = IsWalked file sizes end left found
WalksOn file sizes end found (Err fault) = walked file ≡ Err fault

-- the range, if there is one, ends at or before this offset
abbrev pub EndsBy : ℕ → Option Span → Type 0
EndsBy end span = IfSome span (λ s. s.at + s.length ≤ end)

-- the chunks found end within the file
pub record EndsInside (end : ℕ) (found : Found) : Type 0 where
  pub format : EndsBy end found.format
  pub bext : EndsBy end found.bext
  pub sound : EndsBy end found.sound

-- the chunks found end within the file, and every header seen has eight bytes before the last `left` bytes
pub record IsInside (end left : ℕ) (found : Found) : Type 0 where
  pub ends : EndsInside end found
  pub few : 8 * found.seen + left + 12 ≤ end

-- the recognised chunks end at or before this offset
pub record EndInside (end : ℕ) (chunks : Chunks) : Type 0 where
  pub format : chunks.format.at + chunks.format.length ≤ end
  pub bext : EndsBy end chunks.bext
  pub sound : chunks.sound.at + chunks.sound.length ≤ end
