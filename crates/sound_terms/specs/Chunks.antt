-- Chunks of RIFF WAVE and RF64 (EBU Tech 3306), and the recognised chunks. Numbers are little endian.
use Rattle.std.specs.Prelude.{ℕ, zero, suc, ◌+◌, ◌%◌, ◌&&◌, ◌||◌, nat_eq, Bool, false, not, List, [], ◌∷◌, ◌++◌, take, drop, Option, None, Some, is_some, find, bytes_eq, codes}
use Rattle.std.specs.List.{list_any, starts_with}
use Rattle.byteorder.specs.Endian.{little_number}

-- the n-byte number at offset `place`
abbrev pub number_at : ℕ → ℕ → List ℕ → ℕ
number_at n place bytes = little_number n (drop place bytes)

-- the bytes contain `text` at offset `place`
abbrev pub stands_at : List ℕ → ℕ → List ℕ → Bool
stands_at text place bytes = starts_with nat_eq (drop place bytes) text

-- header of a chunk: its id, the offset of its contents, and their size if it is known
pub record Chunk : Type 0 where
  pub id : List ℕ
  pub at : ℕ
  pub size : Option ℕ

-- size of a chunk's contents padded to an even size
abbrev pub padded : Option ℕ → ℕ
padded None = 0
padded (Some size) = size + size % 2

-- bytes after the contents of a chunk and their padding
abbrev pub rest_behind : Option ℕ → List ℕ → List ℕ
rest_behind None rest = []
rest_behind (Some size) rest = drop (size + size % 2) rest

-- at most n chunks whose headers are found from the given bytes on; `place` is the offset of these bytes in the file
abbrev pub chunks_from : (List ℕ → ℕ → Option ℕ) → ℕ → ℕ → List ℕ → List Chunk
chunks_from size_of zero place bytes = []
chunks_from size_of (suc n) place (a ∷ b ∷ c ∷ d ∷ e ∷ f ∷ g ∷ h ∷ rest) =
    let id : List ℕ = a ∷ b ∷ c ∷ d ∷ [] in
    let size : Option ℕ = size_of id (little_number 4 (e ∷ f ∷ g ∷ h ∷ [])) in
    record { id = id; at = place + 8; size = size }
    ∷ chunks_from size_of n (place + 8 + padded size) (rest_behind size rest)
chunks_from size_of (suc n) place bytes = []

-- the first n table entries, each a chunk id and an 8-byte size
abbrev pub table_of : ℕ → List ℕ → List (List ℕ × ℕ)
table_of zero bytes = []
table_of (suc n) bytes = (take 4 bytes, number_at 8 4 bytes) ∷ table_of n (drop 12 bytes)

-- ids of the three recognised chunks; the first chunk with each id counts
abbrev pub counted_ids : List (List ℕ)
counted_ids = codes "fmt " ∷ codes "bext" ∷ codes "data" ∷ []

-- the first chunk with this id
abbrev pub first_of : List ℕ → List Chunk → Option Chunk
first_of id chunks = find (λ chunk. bytes_eq chunk.id id) chunks

-- the chunk is not the first one of a recognised id; `before` are the chunks before it
abbrev pub is_uncounted : List Chunk → Chunk → Bool
is_uncounted before chunk = not (list_any (bytes_eq chunk.id) counted_ids) || is_some (first_of chunk.id before)

-- there is a chunk that is neither recognised nor JUNK
abbrev pub has_others : List Chunk → List Chunk → Bool
has_others before [] = false
has_others before (chunk ∷ chunks) =
    (is_uncounted before chunk && not (bytes_eq chunk.id (codes "JUNK"))) || has_others (before ++ chunk ∷ []) chunks
