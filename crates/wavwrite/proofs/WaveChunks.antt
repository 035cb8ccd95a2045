-- A file of a first chunk, `bext`, `fmt ` and `data` with arbitrary contents: reading the chunk headers.
use Rattle.std.proofs.Common.{◌≡◌, ℕ, Some, zero, suc, ◌+◌, ◌%◌, ◌<◌, ◌≤◌, List, [], ◌∷◌, ◌++◌, Option, length, drop, refl, sym, ap, ◌∙◌, arith, codes, length-append}
use Rattle.std.proofs.lemmas.List.{append-nil, append_assoc, drop_at}
use Rattle.sound_terms.specs.Waves.{u32_bytes, chunk_head}
use Rattle.sound_terms.specs.Chunks.{Chunk, chunks_from}
use Rattle.sound_terms.specs.Laws.{length-chunk_head}
use Rattle.byteorder.specs.Numbers.{little_number-reads_back}

-- a chunk of a written file
abbrev pub whole_chunk : List ℕ → ℕ → ℕ → Chunk
whole_chunk id place size = record { id = id; at = place + 8; size = Some size }

-- one chunk is read; its size field has its size or refers to `ds64`
pub chunk_read : (size_of : List ℕ → ℕ → Option ℕ) (a b c d told size n place : ℕ) (contents rest : List ℕ)
    → told < 4294967296 → size_of (a ∷ b ∷ c ∷ d ∷ []) told ≡ Some size → length contents ≡ size + size % 2
    → chunks_from size_of (suc n) place (chunk_head (a ∷ b ∷ c ∷ d ∷ []) told ++ (contents ++ rest))
    ≡ whole_chunk (a ∷ b ∷ c ∷ d ∷ []) place size ∷ chunks_from size_of n (place + 8 + (size + size % 2)) rest
unfolding chunk_head u32_bytes
chunk_read size_of a b c d told size n place contents rest below means whole =
    let number = little_number-reads_back 4 told [] (omega arith) in
    let past = drop_at contents rest (size + size % 2) whole in
    rw (number, means, past) refl

-- `bext`, `fmt ` and `data` with these contents and their padding; `told` is the size field of `data`
unfoldable pub wave_chunks : ℕ → ℕ → List ℕ → List ℕ → List ℕ → List ℕ
wave_chunks bext_size told bext format sound =
    chunk_head (codes "bext") bext_size
    ++ (bext ++ (chunk_head (codes "fmt ") 16 ++ (format ++ (chunk_head (codes "data") told ++ sound))))

-- the sizes match these contents; the size field of `data` has its size or refers to `ds64`
pub record AreWhole (size_of : List ℕ → ℕ → Option ℕ) (bext_size told data_size : ℕ) (bext format sound : List ℕ)
    : Type 0 where
  pub bext_fits : bext_size < 4294967296
  pub told_fits : told < 4294967296
  pub bext_told : size_of (codes "bext") bext_size ≡ Some bext_size
  pub format_told : size_of (codes "fmt ") 16 ≡ Some 16
  pub data_told : size_of (codes "data") told ≡ Some data_size
  pub bext_whole : length bext ≡ bext_size + bext_size % 2
  pub format_whole : length format ≡ 16
  pub data_whole : length sound ≡ data_size + data_size % 2

-- headers of the three chunks
abbrev pub wave_heads : ℕ → ℕ → List Chunk
wave_heads bext_size data_size =
    whole_chunk (codes "bext") 48 bext_size ∷ whole_chunk (codes "fmt ") (56 + (bext_size + bext_size % 2)) 16
    ∷ whole_chunk (codes "data") (80 + (bext_size + bext_size % 2)) data_size ∷ []

-- no bytes left means no chunk
none_left : (size_of : List ℕ → ℕ → Option ℕ) (n place : ℕ) → chunks_from size_of n place [] ≡ []
none_left size_of zero place = refl
none_left size_of (suc n) place = refl

-- the last chunk is read
last_read : (size_of : List ℕ → ℕ → Option ℕ) (n place told size : ℕ) (contents : List ℕ) → told < 4294967296
    → size_of (codes "data") told ≡ Some size → length contents ≡ size + size % 2
    → chunks_from size_of (suc n) place (chunk_head (codes "data") told ++ contents)
    ≡ whole_chunk (codes "data") place size ∷ []
last_read size_of n place told size contents below means whole =
    ap (λ (rest : List ℕ). chunks_from size_of (suc n) place (chunk_head (codes "data") told ++ rest))
    (sym (append-nil contents))
    ∙ chunk_read size_of 100 97 116 97 told size n place contents [] below means whole
    ∙ ap (λ (chunks : List Chunk). whole_chunk (codes "data") place size ∷ chunks)
    (none_left size_of n (place + 8 + (size + size % 2)))

-- all three headers are read
pub wave_read : (size_of : List ℕ → ℕ → Option ℕ) (n bext_size told data_size : ℕ) (bext format sound : List ℕ)
    → AreWhole size_of bext_size told data_size bext format sound
    → chunks_from size_of (suc (suc (suc n))) 48 (wave_chunks bext_size told bext format sound)
    ≡ wave_heads bext_size data_size
unfolding wave_chunks
wave_read size_of n bext_size told data_size bext format sound whole =
    let place = 56 + (bext_size + bext_size % 2) in
    let last_place : place + 8 + 16 ≡ 80 + (bext_size + bext_size % 2) = omega arith in
    let bext_chunk = whole_chunk (codes "bext") 48 bext_size in
    let format_chunk = whole_chunk (codes "fmt ") place 16 in
    let sound_chunk = chunk_head (codes "data") told ++ sound in
    let from_format = chunk_head (codes "fmt ") 16 ++ (format ++ sound_chunk) in
    chunk_read size_of 98 101 120 116 bext_size bext_size (suc (suc n)) 48 bext from_format whole.bext_fits
    whole.bext_told whole.bext_whole
    ∙ ap (λ (chunks : List Chunk). bext_chunk ∷ chunks)
    (chunk_read size_of 102 109 116 32 16 16 (suc n) place format sound_chunk (omega arith) whole.format_told
    whole.format_whole
    ∙ ap (λ (chunks : List Chunk). format_chunk ∷ chunks)
    (ap (λ at. chunks_from size_of (suc n) at sound_chunk) last_place
    ∙ last_read size_of n (80 + (bext_size + bext_size % 2)) told data_size sound whole.told_fits whole.data_told
    whole.data_whole))

-- length of the chunks
pub length-wave_chunks : (bext_size told : ℕ) (bext format sound : List ℕ)
    → length (wave_chunks bext_size told bext format sound) ≡ 24 + (length bext + (length format + length sound))
unfolding wave_chunks
length-wave_chunks bext_size told bext format sound = simp (length-append, length-chunk_head) (omega arith)

-- the samples end within the file
pub samples_inside : (size_of : List ℕ → ℕ → Option ℕ) (bext_size told data_size : ℕ) (bext format sound : List ℕ)
    → AreWhole size_of bext_size told data_size bext format sound
    → (end : ℕ) → end ≡ 72 + (length bext + (length format + length sound))
    → 88 + (bext_size + bext_size % 2) + data_size ≤ end
samples_inside size_of bext_size told data_size bext format sound whole end long =
    omega (arith, long, whole.bext_whole, whole.format_whole, whole.data_whole)

-- contents of `bext`, followed by other bytes
pub behind_bext : (first : List ℕ) (bext_size told : ℕ) (bext format sound : List ℕ) → length first ≡ 48
    → (rest : List ℕ) × (drop 56 (first ++ wave_chunks bext_size told bext format sound) ≡ bext ++ rest)
unfolding wave_chunks
behind_bext first bext_size told bext format sound begins =
    let front = first ++ chunk_head (codes "bext") bext_size in
    let rest = chunk_head (codes "fmt ") 16 ++ (format ++ (chunk_head (codes "data") told ++ sound)) in
    let long : length front ≡ 56 = simp (length-append, length-chunk_head) (omega arith) in
    let grouped : first ++ wave_chunks bext_size told bext format sound ≡ front ++ (bext ++ rest) = simp append_assoc in
    (rest, ap (drop 56) grouped ∙ drop_at front (bext ++ rest) 56 long)

-- contents of `fmt `, followed by other bytes
pub behind_format : (first : List ℕ) (bext_size told : ℕ) (bext format sound : List ℕ) → length first ≡ 48
    → length bext ≡ bext_size + bext_size % 2
    → (rest : List ℕ) × (drop (64 + (bext_size + bext_size % 2)) (first ++ wave_chunks bext_size told bext format sound)
    ≡ format ++ rest)
unfolding wave_chunks
behind_format first bext_size told bext format sound begins whole =
    let front = first ++ (chunk_head (codes "bext") bext_size ++ (bext ++ chunk_head (codes "fmt ") 16)) in
    let rest = chunk_head (codes "data") told ++ sound in
    let long : length front ≡ 64 + (bext_size + bext_size % 2) =
    simp (length-append, length-chunk_head) (omega arith) in
    let grouped : first ++ wave_chunks bext_size told bext format sound ≡ front ++ (format ++ rest) =
    simp append_assoc in (
      rest,
      ap (drop (64 + (bext_size + bext_size % 2))) grouped
          ∙ drop_at front (format ++ rest) (64 + (bext_size + bext_size % 2)) long,
    )
