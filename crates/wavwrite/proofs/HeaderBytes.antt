-- Headers as the concatenation of their parts.
use Rattle.std.proofs.Common.{◌≡◌, ℕ, zero, suc, ◌+◌, ◌-◌, ◌%◌, ◌≤◌, List, [], ◌∷◌, ◌++◌, length, take, replicate, codes, refl, ap, ◌∙◌, arith, true, false}
use Rattle.std.proofs.lemmas.List.{append_assoc}
use Rattle.sound_terms.specs.declared.Bext.{Bext}
use Rattle.sound_terms.specs.Bext.{bext_bytes}
use Rattle.sound_terms.specs.Ds64.{ds64_bytes}
use Rattle.sound_terms.specs.Waves.{SoundInfo, u32_bytes, zeros, chunk_head, data_size, file_length, is_large, form_head, bext_chunk, format_chunk, data_head, header_of}

-- the header of RIFF and of RF64
pub form_riff : (info : SoundInfo) (size : ℕ) → size ≡ file_length info - 8 → is_large info ≡ false
    → chunk_head (codes "RIFF") size ++ (codes "WAVE" ++ (chunk_head (codes "JUNK") 28 ++ replicate 28 0))
    ≡ form_head info
unfolding zeros
form_riff info size told small = rw (small, told) refl

pub form_rf64 : (info : SoundInfo) (size : ℕ) → size ≡ file_length info - 8 → is_large info ≡ true
    → chunk_head (codes "RF64") 4294967295
    ++ (codes "WAVE" ++ (chunk_head (codes "ds64") 28 ++ ds64_bytes size (data_size info) info.frames))
    ≡ form_head info
unfolding zeros u32_bytes ds64_bytes
form_rf64 info size told large = rw (large, told) refl

-- a pad of one byte or none
pub padding : (history : ℕ) → take (history % 2) (0 ∷ []) ≡ zeros ((602 + history) % 2)
unfolding zeros
padding history = of_rest (history % 2) (omega arith) ∙ ap zeros (omega arith) where
  of_rest : (n : ℕ) → n ≤ 1 → take n (0 ∷ []) ≡ zeros n
  of_rest zero few = refl
  of_rest (suc zero) few = refl
  of_rest (suc (suc n)) few = absurd (omega arith)

pub bext_put : (info : SoundInfo) (bext : Bext) (history start one two three four : List ℕ)
    → bext.text ≡ info.text → bext.time_reference ≡ info.time_reference → history ≡ info.history
    → one ≡ start ++ chunk_head (codes "bext") (602 + length history) → two ≡ one ++ bext_bytes bext
    → three ≡ two ++ history → four ≡ three ++ take (length history % 2) (0 ∷ []) → four ≡ start ++ bext_chunk info
unfolding bext_bytes
bext_put info bext history start one two three four text time same first second third fourth =
    let pad = padding (length history) in
    fourth ∙ rw (pad, third, second, first, text, time, same) (simp append_assoc)

pub header_put : (info : SoundInfo) (one two three four : List ℕ) → one ≡ form_head info → two ≡ one ++ bext_chunk info
    → three ≡ two ++ format_chunk info → four ≡ three ++ data_head info → four ≡ header_of info
unfolding header_of
header_put info one two three four first second third fourth =
    fourth ∙ rw (third, second, first) (simp append_assoc)
