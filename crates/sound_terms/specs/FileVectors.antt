-- Worked examples of reading files, computed from the definitions.
use Rattle.std.specs.Prelude.{◌≡◌, refl, ℕ, List, [], ◌∷◌, ◌++◌, take, length, map, replicate, Result, Ok, Err, Some, false, codes}
use Rattle.sound_terms.specs.declared.Depth.TheVariants.{Sixteen}
use Rattle.sound_terms.specs.declared.SoundFault.{SoundFault}
use Rattle.sound_terms.specs.declared.SoundFault.TheVariants.{NotWave, NoFormat, NoData, Truncated, BadFormat, BadDs64, WrongRate}
use Rattle.sound_terms.specs.Waves.{file_of, header_of, u16_bytes, u32_bytes, u64_bytes, zeros, chunk_head}
use Rattle.sound_terms.specs.Render.{rendering_of}
use Rattle.sound_terms.specs.Sounds.{SoundFacts}
use Rattle.sound_terms.specs.SoundFiles.{sound_of}
use Rattle.sound_terms.specs.Vectors.{rendered}

-- facts read from the rendered file
pub rendered_says : sound_of (codes "render.wav") rendered ≡ Ok (record {
  name = codes "render.wav";
  channels = 1;
  depth = Sixteen;
  frames = 4;
  offset = 690;
  text = Some (replicate 338 0);
  time_reference = Some 172800000;
  history = [];
  short_bext = false;
  history_cut = false;
  others = false;
})
unfolding rendering_of file_of header_of u16_bytes u32_bytes u64_bytes zeros chunk_head
rendered_says = refl

-- sixteen bytes of a `fmt ` chunk: format tag, channels, sample rate, bytes per sample frame, bits per sample
abbrev format : ℕ → ℕ → ℕ → ℕ → ℕ → List ℕ
format tag channels rate frame bits =
    u16_bytes tag ++ (u16_bytes channels ++ (u32_bytes rate ++ (zeros 4 ++ (u16_bytes frame ++ u16_bytes bits))))

abbrev mono_format : List ℕ
mono_format = format 1 1 48000 2 16

-- an extensible `fmt ` chunk, whose sub-format is PCM if `last` is 113
abbrev extensible : ℕ → List ℕ
extensible last = format 65534 2 48000 6 24 ++ (u16_bytes 22 ++ (zeros 6
    ++ (1 ∷ 0 ∷ 0 ∷ 0 ∷ 0 ∷ 0 ∷ 16 ∷ 0 ∷ 128 ∷ 0 ∷ 0 ∷ 170 ∷ 0 ∷ 56 ∷ 155 ∷ last ∷ [])))

-- a chunk whose header gives this size
abbrev sized : List ℕ → ℕ → List ℕ → List ℕ
sized id size contents = id ++ (u32_bytes size ++ contents)

abbrev chunk : List ℕ → List ℕ → List ℕ
chunk id contents = sized id (length contents) contents

abbrev riff : List ℕ → List ℕ
riff chunks = codes "RIFF" ++ (zeros 4 ++ (codes "WAVE" ++ chunks))

-- number of sample frames of a file, or its fault
abbrev frames_or_fault : List ℕ → Result ℕ SoundFault
frames_or_fault file = frames_in (sound_of [] file) where
  frames_in : Result SoundFacts SoundFault → Result ℕ SoundFault
  frames_in (Ok facts) = Ok facts.frames
  frames_in (Err fault) = Err fault

pub files_read : map frames_or_fault
    (riff (chunk (codes "fmt ") mono_format ++ chunk (codes "data") (replicate 9 7))
    ∷ riff (chunk (codes "fmt ") mono_format ++ sized (codes "data") 9 (replicate 8 7))
    ∷ riff (chunk (codes "data") (replicate 8 7))
    ∷ riff (chunk (codes "fmt ") mono_format)
    ∷ riff (chunk (codes "fmt ") (take 14 mono_format) ++ chunk (codes "data") [])
    ∷ riff (chunk (codes "JUNK") (1 ∷ []) ++ (0 ∷ chunk (codes "fmt ") mono_format)
    ++ chunk (codes "data") (replicate 4 7))
    ∷ take 11 (riff []) ∷ [])
    ≡ Ok 4 ∷ Err Truncated ∷ Err NoFormat ∷ Err NoData ∷ Err BadFormat ∷ Ok 2 ∷ Err NotWave ∷ []
unfolding u16_bytes u32_bytes zeros
files_read = refl

-- twelve bytes of `data` after various `fmt ` chunks: two 24-bit channels with the PCM sub-format, another sub-format,
-- a truncated sub-format, and wrong rate, tag, number of channels, depth and sample frame size
pub formats_read : map (λ contents. frames_or_fault (riff
    (chunk (codes "fmt ") contents ++ chunk (codes "data") (replicate 12 7))))
    (extensible 113 ∷ extensible 112 ∷ take 38 (extensible 113) ∷ format 1 1 44100 2 16 ∷ format 3 1 48000 2 16
    ∷ format 1 65 48000 130 16 ∷ format 1 1 48000 1 8 ∷ format 1 1 48000 4 16 ∷ format 1 1 48000 4 32 ∷ [])
    ≡ Ok 2 ∷ Err BadFormat ∷ Err BadFormat ∷ Err WrongRate ∷ Err BadFormat
    ∷ Err BadFormat ∷ Err BadFormat ∷ Err BadFormat ∷ Ok 3 ∷ []
unfolding u16_bytes u32_bytes zeros
formats_read = refl

-- RF64 with a `ds64` chunk of the given header size, and a `data` chunk whose size is in `ds64`
abbrev rf64_sized : ℕ → List ℕ → List ℕ
rf64_sized size ds64 = codes "RF64" ++ (u32_bytes 4294967295 ++ (codes "WAVE" ++ sized (codes "ds64") size ds64))
    ++ chunk (codes "fmt ") mono_format ++ sized (codes "data") 4294967295 (replicate 8 7)

abbrev rf64 : List ℕ → List ℕ
rf64 ds64 = rf64_sized (length ds64) ds64

-- sizes of zero except a `data` size of 8, and the given number of table entries
abbrev sizes : ℕ → List ℕ
sizes entries = zeros 8 ++ (u64_bytes 8 ++ (zeros 8 ++ u32_bytes entries))

-- various `ds64` chunks; in the last one the header gives a size that is far too large
pub rf64_read : map frames_or_fault
    (rf64 (sizes 0) ∷ rf64 (sizes 1 ++ zeros 12) ∷ rf64 (take 26 (sizes 0)) ∷ rf64 (sizes 1 ++ zeros 10)
    ∷ rf64 (sizes 2 ++ zeros 12) ∷ rf64_sized 4294967295 (sizes 0) ∷ [])
    ≡ Ok 4 ∷ Ok 4 ∷ Err BadDs64 ∷ Err BadDs64 ∷ Err BadDs64 ∷ Err BadDs64 ∷ []
unfolding u16_bytes u32_bytes u64_bytes zeros
rf64_read = refl

-- RF64 whose `ds64` table has one entry, for the given chunk id
abbrev table_of_one : List ℕ → List ℕ
table_of_one id = codes "RF64" ++ (u32_bytes 4294967295 ++ (codes "WAVE"
    ++ chunk (codes "ds64") (sizes 1 ++ (id ++ u64_bytes 16))))
    ++ sized (codes "fmt ") 4294967295 mono_format ++ sized (codes "data") 4294967295 (replicate 8 7)

pub table_read : map frames_or_fault (table_of_one (codes "fmt ") ∷ table_of_one (codes "bext") ∷ [])
    ≡ Ok 4 ∷ Err BadDs64 ∷ []
unfolding u16_bytes u32_bytes u64_bytes zeros
table_read = refl
