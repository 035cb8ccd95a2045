-- Worked examples of headers at the limit between RIFF and RF64, computed from the definitions.
use Rattle.std.specs.Prelude.{◌≡◌, refl, ℕ, [], ◌∷◌, ◌++◌, take, drop, replicate, codes}
use Rattle.sound_terms.specs.declared.Depth.TheVariants.{Sixteen}
use Rattle.sound_terms.specs.Waves.{SoundInfo, header_of, u16_bytes, u32_bytes, u64_bytes, zeros, chunk_head}

-- one channel at 16 bits without texts, with the given number of sample frames
abbrev mono : ℕ → SoundInfo
mono frames = record {
  channels = 1;
  depth = Sixteen;
  frames = frames;
  text = replicate 338 0;
  time_reference = 0;
  history = [];
}

-- one sample frame too many for RIFF: the first 52 bytes of the header, and the header of `data`
pub shortest_rf64 : take 52 (header_of (mono 2147483307)) ++ drop 682 (header_of (mono 2147483307)) ≡
    codes "RF64" ++ (255 ∷ 255 ∷ 255 ∷ 255 ∷ []) ++ codes "WAVEds64" ++ (28 ∷ 0 ∷ 0 ∷ 0 ∷ [])
    ++ (0 ∷ 0 ∷ 0 ∷ 0 ∷ 1 ∷ 0 ∷ 0 ∷ 0 ∷ []) ++ (86 ∷ 253 ∷ 255 ∷ 255 ∷ 0 ∷ 0 ∷ 0 ∷ 0 ∷ [])
    ++ (171 ∷ 254 ∷ 255 ∷ 127 ∷ 0 ∷ 0 ∷ 0 ∷ 0 ∷ []) ++ (0 ∷ 0 ∷ 0 ∷ 0 ∷ []) ++ codes "bext"
    ++ codes "data" ++ (255 ∷ 255 ∷ 255 ∷ 255 ∷ [])
unfolding header_of u16_bytes u32_bytes u64_bytes zeros chunk_head
shortest_rf64 = refl

-- one sample frame less
pub longest_riff : take 52 (header_of (mono 2147483306)) ++ drop 682 (header_of (mono 2147483306)) ≡
    codes "RIFF" ++ (254 ∷ 255 ∷ 255 ∷ 255 ∷ []) ++ codes "WAVEJUNK" ++ (28 ∷ 0 ∷ 0 ∷ 0 ∷ []) ++ replicate 28 0
    ++ codes "bext" ++ codes "data" ++ (84 ∷ 253 ∷ 255 ∷ 255 ∷ [])
unfolding header_of u16_bytes u32_bytes u64_bytes zeros chunk_head
longest_riff = refl
