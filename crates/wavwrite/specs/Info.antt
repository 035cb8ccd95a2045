-- Properties of a file to write, their limits, and the facts read back from the file.
use Rattle.std.specs.Prelude.{◌≡◌, ℕ, ◌-◌, ◌^◌, ◌<◌, ◌≤◌, List, length, take, drop, Some, Ok, false}
use Rattle.sound_terms.specs.declared.Depth.{Depth}
use Rattle.sound_terms.specs.declared.Bext.{Bext}
use Rattle.sound_terms.specs.Waves.{SoundInfo, data_place, data_size, file_length, file_of}
use Rattle.sound_terms.specs.Sounds.{SoundFacts}
use Rattle.sound_terms.specs.SoundFiles.{sound_of}

-- properties with these values
abbrev pub info_of : ℕ → Depth → ℕ → Bext → List ℕ → SoundInfo
info_of channels depth frames bext history = record {
  channels = channels;
  depth = depth;
  frames = frames;
  text = bext.text;
  time_reference = bext.time_reference;
  history = history;
}

-- limits of the fields
pub record IsWithin (info : SoundInfo) : Type 0 where
  pub some_channels : 1 ≤ info.channels
  pub few_channels : info.channels ≤ 64
  pub text_whole : length info.text ≡ 338
  pub time_fits : info.time_reference < 2 ^ 64
  pub history_fits : length info.history ≤ 65536

-- the length of the file fits the size field of RIFF
abbrev pub FitsRiff : SoundInfo → Type 0
FitsRiff info = file_length info - 8 ≤ 4294967294

-- the length of the file fits 64 bits
abbrev pub Fits : SoundInfo → Type 0
Fits info = file_length info < 2 ^ 64

-- facts read from a written file with this name
abbrev pub facts_of : List ℕ → SoundInfo → SoundFacts
facts_of name info = record {
  name = name;
  channels = info.channels;
  depth = info.depth;
  frames = info.frames;
  offset = data_place info;
  text = Some info.text;
  time_reference = Some info.time_reference;
  history = info.history;
  short_bext = false;
  history_cut = false;
  others = false;
}

-- reading a written file gives its properties back
abbrev pub IsReadBack : SoundInfo → Type 0
IsReadBack info = (name samples : List ℕ) → Fits info → length samples ≡ data_size info
    → sound_of name (file_of info samples) ≡ Ok (facts_of name info)

-- the written file has its samples at their offset
abbrev pub HoldsSamples : SoundInfo → Type 0
HoldsSamples info = (samples : List ℕ) → length samples ≡ data_size info
    → take (data_size info) (drop (data_place info) (file_of info samples)) ≡ samples
