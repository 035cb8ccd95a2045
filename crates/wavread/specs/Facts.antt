-- Facts about an opened sound file.
use Rattle.std.specs.Prelude.{◌≡◌, ℕ, ◌+◌, ◌*◌, ◌/◌, ◌^◌, ◌<◌, ◌≤◌, Bool, List, length, Option, None, Some, Result, Err, option_map, ℤ, pos, get_or, drop}
use Rattle.sound_terms.specs.Waves.{sample_of}
use Rattle.sound_terms.specs.declared.Depth.{Depth}
use Rattle.sound_terms.specs.declared.Bext.{Bext}
use Rattle.sound_terms.specs.Sounds.{SoundFacts}
use Rattle.sound_terms.specs.SoundFiles.{sound_of}
use Rattle.sound_terms.specs.Media.{frame_length}
use Rattle.riff.specs.declared.fault.MediaFault.{MediaFault}
use Rattle.riff.specs.declared.fault.MediaFault.TheVariants.{NotFound}
use Rattle.riff.specs.Fault.{as_media}

-- facts of the file with this name, or the reason why it is refused
abbrev pub sound_of_file : List ℕ → Option (List ℕ) → Result SoundFacts MediaFault
sound_of_file name None = Err NotFound
sound_of_file name (Some file) = as_media (sound_of name file)

-- facts with these parts
abbrev pub facts_told : List ℕ → ℕ → Depth → ℕ → ℕ → Option Bext → List ℕ → Bool → Bool → Bool → SoundFacts
facts_told name channels depth frames offset bext history short_bext history_cut others = record {
  name = name;
  channels = channels;
  depth = depth;
  frames = frames;
  offset = offset;
  text = option_map (λ b. b.text) bext;
  time_reference = option_map (λ b. b.time_reference) bext;
  history = history;
  short_bext = short_bext;
  history_cut = history_cut;
  others = others;
}

-- limits of an opened sound file
pub record IsSound (facts : SoundFacts) : Type 0 where
  pub some_channels : 1 ≤ facts.channels
  pub few_channels : facts.channels ≤ 64
  pub history_fits : length facts.history ≤ 65536
  pub few_frames : facts.frames < 2 ^ 64
  pub ends : facts.offset + facts.frames * frame_length facts < 2 ^ 64

-- the samples are stored in the file one after the other from offset `place` on
abbrev pub AreFrames : List ℕ → ℕ → ℕ → List ℤ → Type 0
AreFrames file place depth samples =
    (k : ℕ) → k < length samples → get_or samples k (pos 0) ≡ sample_of depth (drop (place + k * (depth / 8)) file)
