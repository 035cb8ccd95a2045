-- The file that a mix is rendered to, and the result of reading it back.
use Rattle.std.specs.Prelude.{◌≡◌, ℕ, zero, suc, ◌+◌, ◌-◌, ◌<◌, ◌≤◌, ℤ, List, [], ◌++◌, Ok, Some}
use Rattle.sound_terms.specs.declared.Depth.{Depth}
use Rattle.sound_terms.specs.Depth.{bits_of}
use Rattle.sound_terms.specs.Mix.{quantized}
use Rattle.sound_terms.specs.Waves.{SoundInfo, sample_bytes, sample_at, file_of, zeros}
use Rattle.sound_terms.specs.Sounds.{SoundFacts}
use Rattle.sound_terms.specs.SoundFiles.{sound_of}

-- part of the timeline to render: samples from `from` up to but not including `to`, the number of channels, and the
-- depth
pub record Range : Type 0 where
  pub from : ℕ
  pub to : ℕ
  pub channels : ℕ
  pub depth : Depth

-- bytes of n channels from `channel` on at one time
abbrev pub frame_of : ℕ → (ℕ → ℕ → ℤ) → ℕ → ℕ → ℕ → List ℕ
frame_of depth mix time channel zero = []
frame_of depth mix time channel (suc n) =
    sample_bytes depth (quantized depth (mix channel time)) ++ frame_of depth mix time (suc channel) n

-- bytes of n sample frames, interleaved
abbrev pub frames_of : ℕ → (ℕ → ℕ → ℤ) → ℕ → ℕ → ℕ → List ℕ
frames_of depth mix channels from zero = []
frames_of depth mix channels from (suc n) =
    frame_of depth mix from 1 channels ++ frames_of depth mix channels (suc from) n

-- header of the rendered file: its position on the timeline, and no texts
abbrev pub render_info : Range → SoundInfo
render_info range = record {
  channels = range.channels;
  depth = range.depth;
  frames = range.to - range.from;
  text = zeros 338;
  time_reference = range.from;
  history = [];
}

-- the complete rendered file
unfoldable pub rendering_of : Range → (ℕ → ℕ → ℤ) → List ℕ
rendering_of range mix =
    file_of (render_info range) (frames_of (bits_of range.depth) mix range.channels range.from (range.to - range.from))

-- the file reads back as the sums of the mix, rounded and clipped
pub record ReadsBack (range : Range) (mix : ℕ → ℕ → ℤ) (file : List ℕ) : Type 0 where
  pub facts : SoundFacts
  pub read : (name : List ℕ) → sound_of name file ≡ Ok (record facts { name = name })
  pub channels : facts.channels ≡ range.channels
  pub depth : facts.depth ≡ range.depth
  pub frames : facts.frames ≡ range.to - range.from
  pub start : facts.time_reference ≡ Some range.from
  pub samples : (frame channel : ℕ) → frame < range.to - range.from → 1 ≤ channel → channel ≤ range.channels
      → sample_at file facts.offset range.channels (bits_of range.depth) frame channel
      ≡ quantized (bits_of range.depth) (mix channel (range.from + frame))
