-- Windows of sample frames read from a file.
use Rattle.std.specs.Prelude.{◌≡◌, ◌↔◌, ℕ, ◌+◌, ◌-◌, ◌*◌, ◌<◌, ◌≤◌, List, ℤ, pos, get_or}
use Rattle.sound_terms.specs.Mix.{Reading}
use Rattle.silence.specs.declared.part.Part.{Part}
use Rattle.silence.specs.declared.known.Known.{Known}
use Rattle.silence.specs.Known.{IsSo}

-- a window: `count` sample frames of a file from `from` on, interleaved at the start of `samples`
pub record Held : Type 0 where
  pub file : ℕ
  pub channels : ℕ
  pub from : ℕ
  pub count : ℕ
  pub samples : List ℤ

-- the window has this sample frame of this file, with the given number of channels
pub record HasFrame (held : Held) (file channels frame : ℕ) : Type 0 where
  pub same_file : held.file ≡ file
  pub same_channels : held.channels ≡ channels
  pub from : held.from ≤ frame
  pub below : frame < held.from + held.count

-- the window has this whole part
pub record HasPart (held : Held) (part : Part) : Type 0 where
  pub from_one : 1 ≤ part.first
  pub channels : part.first + part.width ≤ held.channels + 1
  pub from : held.from ≤ part.from
  pub in_order : part.from ≤ part.to
  pub to : part.to ≤ held.from + held.count

-- each of the interleaved samples is zero exactly if the sample of the sound is, from sample frame `from` on
abbrev pub AreOf : (ℕ → ℕ → ℤ) → (channels from count : ℕ) → List ℤ → Type 0
AreOf sound channels from count samples = (i channel : ℕ) → i < count → 1 ≤ channel → channel ≤ channels
    → get_or samples (i * channels + (channel - 1)) (pos 0) ≡ pos 0 ↔ sound channel (from + i) ≡ pos 0

-- the window agrees with the sound
abbrev pub Holds : (ℕ → ℕ → ℤ) → Held → Type 0
Holds sound held = AreOf sound held.channels held.from held.count held.samples

-- state of a search: known silence and window
pub record Searched : Type 0 where
  pub known : Known
  pub held : Held

-- both agree with these contents of the files
pub record IsSearched (reading : Reading) (search : Searched) : Type 0 where
  pub known : IsSo reading search.known
  pub held : Holds (reading search.held.file) search.held
