-- Contents of a buffer between two reads.
use Rattle.std.specs.Prelude.{◌≡◌, ℕ, ◌+◌, ◌*◌, ⊤, Bool, List, IsTrue, Option, None, Some, slice_get, take}
use Rattle.work_terms.specs.Disk.{Files, IsRange}
use Rattle.sound_terms.specs.declared.block.Stretch.{Stretch}
use Rattle.sound_terms.specs.Media.{frame_length}
use Rattle.sound_terms.specs.Sounds.{SoundFacts}
use Rattle.blockmachine.specs.declared.buffer.Held.{Held}

-- the range of sample frames of a stretch
abbrev pub held_of : Stretch → Held
held_of stretch = record { file = stretch.file; frame = stretch.frame; length = stretch.length }

-- the bytes begin with these sample frames, as stored in their file
abbrev pub AreHeld : Files → List SoundFacts → Held → List ℕ → Type 0
AreHeld files sounds held bytes = (facts : SoundFacts) → slice_get sounds held.file ≡ Some facts
    → IsRange (files facts.name) (facts.offset + held.frame * frame_length facts)
    (take (held.length * frame_length facts) bytes)

-- the buffer's content is correct, if it has any and the bytes read are the stored ones
abbrev pub Holds : (honest : Bool) → Files → List SoundFacts → Option Held → List ℕ → Type 0
Holds honest files sounds None bytes = ⊤
Holds honest files sounds (Some held) bytes = IsTrue honest → AreHeld files sounds held bytes
