-- Opened files that are there.
use Rattle.std.specs.Prelude.{◌≡◌, List, All, Some, ℕ}
use Rattle.sound_terms.specs.Sounds.{SoundFacts}
use Rattle.work_terms.specs.Disk.{Files}
use Rattle.mediacopy.specs.Copied.{HasFrames}

-- the file is there, with all of its frames
pub record IsThere (files : Files) (facts : SoundFacts) : Type 0 where
  pub file : List ℕ
  pub there : files facts.name ≡ Some file
  pub frames : HasFrames facts file

abbrev pub AreThere : Files → List SoundFacts → Type 0
AreThere files sounds = All (IsThere files) sounds
