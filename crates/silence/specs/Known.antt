-- Known silence of files.
use Rattle.std.specs.Prelude.{◌≡◌, ◌⊎◌, ℕ, ◌≤◌, true}
use Rattle.sound_terms.specs.Mix.{Reading}
use Rattle.silence.specs.declared.part.Part.{Part}
use Rattle.silence.specs.declared.known.Known.{Known}
use Rattle.silence.specs.Zero.{IsZero, IsZeroAt}

-- the known silence is correct: the part is zero, and if `sounds` is true the sample frame after it is not
pub record IsSo (reading : Reading) (known : Known) : Type 0 where
  pub zero : IsZero (reading known.file) known.part
  pub sounds : known.sounds ≡ true → IsZeroAt (reading known.file) known.part.first known.part.width known.part.to → ⊥

-- the known part starts at or before this part of the file and extends at least to its start
pub record Reaches (known : Known) (file : ℕ) (part : Part) : Type 0 where
  pub same_file : known.file ≡ file
  pub first : known.part.first ≡ part.first
  pub width : known.part.width ≡ part.width
  pub before : known.part.from ≤ part.from
  pub up_to : part.from ≤ known.part.to

-- the known silence decides whether this part of the file is silent
pub record Tells (known : Known) (file : ℕ) (part : Part) : Type 0 where
  pub reaches : Reaches known file part
  pub decided : (part.to ≤ known.part.to) ⊎ (known.sounds ≡ true)
