-- Zero samples of an opened file.
use Rattle.std.specs.Prelude.{◌≡◌, ℕ, ◌+◌, ◌*◌, ◌-◌, ◌<◌, ◌≤◌, List, [], ◌∷◌, Option, None, Some, ℤ, pos, get_or}
use Rattle.sound_terms.specs.Sounds.{SoundFacts, reading_by}
use Rattle.sound_terms.specs.declared.piece.Piece.{Piece}
use Rattle.work_terms.specs.Disk.{Files}
use Rattle.silence.specs.declared.part.Part.{Part}

-- samples of one opened file, by channel (from 1) and sample frame
unfoldable pub sound_by : Files → SoundFacts → ℕ → ℕ → ℤ
sound_by files facts = reading_by files (facts ∷ []) 0

-- these channels of a sound are zero in this sample frame
abbrev pub IsZeroAt : (ℕ → ℕ → ℤ) → (first width frame : ℕ) → Type 0
IsZeroAt sound first width frame = (j : ℕ) → j < width → sound (first + j) frame ≡ pos 0

-- this part of a sound is zero
abbrev pub IsZero : (ℕ → ℕ → ℤ) → Part → Type 0
IsZero sound part =
    (frame : ℕ) → part.from ≤ frame → frame < part.to → IsZeroAt sound part.first part.width frame

-- these channels are zero in one of the interleaved sample frames
abbrev pub IsFrameZero : List ℤ → (channels first width i : ℕ) → Type 0
IsFrameZero frames channels first width i =
    (j : ℕ) → j < width → get_or frames (i * channels + (first - 1 + j)) (pos 0) ≡ pos 0

-- first sample frame of a range that is not zero, or None if all are zero
abbrev pub IsFirstSounding : (ℕ → Type 0) → (from to : ℕ) → Option ℕ → Type 0
IsFirstSounding is_zero from to None = (i : ℕ) → from ≤ i → i < to → is_zero i
IsFirstSounding is_zero from to (Some at) =
    (from ≤ at) × (at < to) × ((i : ℕ) → from ≤ i → i < at → is_zero i) × (is_zero at → ⊥)

-- the part is inside the file
pub record LiesIn (facts : SoundFacts) (part : Part) : Type 0 where
  pub from_one : 1 ≤ part.first
  pub channels : part.first + part.width ≤ facts.channels + 1
  pub in_order : part.from ≤ part.to
  pub frames : part.to ≤ facts.frames

-- the part of its file that a piece plays
abbrev pub part_of : Piece → Part
part_of p = record { first = p.first; width = p.width; from = p.frame; to = p.frame + p.length }
