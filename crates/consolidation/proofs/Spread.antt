-- Frames of a source, and files in three parts: a head, frames, and what stands behind them.
use Rattle.std.proofs.Common.{◌≡◌, ℕ, zero, suc, ◌+◌, ◌*◌, ◌/◌, ◌<◌, ◌≤◌, List, ◌++◌, length, take, drop, arith, get_or, length-append, length-drop, length-take}
use Rattle.std.proofs.lemmas.Grind.{elements}
use Rattle.sound_terms.specs.Media.{frame_length, frames_in}
use Rattle.sound_terms.specs.Sounds.{SoundFacts}

-- these bytes stand at this place of a file
pub record StandsIn (place : ℕ) (bytes file : List ℕ) : Type 0 where
  pub inside : place + length bytes ≤ length file
  pub same : (i : ℕ) → i < length bytes → get_or bytes i 0 ≡ get_or file (place + i) 0

module _ (facts : SoundFacts) (source : List ℕ) where
  abbrev width : ℕ
  width = frame_length facts

  -- a part of frames that are all there is all there
  pub length-part : (first size d n : ℕ) → length (frames_in facts source first size) ≡ size * width
      → d * width + n * width ≤ size * width → length (frames_in facts source (first + d) n) ≡ n * width
  length-part first size d n whole few = omega (arith, whole, few, length-take {A = ℕ}, length-drop {A = ℕ})

  -- a part of them stands so far behind a head as it does in them
  pub part_stands : (head tail : List ℕ) (place first size d n : ℕ)
      → length (frames_in facts source first size) ≡ size * width → d * width + n * width ≤ size * width
      → length head ≡ place
      → StandsIn (place + d * width) (frames_in facts source (first + d) n)
      (head ++ (frames_in facts source first size ++ tail))
  part_stands head tail place first size d n whole few is =
      let frames = frames_in facts source first size in
      let long = length-part first size d n whole few in
      record {
        inside = omega (arith, few, long, whole, is, length-append head (frames ++ tail), length-append frames tail);
        same = λ i below. grind (arith, elements, whole, few, is, long, below);
      }

-- where the last part of frames is all there they are
pub length-by_last : (width at first d n : ℕ) (source : List ℕ) → 0 < n
    → length (take (n * width) (drop (at + (first + d) * width) source)) ≡ n * width
    → length (take ((d + n) * width) (drop (at + first * width) source)) ≡ (d + n) * width
length-by_last zero at first d n source some whole = omega (arith, length-take {A = ℕ})
length-by_last (suc w) at first d n source some whole = omega (arith, length-take {A = ℕ}, length-drop {A = ℕ})

-- the frame in which a byte of so many frames stands
pub frame_of : (width frames j : ℕ) → j < frames * width
    → (frame : ℕ) × (frame < frames) × (frame * width ≤ j) × (j < (frame + 1) * width)
frame_of width frames j below = (j / width, grind (arith, below), grind (arith, below), grind (arith, below))
