-- A piece is reported silent exactly if the part of its file that it plays is zero.
use Rattle.std.proofs.Common.{◌≡◌, ℕ, ◌+◌, ◌-◌, Bool, true, false, List, None, Some, refl, sym, ap, ◌∙◌, IsTrue, arith}
use Rattle.std.specs.Prelude.{ℤ, ◌↔◌, slice_get}
use Rattle.sound_terms.specs.declared.piece.Piece.{Piece}
use Rattle.sound_terms.specs.Sounds.{SoundFacts, reading_by}
use Rattle.work_terms.specs.Disk.{Files}
use Rattle.passes.specs.Silent.{is_silent_in}
use Rattle.passes.specs.Laws.{silent_is}
use Rattle.devices.specs.declared.fault.ShelfFault.{ShelfFault}
use Rattle.devices.specs.declared.fault.ShelfFault.TheVariants as shelf
use Rattle.silence.specs.declared.part.Part.{Part}
use Rattle.silence.specs.Holding.{Held, Holds}
use Rattle.silence.specs.Zero.{IsZero, part_of, sound_by}

pub device_of : (fault : ShelfFault) → (fault ≡ shelf.NotFound → ⊥) → fault ≡ shelf.Device
device_of shelf.NotFound other = absurd (other refl)
device_of shelf.Device other = refl

same_answer : (a b : Bool) → IsTrue a ↔ IsTrue b → a ≡ b
same_answer true true both = refl
same_answer true false both = sym (both.0 refl)
same_answer false true both = both.1 refl
same_answer false false both = refl

-- samples of the file with this number
pub heard_there : (files : Files) (sounds : List SoundFacts) (file : ℕ) (facts : SoundFacts)
    → slice_get sounds file ≡ Some facts
    → (channel frame : ℕ) → reading_by files sounds file channel frame ≡ sound_by files facts channel frame
unfolding sound_by
heard_there files sounds file facts there channel frame = rw there refl

module _ (files : Files) (sounds : List SoundFacts) (p : Piece) where
  -- result for a piece by whether the part that it plays is zero; `inside` is its section inside the file
  pub silent_by : (facts : SoundFacts) (inside : Part) (answer : Bool) → slice_get sounds p.file ≡ Some facts
      → IsZero (sound_by files facts) inside ↔ IsZero (sound_by files facts) (part_of p)
      → IsTrue answer ↔ IsZero (reading_by files sounds p.file) inside
      → answer ≡ is_silent_in (reading_by files sounds) p
  silent_by facts inside answer there rest told =
      same_answer answer (is_silent_in (reading_by files sounds) p) (called, is) where
        called : IsTrue answer → IsTrue (is_silent_in (reading_by files sounds) p)
        called silent =
            let zero : IsZero (sound_by files facts) (part_of p) =
            rest.0 (λ frame low high j wide.
            sym (heard_there files sounds p.file facts there (inside.first + j) frame) ∙ told.0 silent frame low high j wide) in
            (silent_is (reading_by files sounds) p).1
            (λ j i wide below.
            heard_there files sounds p.file facts there (p.first + j) (p.frame + i)
            ∙ zero (p.frame + i) (omega arith) (omega arith) j wide)

        is : IsTrue (is_silent_in (reading_by files sounds) p) → IsTrue answer
        is silent =
            let zero : IsZero (sound_by files facts) (part_of p) =
            λ frame low high j wide.
            let there_frame : frame ≡ p.frame + (frame - p.frame) = omega arith in
            sym (heard_there files sounds p.file facts there (p.first + j) frame)
            ∙ rw there_frame ((silent_is (reading_by files sounds) p).0 silent j (frame - p.frame) wide (omega arith)) in
            told.1 (λ frame low high j wide.
            heard_there files sounds p.file facts there (inside.first + j) frame ∙ rest.1 zero frame low high j wide)

  -- a piece of a missing file is silent
  pub silent_nowhere : slice_get sounds p.file ≡ None → true ≡ is_silent_in (reading_by files sounds) p
  silent_nowhere none = sym ((silent_is (reading_by files sounds) p).1 (λ j i wide below. rw none refl))

-- a window that agrees with a sound agrees with equal sounds
pub held_as : (sound other : ℕ → ℕ → ℤ) (held : Held) → ((channel frame : ℕ) → sound channel frame ≡ other channel frame)
    → Holds sound held → Holds other held
held_as sound other held same holds i channel below first last =
    let told = holds i channel below first last in (
      λ silent. sym (same channel (held.from + i)) ∙ told.0 silent,
      λ silent. told.1 (same channel (held.from + i) ∙ silent),
    )

-- an empty window agrees with any sound
pub held_nothing : (sound : ℕ → ℕ → ℤ) (held : Held) → held.count ≡ 0 → Holds sound held
held_nothing sound held none i channel below first last = absurd (omega (arith, none, below))

module _ (files : Files) (sounds : List SoundFacts) (file : ℕ) (facts : SoundFacts)
    (there : slice_get sounds file ≡ Some facts) (held : Held) where
  -- a window agrees with the file by its sound
  pub held_there : Holds (reading_by files sounds held.file) held → held.file ≡ file → Holds (sound_by files facts) held
  held_there holds same =
      held_as (reading_by files sounds held.file) (sound_by files facts) held
      (λ channel frame. ap (λ n. reading_by files sounds n channel frame) same
      ∙ heard_there files sounds file facts there channel frame) holds

  -- a window agrees with the file by its number
  pub held_again : Holds (sound_by files facts) held → held.file ≡ file → Holds (reading_by files sounds held.file) held
  held_again holds same =
      held_as (sound_by files facts) (reading_by files sounds held.file) held
      (λ channel frame. sym (heard_there files sounds file facts there channel frame)
      ∙ ap (λ n. reading_by files sounds n channel frame) (sym same)) holds
