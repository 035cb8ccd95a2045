-- Errors that a file is refused with.
use Rattle.std.proofs.Common.{◌≡◌, ℕ, Bool, true, false, List, Option, None, Err, MatchBool, refl, sym, ap, ◌∙◌}
use Rattle.facts.specs.Tests.{unless}
use Rattle.sound_terms.specs.declared.Ds64.{Ds64}
use Rattle.sound_terms.specs.declared.SoundFault.{SoundFault}
use Rattle.sound_terms.specs.declared.SoundFault.TheVariants as sound
use Rattle.sound_terms.specs.Walks.{walked}
use Rattle.work_terms.specs.Refusals.{is_excused}
use Rattle.devices.specs.declared.fault.ShelfFault.{ShelfFault}
use Rattle.devices.specs.declared.fault.ShelfFault.TheVariants.{NotFound, Device}
use Rattle.riff.specs.declared.fault.MediaFault.{MediaFault}
use Rattle.riff.specs.declared.head.Head.{Head}
use Rattle.riff.specs.Fault.{number_of, fault_of, media_fault, as_media}
use Rattle.riff.specs.Form.{IsRefused}
use Rattle.riff.specs.Sizes.{TellsSize, head_size}

-- a consequence of an error also holds if the error may be excused
follows : (b : Bool) (P Q : Type 0) → MatchBool b (Unit {0}) P → (P → Q) → MatchBool b (Unit {0}) Q
follows true P Q told then = tt
follows false P Q told then = then told

-- a failed read
pub refused_read : (file : List ℕ) (fault : ShelfFault) → (fault ≡ NotFound → ⊥) → IsRefused file (fault_of fault)
refused_read file NotFound never = absurd (never refl)
refused_read file Device never = tt

-- a file with a fault in its bytes
pub refused_sound : (file : List ℕ) (fault : SoundFault) → walked file ≡ Err fault → IsRefused file (media_fault fault)
refused_sound file fault read = unless (is_excused (number_of (media_fault fault))) _ (ap as_media read)

-- a missing size
pub refused_size : (file : List ℕ) (sizes : Option Ds64) (head : Head) (fault : MediaFault)
    → TellsSize file sizes head (Err fault)
    → (head_size file sizes head ≡ None → walked file ≡ Err sound.BadDs64) → IsRefused file fault
refused_size file sizes head fault told read =
    follows (is_excused (number_of fault)) _ _ told (λ known. ap as_media (read known.1) ∙ ap Err (sym known.0))
