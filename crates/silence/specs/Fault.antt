-- The file at which a pass over opened files failed.
use Rattle.std.specs.Prelude.{◌≡◌, ℕ, List, Some, slice_get}
use Rattle.sound_terms.specs.Sounds.{SoundFacts}
use Rattle.passes.specs.declared.fault.PassFault.{PassFault}
use Rattle.passes.specs.declared.fault.PassFault.TheVariants.{Memory, Device}

-- the device failed at the file named in the fault
abbrev pub FailsAt : List SoundFacts → PassFault → (List ℕ → Type 0) → Type 0
FailsAt sounds Memory failed = ⊥
FailsAt sounds (Device file) failed = (facts : SoundFacts) × (slice_get sounds file ≡ Some facts) × failed facts.name
