-- Refusal numbers of the errors of a machine, and the files they name.
use Rattle.std.specs.Prelude.{◌≡◌, ℕ, ⊤, List, Some, slice_get}
use Rattle.sound_terms.specs.Sounds.{SoundFacts}
use Rattle.blockmachine.specs.declared.fault.MachineFault.{MachineFault}
use Rattle.blockmachine.specs.declared.fault.MachineFault.TheVariants.{Memory, Source}

-- the refusal number of an error
abbrev pub number_of : MachineFault → ℕ
number_of Memory = 57
number_of (Source file) = 22

-- the error of a device
abbrev pub IsSource : MachineFault → Type 0
IsSource Memory = ⊥
IsSource (Source file) = ⊤

-- the device failed on the file of the sound that the error names
abbrev pub FailsAt : List SoundFacts → MachineFault → (List ℕ → Type 0) → Type 0
FailsAt sounds Memory failed = ⊥
FailsAt sounds (Source file) failed = (facts : SoundFacts) × (slice_get sounds file ≡ Some facts) × failed facts.name
