-- Errors of a report that are failures of a device.
use Rattle.std.specs.Prelude.{◌≡◌, ℕ, ⊤, List, Some, slice_get}
use Rattle.sound_terms.specs.Sounds.{SoundFacts}
use Rattle.digests.specs.declared.fault.ReportFault.{ReportFault}
use Rattle.digests.specs.declared.fault.ReportFault.TheVariants.{Device, Memory}

-- the error of a device
abbrev pub IsDevice : ReportFault → Type 0
IsDevice (Device file) = ⊤
IsDevice Memory = ⊥

-- the device failed on the file of the sound that the error names
abbrev pub FailsAt : List SoundFacts → ReportFault → (List ℕ → Type 0) → Type 0
FailsAt sounds (Device file) failed = (facts : SoundFacts) × (slice_get sounds file ≡ Some facts) × failed facts.name
FailsAt sounds Memory failed = ⊥
