-- The number and the place of each fault of a consolidation, and which of them tell that a device failed.
use Rattle.std.specs.Prelude.{◌≡◌, ℕ, ⊤, false, List, Some, slice_get}
use Rattle.sound_terms.specs.Sounds.{SoundFacts}
use Rattle.work_terms.specs.Refusals.{Refusal, Nowhere}
use Rattle.passes.specs.Fault as passes
use Rattle.passes.specs.declared.fault.PassFault.TheVariants as pass
use Rattle.mediaset.specs.Fault as mediaset
use Rattle.relink.specs.Fault as relink
use Rattle.consolidation.specs.declared.fault.ConsolidationFault.{ConsolidationFault}
use Rattle.consolidation.specs.declared.fault.ConsolidationFault.TheVariants.{Intervals, Pass, Runs, Relink}

abbrev pub number_of : ConsolidationFault → ℕ
number_of Intervals = 47
number_of (Pass fault) = passes.number_of fault
number_of (Runs fault) = mediaset.number_of fault
number_of (Relink fault) = relink.number_of fault

-- each comes before the first write
abbrev pub refusal_of : ConsolidationFault → Refusal
refusal_of fault = record { number = number_of fault; location = Nowhere; late = false }

-- this holds of the name of the file of this place
abbrev pub HoldsOfSound : List SoundFacts → ℕ → (List ℕ → Type 0) → Type 0
HoldsOfSound sounds file P = (facts : SoundFacts) × (slice_get sounds file ≡ Some facts) × P facts.name

-- the device of a source failed while it was asked for silence
abbrev pub IsSource : ConsolidationFault → Type 0
IsSource (Pass (pass.Device file)) = ⊤
IsSource _ = ⊥

-- it failed at the file of the sound that is told
abbrev pub FailsAt : List SoundFacts → ConsolidationFault → (List ℕ → Type 0) → Type 0
FailsAt sounds (Pass (pass.Device file)) failed = HoldsOfSound sounds file failed
FailsAt sounds _ failed = ⊥
