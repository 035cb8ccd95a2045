-- Refusal numbers of the errors of a comparison, and the project that each is about.
use Rattle.std.specs.Prelude.{◌≡◌, ℕ, ⊤, List, Some, slice_get}
use Rattle.sound_terms.specs.Sounds.{SoundFacts}
use Rattle.comparison.specs.declared.fault.SideFault.{SideFault}
use Rattle.comparison.specs.declared.fault.SideFault.TheVariants.{Intervals, Memory, Source}
use Rattle.comparison.specs.declared.fault.CompareFault.{CompareFault}
use Rattle.comparison.specs.declared.fault.CompareFault.TheVariants.{EmptyRange, First, Second}

-- the refusal number of an error
abbrev pub number_of : SideFault → ℕ
number_of Intervals = 47
number_of Memory = 57
number_of (Source file) = 22

-- out of memory
abbrev pub IsMemory : SideFault → Type 0
IsMemory Intervals = ⊤
IsMemory Memory = ⊤
IsMemory (Source file) = ⊥

-- out of memory for the plan or its sums (refusal 57)
abbrev pub WantsMemory : SideFault → Type 0
WantsMemory fault = fault ≡ Memory

-- the error of a device
abbrev pub IsSource : SideFault → Type 0
IsSource Intervals = ⊥
IsSource Memory = ⊥
IsSource (Source file) = ⊤

-- any error of one project
abbrev pub IsAny : SideFault → Type 0
IsAny fault = ⊤

-- the device failed on the open file that the error names
abbrev pub FailsAt : List SoundFacts → SideFault → (List ℕ → Type 0) → Type 0
FailsAt sounds Intervals failed = ⊥
FailsAt sounds Memory failed = ⊥
FailsAt sounds (Source file) failed = (facts : SoundFacts) × (slice_get sounds file ≡ Some facts) × failed facts.name

-- an error of the first project with this property
abbrev pub OfFirst : (SideFault → Type 0) → CompareFault → Type 0
OfFirst P (First fault) = P fault
OfFirst P (Second fault) = ⊥
OfFirst P EmptyRange = ⊥

-- an error of the second project with this property
abbrev pub OfSecond : (SideFault → Type 0) → CompareFault → Type 0
OfSecond P (First fault) = ⊥
OfSecond P (Second fault) = P fault
OfSecond P EmptyRange = ⊥

-- an error of either project with this property
abbrev pub OfEither : (SideFault → Type 0) → CompareFault → Type 0
OfEither P (First fault) = P fault
OfEither P (Second fault) = P fault
OfEither P EmptyRange = ⊥
