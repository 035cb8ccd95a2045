-- Refusals of comparing two lists, with their locations and the list that each is about.
use Rattle.std.specs.Prelude.{◌≡◌, ℕ, ⊤, false, IsSome, List, Some, slice_get, string_bytes}
use Rattle.sound_terms.specs.Sounds.{SoundFacts}
use Rattle.work_terms.specs.Disk.{Files}
use Rattle.work_terms.specs.Refusals.{Refusal, Where, Nowhere, File}
use Rattle.opening.specs.Commands as opening
use Rattle.opening.specs.Faults as opening_faults
use Rattle.opening.specs.Own as opening_own
use Rattle.opening.specs.Own.{IsOfOpening}
use Rattle.comparison.specs.declared.fault.SideFault.{SideFault}
use Rattle.comparison.specs.declared.fault.SideFault.TheVariants as side
use Rattle.comparison.specs.declared.fault.CompareFault as of_sums
use Rattle.comparison.specs.declared.fault.CompareFault.TheVariants as sums
use Rattle.comparing.specs.declared.compare_fault.ListFault.{ListFault}
use Rattle.comparing.specs.declared.compare_fault.ListFault.TheVariants.{Project, Intervals, Memory, Source}
use Rattle.comparing.specs.declared.compare_fault.CompareFault.{CompareFault}
use Rattle.comparing.specs.declared.compare_fault.CompareFault.TheVariants.{EmptyRange, First, Second}

-- a refusal that is returned before anything is written
abbrev early : ℕ → Where → Refusal
early number place = record { number = number; location = place; late = false }

-- the refusal that reports an error of a list
abbrev pub refusal_of : ListFault → Refusal
refusal_of (Project fault) = opening_faults.refusal_of fault
refusal_of Intervals = early 47 Nowhere
refusal_of Memory = early 57 Nowhere
refusal_of (Source name) = early 22 (File (string_bytes name))

-- the device of a source failed (refusal 22)
abbrev pub IsDevice : ListFault → Type 0
IsDevice fault = (refusal_of fault).number ≡ 22

-- a property holds of the name of the source whose device failed
abbrev pub HoldsOfDevice : ListFault → (List ℕ → Type 0) → Type 0
HoldsOfDevice fault P = opening.HoldsOfFile P (refusal_of fault).location

-- an error of a list's sums, which can occur only after both lists are open
abbrev pub IsOfSums : ListFault → Type 0
IsOfSums (Project fault) = ⊥
IsOfSums Intervals = ⊤
IsOfSums Memory = ⊤
IsOfSums (Source name) = ⊤

-- an error of the list of this text, of its files or entries, or of its sums
abbrev pub IsOwn : List ℕ → ListFault → Type 0
IsOwn text (Project fault) = IsOfOpening text fault
IsOwn text fault = ⊤

-- if the error names the file of an index, no earlier index is faulty
abbrev pub IsFirst : List ℕ → Files → ListFault → Type 0
IsFirst text files (Project fault) = opening_own.IsFirst text files fault
IsFirst text files fault = ⊤

-- an error of the first list with this property
abbrev pub OfFirst : (ListFault → Type 0) → CompareFault → Type 0
OfFirst P (First fault) = P fault
OfFirst P (Second fault) = ⊥
OfFirst P EmptyRange = ⊥

-- an error of the second list with this property
abbrev pub OfSecond : (ListFault → Type 0) → CompareFault → Type 0
OfSecond P (First fault) = ⊥
OfSecond P (Second fault) = P fault
OfSecond P EmptyRange = ⊥

-- if this is an error of the first list, it has this property
abbrev pub ForFirst : (ListFault → Type 0) → CompareFault → Type 0
ForFirst P (First fault) = P fault
ForFirst P (Second fault) = ⊤
ForFirst P EmptyRange = ⊤

-- if this is an error of the second list, it has this property
abbrev pub ForSecond : (ListFault → Type 0) → CompareFault → Type 0
ForSecond P (First fault) = ⊤
ForSecond P (Second fault) = P fault
ForSecond P EmptyRange = ⊤

-- the file that an error of sums names is open
abbrev pub IsOpened : List SoundFacts → SideFault → Type 0
IsOpened sounds side.Intervals = ⊤
IsOpened sounds side.Memory = ⊤
IsOpened sounds (side.Source file) = IsSome (slice_get sounds file)

-- the error of a list that reports an error of its sums, with the file's name instead of its index
abbrev pub IsReportedAs : List SoundFacts → SideFault → ListFault → Type 0
IsReportedAs sounds side.Intervals reported = reported ≡ Intervals
IsReportedAs sounds side.Memory reported = reported ≡ Memory
IsReportedAs sounds (side.Source file) (Source name) =
    (facts : SoundFacts) → slice_get sounds file ≡ Some facts → string_bytes name ≡ facts.name
IsReportedAs sounds (side.Source file) _ = ⊥

-- the file that an error of either list's sums names is open
abbrev pub IsOpenedOfTwo : (sounds others : List SoundFacts) → of_sums.CompareFault → Type 0
IsOpenedOfTwo sounds others sums.EmptyRange = ⊤
IsOpenedOfTwo sounds others (sums.First fault) = IsOpened sounds fault
IsOpenedOfTwo sounds others (sums.Second fault) = IsOpened others fault

-- the error of the comparison that reports an error of either list's sums
abbrev pub IsReportedOfTwo : (sounds others : List SoundFacts) → of_sums.CompareFault → CompareFault → Type 0
IsReportedOfTwo sounds others sums.EmptyRange reported = reported ≡ EmptyRange
IsReportedOfTwo sounds others (sums.First fault) (First reported) = IsReportedAs sounds fault reported
IsReportedOfTwo sounds others (sums.Second fault) (Second reported) = IsReportedAs others fault reported
IsReportedOfTwo sounds others _ _ = ⊥
