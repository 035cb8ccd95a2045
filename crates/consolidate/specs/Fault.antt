-- The number and the place of each fault.
use Rattle.std.specs.Prelude.{◌≡◌, ℕ, ⊤, true, false, IsSome, None, Some, slice_get, string_bytes, codes}
use Rattle.std.specs.Prelude as bytes
use Rattle.sound_terms.specs.Sounds.{SoundFacts}
use Rattle.work_terms.specs.Refusals.{Refusal, Where, Nowhere, File, Job, IsDue}
use Rattle.list_terms.specs.Renewed.{media_name}
use Rattle.markfile.specs.Fault.{name_of, number_of}
use Rattle.markfile.specs.declared.fault.MarkFault.{MarkFault}
use Rattle.markfile.specs.declared.fault.MarkFault.TheVariants as marks
use Rattle.passes.specs.declared.fault.PassFault.TheVariants as pass
use Rattle.mediaset.specs.Fault as mediaset
use Rattle.relink.specs.Fault as relink
use Rattle.opening.specs.Faults as opening
use Rattle.consolidation.specs.declared.fault.ConsolidationFault.{ConsolidationFault}
use Rattle.consolidation.specs.declared.fault.ConsolidationFault.TheVariants as consolidation
use Rattle.consolidate.specs.declared.fault.OutputFile.{OutputFile}
use Rattle.consolidate.specs.declared.fault.OutputFile.TheVariants as output
use Rattle.consolidate.specs.declared.fault.Fault.{Fault}
use Rattle.consolidate.specs.declared.fault.Fault.TheVariants.{Project, Intervals, PassMemory, Silence, Runs, Relink, RenderMemory, BlockMemory, EmptyRange, BoardMemory, WorkerMemory, Marks, GivenUp, Output}

-- before the first write
abbrev early : ℕ → Refusal
early number = record { number = number; location = Nowhere; late = false }

-- after it: what is written is unfinished
abbrev late : ℕ → Where → Refusal
late number place = record { number = number; location = place; late = true }

-- the name of an output
abbrev pub name_of_output : OutputFile → bytes.List ℕ
name_of_output output.Rendering = codes "render.wav"
name_of_output output.Marks = codes "render.marks"
name_of_output output.RenderReport = codes "render.json"
name_of_output (output.Medium number) = media_name number
name_of_output output.Sums = codes "SHA256SUMS"
name_of_output output.Report = codes "consolidated.json"
name_of_output output.List = codes "consolidated.adl"

-- the file at which the device failed
abbrev pub place_of_marks : MarkFault → Where
place_of_marks marks.OtherRun = Nowhere
place_of_marks marks.BadMarks = Nowhere
place_of_marks marks.Memory = Nowhere
place_of_marks (marks.Device file) = File (name_of (marks.Device file))

-- of marks that an earlier rendering left
abbrev pub refusal_of_marks : MarkFault → Refusal
refusal_of_marks fault = record { number = number_of fault; location = place_of_marks fault; late = false }

abbrev pub refusal_of : Fault → Refusal
refusal_of (Project fault) = opening.refusal_of fault
refusal_of Intervals = early 47
refusal_of PassMemory = early 51
refusal_of (Silence name) = early 52
refusal_of (Runs fault) = early (mediaset.number_of fault)
refusal_of (Relink fault) = early (relink.number_of fault)
refusal_of RenderMemory = early 57
refusal_of BlockMemory = late 57 Nowhere
refusal_of EmptyRange = early 58
refusal_of BoardMemory = early 60
refusal_of (Marks fault) = refusal_of_marks fault
refusal_of WorkerMemory = late 60 Nowhere
refusal_of (GivenUp job) = late 66 (Job job)
refusal_of (Output file) = late 62 (File (name_of_output file))

-- its refusal may come where none is due
abbrev pub IsAlwaysDue : Fault → Type 0
IsAlwaysDue fault = IsDue (refusal_of fault) None

-- a file that a fault of a consolidation tells is one of those opened
abbrev pub IsOpenedIn : bytes.List SoundFacts → ConsolidationFault → Type 0
IsOpenedIn sounds (consolidation.Pass (pass.Device file)) = IsSome (slice_get sounds file)
IsOpenedIn sounds _ = ⊤

-- the fault names the file of this place among those opened
abbrev pub NamesFile : bytes.List SoundFacts → ℕ → Fault → Type 0
NamesFile sounds file (Silence name) = (facts : SoundFacts) → slice_get sounds file ≡ Some facts
    → string_bytes name ≡ facts.name
NamesFile sounds file _ = ⊥

-- it names the file that a fault of a consolidation tells
abbrev pub NamesOpened : bytes.List SoundFacts → ConsolidationFault → Fault → Type 0
NamesOpened sounds (consolidation.Pass (pass.Device file)) told = NamesFile sounds file told
NamesOpened sounds _ told = ⊤
