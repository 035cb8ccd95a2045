-- Which faults each call may tell.
use Rattle.std.specs.Prelude.{ℕ, Bool, IsTrue, false, true, ⊤}
use Rattle.std.specs.Prelude as bytes
use Rattle.work_terms.specs.Disk.{Files}
use Rattle.opening.specs.Own as opening
use Rattle.opening.specs.Own.{IsOfOpening}
use Rattle.markfile.specs.declared.fault.MarkFault.{MarkFault}
use Rattle.markfile.specs.declared.fault.MarkFault.TheVariants as marks
use Rattle.consolidate.specs.declared.fault.OutputFile.{OutputFile}
use Rattle.consolidate.specs.declared.fault.OutputFile.TheVariants.{Rendering, Marks, Medium, Sums, Report, List}
use Rattle.consolidate.specs.declared.fault.Fault.{Fault}
use Rattle.consolidate.specs.declared.fault.Fault.TheVariants as fault

-- a fault of the list of this text, of its files or of its entries
abbrev pub IsOfProject : bytes.List ℕ → Fault → Type 0
IsOfProject text (fault.Project of) = IsOfOpening text of
IsOfProject text _ = ⊥

-- no index before the one whose file is told is at fault
abbrev pub IsFirst : bytes.List ℕ → Files → Fault → Type 0
IsFirst text files (fault.Project of) = opening.IsFirst text files of
IsFirst text files _ = ⊤

abbrev pub IsRenderedFile : OutputFile → Type 0
IsRenderedFile Rendering = ⊤
IsRenderedFile Marks = ⊤
IsRenderedFile _ = ⊥

-- no memory for new marks, or any fault of those that are there
abbrev pub IsOfMarks : (again : Bool) → MarkFault → Type 0
IsOfMarks again marks.Memory = ⊤
IsOfMarks again of = IsTrue again

-- or one of rendering it, of going on with its marks, or of its schedule, whose workers take memory as they come
abbrev pub IsOfWork : (again scheduled : Bool) → bytes.List ℕ → Fault → Type 0
IsOfWork again scheduled text (fault.Project of) = IsOfOpening text of
IsOfWork again scheduled text fault.Intervals = ⊤
IsOfWork again scheduled text fault.RenderMemory = ⊤
IsOfWork again scheduled text fault.EmptyRange = ⊤
IsOfWork again scheduled text fault.BoardMemory = ⊤
IsOfWork again scheduled text (fault.Marks of) = IsOfMarks again of
IsOfWork again scheduled text fault.WorkerMemory = IsTrue scheduled
IsOfWork again scheduled text fault.BlockMemory = IsTrue scheduled
IsOfWork again scheduled text (fault.GivenUp job) = ⊤
IsOfWork again scheduled text (fault.Output file) = IsRenderedFile file
IsOfWork again scheduled text _ = ⊥

abbrev pub IsOfRendering : bytes.List ℕ → Fault → Type 0
IsOfRendering = IsOfWork false false

abbrev pub IsOfResuming : bytes.List ℕ → Fault → Type 0
IsOfResuming = IsOfWork true false

abbrev pub IsOfRenderSchedule : bytes.List ℕ → Fault → Type 0
IsOfRenderSchedule = IsOfWork false true

abbrev pub IsConsolidatedFile : Bool → OutputFile → Type 0
IsConsolidatedFile reported (Medium number) = ⊤
IsConsolidatedFile reported Sums = IsTrue reported
IsConsolidatedFile reported Report = IsTrue reported
IsConsolidatedFile reported List = ⊤
IsConsolidatedFile reported _ = ⊥

-- or one of consolidating it, with a report or without one, or of the schedule of that
abbrev pub IsOfMedia : (reported scheduled : Bool) → bytes.List ℕ → Fault → Type 0
IsOfMedia reported scheduled text (fault.Project of) = IsOfOpening text of
IsOfMedia reported scheduled text fault.Intervals = ⊤
IsOfMedia reported scheduled text fault.PassMemory = ⊤
IsOfMedia reported scheduled text (fault.Silence name) = ⊤
IsOfMedia reported scheduled text (fault.Runs of) = ⊤
IsOfMedia reported scheduled text (fault.Relink of) = ⊤
IsOfMedia reported scheduled text fault.BoardMemory = ⊤
IsOfMedia reported scheduled text fault.WorkerMemory = IsTrue scheduled
IsOfMedia reported scheduled text (fault.GivenUp job) = ⊤
IsOfMedia reported scheduled text (fault.Output file) = IsConsolidatedFile reported file
IsOfMedia reported scheduled text _ = ⊥

abbrev pub IsOfConsolidation : Bool → bytes.List ℕ → Fault → Type 0
IsOfConsolidation reported = IsOfMedia reported false

abbrev pub IsOfConsolidationSchedule : bytes.List ℕ → Fault → Type 0
IsOfConsolidationSchedule = IsOfMedia false true
