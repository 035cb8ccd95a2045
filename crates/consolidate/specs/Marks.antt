-- The marks of a rendering of a list, and what a stop of it may leave.
use Rattle.std.specs.Prelude.{◌≡◌, ℕ, ℤ, Bool, Option, None, Some, List, Result, Ok, Err}
use Rattle.std.specs.List.{count_by}
use Rattle.sound_terms.specs.Render.{Range, ReadsBack, rendering_of}
use Rattle.work_terms.specs.Disk.{Files, IsDurable}
use Rattle.work_terms.specs.Refusals.{Refusal}
use Rattle.list_terms.specs.Accepted.{OptionValues, range_of}
use Rattle.list_terms.specs.Binding.{Binding}
use Rattle.list_terms.specs.Heard.{IsAccepted, project_mix}
use Rattle.list_terms.specs.Project.{ListProject}
use Rattle.list_terms.specs.Text.{text_value}
use Rattle.markfile.specs.Format.{head_of, marks_name, sound_name}
use Rattle.markfile.specs.Opened.{opened_of}
use Rattle.markfile.specs.declared.fault.MarkFault.{MarkFault}
use Rattle.markfile.specs.declared.run.RunId.{RunId}
use Rattle.rendering.specs.Marked as rendering
use Rattle.rendering.specs.Marked.{IsLeftByRun, IsResumable, MarkedWork, block_end, block_place, full_marks, run_of}
use Rattle.rendering.specs.Work.{whole_of}
use Rattle.execution.specs.Marking.{Marking}
use Rattle.consolidate.specs.Fault.{refusal_of_marks}

-- a rendered file, block by block, and its marks
abbrev pub file_marking : Range → List ℕ → RunId → Marking
file_marking range whole run = record {
  name = sound_name;
  whole = whole;
  count = run.blocks;
  first = block_place range;
  last = block_end range;
  jobs = 0;
  from = λ _. 0;
  end = λ _. 0;
  group = λ job. job;
  marks = marks_name;
  head = head_of run;
}

-- those of this project's rendering, as a list of this text
abbrev pub list_marking : List ℕ → OptionValues → Files → ListProject → Binding → Marking
list_marking text values sources project binding = file_marking (range_of project values)
    (rendering_of (range_of project values) (project_mix sources project binding)) (run_of text (range_of project values))

-- What a crash may leave of rendering a list, where the list is accepted: marks that aren't started, or its own, over a
-- file of its full length in which each block that they mark stands, and all that is outside the blocks.
abbrev pub IsLeftOf : List ℕ → OptionValues → Files → Files → Type 0
IsLeftOf text values sources c = (project : ListProject) (binding : Binding)
    → IsAccepted text sources project binding → IsResumable (list_marking text values sources project binding) c

-- What rendering a list may leave, told of each two outcomes of a crash: marks that are started in one are its own, and
-- true of the output of the other. So it may be gone on with, whether a crash came between or not.
abbrev pub IsLeftByRendering : List ℕ → OptionValues → Files → (Files → Type 0) → Type 0
IsLeftByRendering text values sources outcomes = (project : ListProject) (binding : Binding)
    → IsAccepted text sources project binding → IsLeftByRun (list_marking text values sources project binding) outcomes

-- each block that these marks tell stands in the rendered file of an accepted list
abbrev pub HoldsMarked : List ℕ → OptionValues → Files → List ℕ → Files → Type 0
HoldsMarked text values sources marks c = (project : ListProject) (binding : Binding)
    → IsAccepted text sources project binding
    → rendering.HoldsMarked (list_marking text values sources project binding) marks c

-- these are the marks of the list's rendering, all of them set
abbrev pub HasAllMarks : List ℕ → OptionValues → Option (List ℕ) → Type 0
HasAllMarks text values file = (project : ListProject) → text_value text ≡ Ok project
    → file ≡ Some (full_marks (run_of text (range_of project values)))

-- a crash leaves the rendered file and its marks as they are read
pub record AreBothDurable (stored : Files) (may_leave : Files → Type 0) : Type 0 where
  pub sound : IsDurable sound_name stored may_leave
  pub marks : IsDurable marks_name stored may_leave

-- the plan is that of what was chosen of a project, and its marks are those of a list of this text
pub record IsMarkedFor (text : List ℕ) (project : ListProject) (binding : Binding) (values : OptionValues)
    (marked : MarkedWork) : Type 0 where
  pub range : marked.work.planned.range ≡ range_of project values
  pub whole : (sources : Files) → whole_of marked.work sources
      ≡ rendering_of (range_of project values) (project_mix sources project binding)
  pub reads_back : (mix : ℕ → ℕ → ℤ)
      → ReadsBack (range_of project values) mix (rendering_of (range_of project values) mix)
  pub run : marked.run ≡ run_of text (range_of project values)

-- the first fault of the marks among these outputs
abbrev pub fault_in : Result (Option (List Bool)) MarkFault → Option Refusal
fault_in (Ok found) = None
fault_in (Err fault) = Some (refusal_of_marks fault)

abbrev pub marks_refusal : List ℕ → OptionValues → Files → Result ListProject Refusal → Option Refusal
marks_refusal text values outputs (Err refusal) = None
marks_refusal text values outputs (Ok project) = fault_in (opened_of (run_of text (range_of project values)) outputs)

-- how many blocks these outputs have marked
abbrev pub count_in : Result (Option (List Bool)) MarkFault → ℕ
count_in (Ok None) = 0
count_in (Ok (Some marked)) = count_by (λ mark. mark) marked
count_in (Err fault) = 0
