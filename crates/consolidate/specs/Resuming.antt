-- What going on with a rendering answers, and what it leaves.
use Rattle.std.specs.Prelude.{◌≡◌, ◌-◌, ℕ, ⊤, true, IsTrue, Option, Some, List, Result, Ok, IfOk}
use Rattle.devices.specs.declared.source.Shelf as source
use Rattle.devices.specs.declared.bench.Bench as output
use Rattle.devices.specs.Views.{output_view}
use Rattle.work_terms.specs.Disk.{Files, LeavesOnly}
use Rattle.work_terms.specs.Refusals.{Refusal}
use Rattle.list_terms.specs.Accepted.{OptionValues, first_fault, range_of}
use Rattle.list_terms.specs.Project.{ListProject}
use Rattle.list_terms.specs.Text.{text_value}
use Rattle.markfile.specs.Format.{marks_name}
use Rattle.markfile.specs.Opened.{opened_of}
use Rattle.markfile.specs.Started.{is_started}
use Rattle.rendering.specs.Marked.{run_of}
use Rattle.rendering.specs.declared.job_length.JobLength.{JobLength}
use Rattle.consolidate.specs.Commands.{IsAnswer, IsRenderedWith, render_refusal}
use Rattle.consolidate.specs.Marks.{HoldsMarked, IsLeftByRendering, count_in, marks_refusal}
use Rattle.consolidate.specs.Own.{IsOfResuming}
use Rattle.consolidate.specs.Outcomes.{read_view}
use Rattle.consolidate.specs.RenderOutcome.{ResumesList}
use Rattle.consolidate.specs.declared.fault.Fault.{Fault}
use Rattle.consolidate.specs.declared.resume_call.Resumed.{Resumed}

-- the list is accepted, and its rendering is there as `render` leaves it
abbrev pub IsResumed : List ℕ → OptionValues → Files → Files → Resumed → Type 0
IsResumed text values sources written told = IsRenderedWith text values sources written told.notices.items

-- the first fault of going on with a rendering: of rendering it, and then of the marks that are there
abbrev pub resume_refusal : List ℕ → OptionValues → Files → Files → Option Refusal
resume_refusal text values files outputs =
    first_fault (render_refusal text values files) (marks_refusal text values outputs (text_value text))

module _ {S B : Type 0} (shelf : source.Ghosts S) (bench : output.Ghosts B) where
  -- the bench is as a rendering of this list left it, which ended in any way or was stopped
  abbrev pub IsLeft : List ℕ → OptionValues → S → B → Type 0
  IsLeft list values sources left = IsLeftByRendering list values (shelf.stored sources) (bench.may_leave left)

  -- the rendering of the list was gone on with over these stores in jobs of this length, with this outcome
  pub record IsResuming (jobs : JobLength) (list : List ℕ) (values : OptionValues) (shelf_old shelf_new : S)
      (bench_old bench_new : B) (result : Result Resumed Fault) : Type 0 where
    pub answer : IsAnswer shelf bench (λ _. ⊤)
        (IsResumed list values (shelf.stored shelf_old) (bench.stored bench_new))
        (λ _ progress. progress.finished ≡ true) list values (IsLeft list values shelf_old bench_old)
        (IsLeft list values shelf_old bench_old) (IsTrue (bench.honest bench_old))
        (resume_refusal list values (shelf.stored shelf_old) (bench.stored bench_old)) IsOfResuming
        (ResumesList jobs list values (read_view shelf shelf_old) (read_view shelf shelf_new)
        (output_view bench bench_old) (output_view bench bench_new)) shelf_old shelf_new bench_old bench_new result
    pub marked : IsTrue (bench.honest bench_old) → (project : ListProject) → text_value list ≡ Ok project
        → IfOk result (λ told. told.marked ≡ count_in (opened_of (run_of list (range_of project values))
        (bench.stored bench_old)))
    pub keeps_marked : IsTrue (shelf.honest shelf_old) → IsTrue (bench.honest bench_old)
        → IsLeft list values shelf_old bench_old
        → (marks : List ℕ) → bench.stored bench_old marks_name ≡ Some marks → is_started (Some marks) ≡ true
        → LeavesOnly bench.moment bench.left_since bench_old bench_new
        (HoldsMarked list values (shelf.stored shelf_old) marks)
    pub report : (project : ListProject) → text_value list ≡ Ok project
        → IfOk result (λ told. told.frames ≡ (range_of project values).to - (range_of project values).from)
