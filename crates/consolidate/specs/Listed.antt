-- A rendering that is asked for, by its list, the project that was opened of it, and what is chosen.
use Rattle.std.specs.Prelude.{◌≡◌, ℕ, ℤ, Bool, true, IsTrue, IfOk, Option, Some, List, Result}
use Rattle.devices.specs.declared.source.Shelf as source
use Rattle.devices.specs.declared.bench.Bench as output
use Rattle.devices.specs.Views.{OutputView, SourceView, output_view}
use Rattle.execution.specs.Marking.{Marking}
use Rattle.execution.specs.declared.fault.ExecutionFault.{ExecutionFault}
use Rattle.job_terms.specs.declared.Progress.{Progress}
use Rattle.list_terms.specs.Accepted.{OptionValues, range_of}
use Rattle.list_terms.specs.Binding.{Binding}
use Rattle.list_terms.specs.Heard.{project_mix}
use Rattle.list_terms.specs.Project.{ListProject}
use Rattle.list_terms.specs.Steps.{ok_map}
use Rattle.markfile.specs.Format.{marks_name}
use Rattle.markfile.specs.Started.{is_started}
use Rattle.markfile.specs.declared.fault.MarkFault.{MarkFault}
use Rattle.markfile.specs.declared.run.RunId.{RunId}
use Rattle.rendering.specs.Clipping.{marked_in}
use Rattle.rendering.specs.Marked.{HoldsMarked, IsLeftByRun, MarkedWork, run_of}
use Rattle.rendering.specs.Planned.{IsRenderingOf}
use Rattle.rendering.specs.Rendering.{HasRange, render_fault, values_of}
use Rattle.rendering.specs.Work.{RenderWork}
use Rattle.sound_terms.specs.Render.{Range, ReadsBack, rendering_of}
use Rattle.work_terms.specs.Disk.{Files, LeavesOnly}
use Rattle.work_terms.specs.Refusals.{Answers, Refusal}
use Rattle.consolidate.specs.Approaches.{AreRounds, IfAgain, StartsBy, due_by, events_by, found_by, handing_of}
use Rattle.consolidate.specs.Clipping.{IsClipping}
use Rattle.consolidate.specs.Fault.{refusal_of}
use Rattle.consolidate.specs.Marks.{IsMarkedFor, count_in, fault_in, list_marking}
use Rattle.consolidate.specs.Outcomes.{IsAllDone, read_view}
use Rattle.consolidate.specs.RenderOutcome.{WorksBound}
use Rattle.consolidate.specs.RenderWorks.{DoesWork, FailsBy, FailsInTurn}
use Rattle.consolidate.specs.declared.fault.Fault.{Fault}
use Rattle.consolidate.specs.declared.request.Made.{Made}
use Rattle.consolidate.specs.declared.request.RenderRequest.{RenderRequest}

-- what is asked for, with the project that was opened of the list
pub record Listed : Type 0 where
  pub request : RenderRequest
  pub project : ListProject
  pub bound : Binding

abbrev pub listed_of : RenderRequest → ListProject → Binding → Listed
listed_of request project bound = record { request = request; project = project; bound = bound }

abbrev pub values_in : Listed → OptionValues
values_in listed = values_of listed.request.choice.options

abbrev pub range_in : Listed → Range
range_in listed = range_of listed.project (values_in listed)

-- the sums of its entries, by channel and by time
abbrev pub mix_in : Listed → Files → ℕ → ℕ → ℤ
mix_in listed sources = project_mix sources listed.project listed.bound

-- that its range is at fault
abbrev pub fault_of_range : Listed → Option Refusal
fault_of_range listed = render_fault listed.project (values_in listed)

-- what its marks say that they are of
abbrev pub run_in : Listed → RunId
run_in listed = run_of listed.request.list.now (range_in listed)

-- the rendered file with its marks
abbrev pub marking_in : Listed → Files → Marking
marking_in listed sources =
    list_marking listed.request.list.now (values_in listed) sources listed.project listed.bound

-- what its marks among these outputs are read as
abbrev pub marks_in : Listed → Files → Result (Option (List Bool)) MarkFault
marks_in listed outputs = found_by listed.request.approach (run_in listed) outputs

-- how its jobs came out, those that the marks among these outputs leave
abbrev pub WorksListed : Listed → Files → SourceView → SourceView → OutputView → OutputView
    → Result Progress ExecutionFault → Type 0
WorksListed listed outputs source_old source_new output_old output_new ended =
    WorksBound listed.request.choice.jobs (events_by (handing_of listed.request.approach)) listed.request.list.now
    (values_in listed) listed.project listed.bound (marks_in listed outputs) source_old source_new
    output_old output_new ended

module _ {S B : Type 0} (shelf : source.Ghosts S) (bench : output.Ghosts B) where
  -- its marks are among what a run of it may leave
  abbrev pub IsLeftListed : Listed → S → B → Type 0
  IsLeftListed listed sources left = IsLeftByRun (marking_in listed (shelf.stored sources)) (bench.may_leave left)

  -- what is left of it by a call whose jobs come out so
  abbrev pub DoesListed : Listed → S → S → B → B → Result Progress Fault → Type 0
  DoesListed listed shelf_old shelf_new bench_old bench_new result = DoesWork shelf bench
      (marking_in listed (shelf.stored shelf_old)) (run_in listed)
      (IfAgain listed.request.approach (IsLeftListed listed shelf_old bench_old))
      (StartsBy listed.request.approach (bench.may_leave bench_old) (IsLeftListed listed shelf_old bench_old))
      (WorksListed listed (bench.stored bench_old) (read_view shelf shelf_old) (read_view shelf shelf_new)
      (output_view bench bench_old) (output_view bench bench_new)) shelf_old shelf_new bench_old bench_new result

  -- at each moment the blocks stand that its marks tell
  abbrev pub KeepsListed : Listed → S → B → B → Type 0
  KeepsListed listed sources bench_old bench_new = IsTrue (shelf.honest sources) → IsTrue (bench.honest bench_old)
      → IsLeftListed listed sources bench_old → (marks : List ℕ) → bench.stored bench_old marks_name ≡ Some marks
      → is_started (Some marks) ≡ true → LeavesOnly bench.moment bench.left_since bench_old bench_new
      (HoldsMarked (marking_in listed (shelf.stored sources)) marks)

  -- What was made of it, how far its jobs are, and what a crash leaves. By rounds all of them are done, and this was
  -- clipped.
  pub record MakesListed (listed : Listed) (shelf_old shelf_new : S) (bench_old bench_new : B)
      (result : Result Made Fault) : Type 0 where
    pub does : DoesListed listed shelf_old shelf_new bench_old bench_new (ok_map (λ made. made.progress) result)
    pub finished : AreRounds (handing_of listed.request.approach) → IfOk result (λ made. IsAllDone made.progress)
    pub report : IfOk result (λ made. HasRange made.rendered (range_in listed))
    pub reads_back : IfOk result (λ _. (mix : ℕ → ℕ → ℤ)
        → ReadsBack (range_in listed) mix (rendering_of (range_in listed) mix))
    pub marked : IfAgain listed.request.approach (IsTrue (bench.honest bench_old))
        → IfOk result (λ made. made.marked ≡ count_in (marks_in listed (bench.stored bench_old)))
    pub clips : AreRounds (handing_of listed.request.approach) → IsTrue (shelf.honest shelf_old)
        → IfAgain listed.request.approach (IsTrue (bench.honest bench_old)) → IfOk result (λ made.
        IsClipping (marked_in (marks_in listed (bench.stored bench_old))) (range_in listed)
        (mix_in listed (shelf.stored shelf_old)) made.clipping)
    pub keeps : IfAgain listed.request.approach (KeepsListed listed shelf_old bench_old bench_new)
    pub refusals : IfAgain listed.request.approach (IsTrue (bench.honest bench_old)) → Answers refusal_of result
        (due_by listed.request.approach (fault_of_range listed) (fault_in (marks_in listed (bench.stored bench_old))))
    pub own : FailsBy listed.request.approach result
    pub in_turn : FailsInTurn result

-- the plan is that of it, and its marks are its own
abbrev pub IsMarkedIn : Listed → MarkedWork → Type 0
IsMarkedIn listed marked = IsMarkedFor listed.request.list.now listed.project listed.bound
    (values_in listed) marked

-- its jobs are those of what is asked for, none of them done
abbrev pub IsPlannedAs : Listed → RenderWork → Type 0
IsPlannedAs listed work = IsRenderingOf listed.request.choice.jobs listed.project listed.bound
    (values_in listed) work
