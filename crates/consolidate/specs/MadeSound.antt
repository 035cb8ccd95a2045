-- What was made of a list that was rendered, or whose rendering was gone on with.
use Rattle.std.specs.Prelude.{◌≡◌, ◌-◌, ℕ, true, IsTrue, IfOk, Some, List, Result, Ok}
use Rattle.devices.specs.declared.source.Shelf as source
use Rattle.devices.specs.declared.bench.Bench as output
use Rattle.devices.specs.Views.{output_view}
use Rattle.work_terms.specs.Disk.{LeavesOnly}
use Rattle.list_terms.specs.Accepted.{OptionValues, range_of}
use Rattle.list_terms.specs.Project.{ListProject}
use Rattle.list_terms.specs.Text.{text_value}
use Rattle.markfile.specs.Format.{marks_name}
use Rattle.markfile.specs.Started.{is_started}
use Rattle.rendering.specs.Clipping.{marked_in}
use Rattle.rendering.specs.Marked.{run_of}
use Rattle.rendering.specs.Rendering.{values_of}
use Rattle.consolidate.specs.Approaches.{AreRounds, IfAgain, IsFinishedBy, IsOwnOf, SaysBy, StartsBy, due_by, events_by, found_by, handing_of}
use Rattle.consolidate.specs.Clipping.{ClipsList}
use Rattle.consolidate.specs.Commands.{IsAnswer, IsRenderedWith, Reports, render_refusal}
use Rattle.consolidate.specs.Marks.{HoldsMarked, IsLeftByRendering, count_in, marks_refusal}
use Rattle.consolidate.specs.Outcomes.{read_view}
use Rattle.consolidate.specs.RenderOutcome.{WorksList}
use Rattle.consolidate.specs.declared.fault.Fault.{Fault}
use Rattle.consolidate.specs.declared.made.MadeList.{MadeList}
use Rattle.consolidate.specs.declared.request.RenderRequest.{RenderRequest}

abbrev pub values_for : RenderRequest → OptionValues
values_for request = values_of request.choice.options

module _ {S B : Type 0} (shelf : source.Ghosts S) (bench : output.Ghosts B) (request : RenderRequest)
    (shelf_old shelf_new : S) (bench_old bench_new : B) where
  -- the bench is as a rendering of the list left it
  abbrev pub IsLeftFor : Type 0
  IsLeftFor = IsLeftByRendering request.list.now (values_for request) (shelf.stored shelf_old) (bench.may_leave
      bench_old)

  -- what is answered, by how the rendering is done
  abbrev pub AnswersRequest : Result MadeList Fault → Type 0
  AnswersRequest result = IsAnswer shelf bench (λ list. IsFinishedBy (handing_of request.approach) list.made.progress)
      (λ list. IsRenderedWith request.list.now (values_for request) (shelf.stored shelf_old) (bench.stored bench_new)
      list.notices.items) (λ list. SaysBy (handing_of request.approach) list.made.progress) request.list.now
      (values_for request) (IfAgain request.approach IsLeftFor)
      (StartsBy request.approach (bench.may_leave bench_old) IsLeftFor)
      (IfAgain request.approach (IsTrue (bench.honest bench_old)))
      (due_by request.approach (render_refusal request.list.now (values_for request) (shelf.stored shelf_old))
      (marks_refusal request.list.now (values_for request) (bench.stored bench_old) (text_value request.list.now)))
      (IsOwnOf request.approach)
      (WorksList request.choice.jobs (events_by (handing_of request.approach))
      (λ run. found_by request.approach run (bench.stored bench_old)) request.list.now (values_for request)
      (read_view shelf shelf_old) (read_view shelf shelf_new) (output_view bench bench_old)
      (output_view bench bench_new)) shelf_old shelf_new bench_old bench_new result

  -- with what is reported. Of a rendering that is gone on with, what was marked stands at each moment.
  pub record MakesSound (result : Result MadeList Fault) : Type 0 where
    pub answer : AnswersRequest result
    pub report : IfOk result (λ list. Reports request.list.now (values_for request) (record {
      frames = list.made.rendered.frames;
      channels = list.made.rendered.channels;
      notices = list.notices;
    }))
    pub frames : (project : ListProject) → text_value request.list.now ≡ Ok project → IfOk result (λ list.
        list.made.rendered.frames
        ≡ (range_of project (values_for request)).to - (range_of project (values_for request)).from)
    pub marked : IfAgain request.approach (IsTrue (bench.honest bench_old)) → (project : ListProject)
        → text_value request.list.now ≡ Ok project → IfOk result (λ list. list.made.marked
        ≡ count_in (found_by request.approach (run_of request.list.now (range_of project (values_for request)))
        (bench.stored bench_old)))
    pub clips : AreRounds (handing_of request.approach) → IsTrue (shelf.honest shelf_old)
        → IfAgain request.approach (IsTrue (bench.honest bench_old)) → IfOk result (λ list.
        ClipsList request.list.now (values_for request) (shelf.stored shelf_old)
        (λ range. marked_in (found_by request.approach (run_of request.list.now range) (bench.stored bench_old)))
        list.made.clipping)
    pub keeps_marked : IfAgain request.approach (IsTrue (shelf.honest shelf_old) → IsTrue (bench.honest bench_old)
        → IsLeftFor → (marks : List ℕ) → bench.stored bench_old marks_name ≡ Some marks
        → is_started (Some marks) ≡ true → LeavesOnly bench.moment bench.left_since bench_old bench_new
        (HoldsMarked request.list.now (values_for request) (shelf.stored shelf_old) marks))
