-- What the events of any number of workers leave of a command.
use Rattle.std.specs.Prelude.{◌≡◌, ◌≢◌, ℕ, ⊤, false, IsTrue, IfOk, Option, None, is_some, List, Result, Ok, Err, codes}
use Rattle.devices.specs.declared.source.Shelf as source
use Rattle.devices.specs.declared.bench.Bench as output
use Rattle.devices.specs.Views.{output_view}
use Rattle.work_terms.specs.Disk.{Files, IsDurable}
use Rattle.job_terms.specs.declared.BoardEvent.{BoardEvent}
use Rattle.job_terms.specs.declared.Progress.{Progress}
use Rattle.list_terms.specs.Accepted.{OptionValues}
use Rattle.list_terms.specs.Binding.{Binding}
use Rattle.list_terms.specs.Heard.{IsAccepted}
use Rattle.list_terms.specs.Project.{ListProject}
use Rattle.markfile.specs.Started.{NoneStarted}
use Rattle.rendering.specs.Rendering as rendering
use Rattle.rendering.specs.declared.job_length.JobLength.{JobLength}
use Rattle.passes.specs.Left.{Leaving}
use Rattle.provenance.specs.Asked.{AskedReport}
use Rattle.consolidation.specs.Consolidated as consolidation
use Rattle.consolidation.specs.Consolidated.{AreDurable}
use Rattle.consolidation.specs.Work.{SoundsTheSame}
use Rattle.consolidation.specs.declared.written.Written.{Written}
use Rattle.consolidate.specs.Commands.{IsAnswer, IsMediaAnswer, render_refusal}
use Rattle.consolidate.specs.Outcomes.{IsAllDone, read_view}
use Rattle.consolidate.specs.Own.{IsOfConsolidationSchedule, IsOfRenderSchedule}
use Rattle.consolidate.specs.RenderOutcome.{RendersList}
use Rattle.consolidate.specs.declared.fault.Fault.{Fault}
use Rattle.consolidate.specs.declared.fault.Fault.TheVariants as fault
use Rattle.consolidate.specs.declared.fault.OutputFile.TheVariants as file
use Rattle.consolidate.specs.declared.schedule_call.Work.{Work}
use Rattle.consolidate.specs.declared.schedule_call.Work.TheVariants as work

-- what is made of a list has 1 to 64 channels, where their number is chosen
abbrev pub WorkHasChannels : {X : Type 0} {P : X → Type 0} → Work X P → Type 0
WorkHasChannels (work.Consolidate list handle passes order) = ⊤
WorkHasChannels (work.Render list options) = rendering.HaveChannels options

-- The list is accepted, and its rendering is there: that of the exact sums, rounded and clipped, and it reads back so.
pub record HasRendering (text : List ℕ) (values : OptionValues) (sources written : Files) : Type 0 where
  pub project : ListProject
  pub binding : Binding
  pub accepted : IsAccepted text sources project binding
  pub file : rendering.IsRendered project binding values sources (written (codes "render.wav"))

-- the media of a project are written and the list over them, no other file has changed, and a crash leaves them so
pub record IsWrittenOut (leave : Leaving) (project : ListProject) (binding : Binding) (handle : ℕ)
    (asked : Option AskedReport) (sources old new : Files) (may_leave : Files → Type 0) : Type 0 where
  pub counts : Written
  pub written : consolidation.IsConsolidated leave project binding handle asked sources old new counts
  pub durable : AreDurable (is_some asked) counts.media new may_leave

-- The list is accepted, the media of what passes leave of it are written and the list over them, which sounds as it does.
pub record HasConsolidation (leave : Leaving) (text : List ℕ) (handle : ℕ) (sources old new : Files)
    (may_leave : Files → Type 0) : Type 0 where
  pub project : ListProject
  pub binding : Binding
  pub accepted : IsAccepted text sources project binding
  pub out : IsWrittenOut leave project binding handle None sources old new may_leave
  pub same_sound : SoundsTheSame text sources new

-- this holds of a call that didn't write the list: jobs were left, or it failed before
abbrev pub BeforeList : Result Progress Fault → Type 0 → Type 0
BeforeList (Ok told) P = told.finished ≡ false → P
BeforeList (Err told) P = told ≢ fault.Output file.List → P

module _ {S B : Type 0} (shelf : source.Ghosts S) (bench : output.Ghosts B) where
  -- the list was rendered by these events over these stores in jobs of this length, with this outcome
  abbrev pub IsRenderSchedule : JobLength → List ℕ → OptionValues → List BoardEvent → S → S → B → B
      → Result Progress Fault → Type 0
  IsRenderSchedule jobs list values events shelf_old shelf_new bench_old bench_new result = IsAnswer shelf bench IsAllDone
      (λ _. HasRendering list values (shelf.stored shelf_old) (bench.stored bench_new))
      (λ told progress. told ≡ progress) list values ⊤ (NoneStarted (bench.may_leave bench_old)) ⊤
      (render_refusal list values (shelf.stored shelf_old)) IsOfRenderSchedule
      (RendersList jobs (λ _. events) list values (read_view shelf shelf_old) (read_view shelf shelf_new)
      (output_view bench bench_old) (output_view bench bench_new)) shelf_old shelf_new bench_old bench_new result

  -- the list was consolidated by these events over these stores by what passes leave of it, with this outcome
  pub record IsConsolidationSchedule (leave : Leaving) (list : List ℕ) (handle : ℕ) (events : List BoardEvent)
      (shelf_old shelf_new : S) (bench_old bench_new : B) (result : Result Progress Fault) : Type 0 where
    pub answer : IsMediaAnswer shelf bench (λ answer progress. answer ≡ progress) IsOfConsolidationSchedule leave list
        handle None (λ _. events) shelf_old shelf_new bench_old bench_new result
    pub finished : IsTrue (shelf.honest shelf_old) → IsTrue (bench.honest bench_old) → IfOk result (λ told.
        IsTrue told.finished → HasConsolidation leave list handle (shelf.stored shelf_old) (bench.stored bench_old)
        (bench.stored bench_new) (bench.may_leave bench_new))
    pub durable : IsTrue (bench.honest bench_old) → IfOk result (λ told. IsTrue told.finished
        → IsDurable (codes "consolidated.adl") (bench.stored bench_new) (bench.may_leave bench_new))
    pub list_last : IsTrue (bench.honest bench_old) → BeforeList result
        (bench.stored bench_new (codes "consolidated.adl") ≡ bench.stored bench_old (codes "consolidated.adl"))
