-- What each call answers, and what it leaves of the sources and of the outputs.
use Rattle.std.specs.Prelude.{◌≡◌, ◌≢◌, ◌≤◌, ◌==◌, ◌||◌, ◌*◌, ℕ, ⊤, false, true, IsTrue, Option, None, List, Result, Ok, Err, Some, IfOk, IfErr, IsOk, IsErrAnd, is_some, OnOk, ◌++◌, codes, string_bytes}
use Rattle.devices.specs.declared.source.Shelf as source
use Rattle.devices.specs.declared.bench.Bench as output
use Rattle.devices.specs.Frame.{OnlyReads}
use Rattle.devices.specs.Views.{output_view}
use Rattle.job_terms.specs.Workers.{rounds}
use Rattle.job_terms.specs.declared.BoardEvent.{BoardEvent}
use Rattle.execution.specs.declared.fault.ExecutionFault.{ExecutionFault}
use Rattle.job_terms.specs.declared.Progress.{Progress}
use Rattle.work_terms.specs.Disk.{Files, HasCause, IsUntouched, LeavesOnly, Rises}
use Rattle.work_terms.specs.Refusals.{Answers, IsDue, Refusal, turn_of}
use Rattle.list_terms.specs.declared.Notice.{Notice}
use Rattle.list_terms.specs.Project.{ListProject}
use Rattle.list_terms.specs.Binding.{Binding}
use Rattle.list_terms.specs.Accepted.{OptionValues, first_fault, range_of}
use Rattle.list_terms.specs.Heard.{IsAccepted, project_fault}
use Rattle.list_terms.specs.Text.{text_value}
use Rattle.adlread.specs.Spells.{Spells}
use Rattle.passes.specs.Left.{Leaving}
use Rattle.opening.specs.Commands as opening
use Rattle.opening.specs.Commands.{all_notices}
use Rattle.opening.specs.Faults as opening_faults
use Rattle.opening.specs.declared.accepted_list.Accepted.{Accepted}
use Rattle.opening.specs.declared.accepted_list.Opened.{Opened}
use Rattle.markfile.specs.Format.{marks_name}
use Rattle.markfile.specs.Started.{NoneStarted}
use Rattle.rendering.specs.Marked.{IsOther}
use Rattle.rendering.specs.declared.job_length.JobLength.{JobLength}
use Rattle.rendering.specs.Rendering as rendering
use Rattle.provenance.specs.Asked.{AskedReport}
use Rattle.consolidation.specs.Consolidated as consolidation
use Rattle.consolidation.specs.Consolidated.{AreDurable, IsElsewhere, IsWorkOf, Work, work_fault}
use Rattle.consolidation.specs.Work.{SoundsTheSame}
use Rattle.consolidate.specs.Fault.{refusal_of}
use Rattle.consolidate.specs.MediaOutcome.{ConsolidatesList}
use Rattle.consolidate.specs.Outcomes.{HasBegun, AnswersAs, read_view}
use Rattle.consolidate.specs.RenderOutcome.{RendersList, in_rounds, rendering_fault}
use Rattle.consolidate.specs.Own.{IsFirst, IsOfConsolidation, IsOfProject, IsOfRendering}
use Rattle.consolidate.specs.Marks.{AreBothDurable, HasAllMarks, IsLeftByRendering, IsLeftOf}
use Rattle.consolidate.specs.declared.fault.Fault.{Fault}
use Rattle.consolidate.specs.declared.fault.Fault.TheVariants as fault
use Rattle.consolidate.specs.declared.fault.OutputFile.TheVariants as file
use Rattle.consolidate.specs.declared.render_call.Rendered.{Rendered}
use Rattle.consolidate.specs.declared.consolidate_call.Written.{Written}

-- the call fails by this refusal, or by one that may come in its place
abbrev pub IsRefusedBy : {X : Type 0} → Refusal → Result X Fault → Type 0
IsRefusedBy refusal result = IfErr result (λ fault. IsDue (refusal_of fault) (Some refusal)) × (IsOk result → ⊥)

-- a text with a fault is refused, whatever the files are
abbrev pub RefusesBadText : {X : Type 0} → List ℕ → Result X Fault → Type 0
RefusesBadText text result = (refusal : Refusal) → text_value text ≡ Err refusal → IsRefusedBy refusal result

-- 22 and 52: the device of a source failed
abbrev pub IsSource : Fault → Type 0
IsSource fault = IsTrue ((refusal_of fault).number == 22 || (refusal_of fault).number == 52)

-- this holds of the name of the source whose device failed
abbrev pub HoldsOfSource : Fault → (List ℕ → Type 0) → Type 0
HoldsOfSource (fault.Project of) P = opening.HoldsOfFile P (opening_faults.refusal_of of).location
HoldsOfSource (fault.Silence name) P = P (string_bytes name)
HoldsOfSource _ P = ⊥

-- a call that only reads sources: 22 and 52 tell that their device failed, at the file that is named
abbrev pub ReadsSources : {S X : Type 0} → source.Ghosts S → S → S → Result X Fault → Type 0
ReadsSources shelf old new result = OnlyReads shelf old new result IsSource HoldsOfSource

-- 62: the device of the output failed
abbrev pub IsOutput : Fault → Type 0
IsOutput fault = (refusal_of fault).number ≡ 62

-- this holds of the name of the output whose device failed
abbrev pub HoldsOfOutput : Fault → (List ℕ → Type 0) → Type 0
HoldsOfOutput fault P = opening.HoldsOfFile P (refusal_of fault).location

-- What opening a list answers: the project that its text spells, which is accepted over the files, and all its notices;
-- or the first fault, which comes before anything is written. The sources are only read.
pub record OpensList {S : Type 0} (shelf : source.Ghosts S) (list : List ℕ) (old new : S) (result : Result Opened Fault)
    : Type 0 where
  pub accepted : IsTrue (shelf.honest old)
      → IfOk result (λ opened. IsAccepted list (shelf.stored old) opened.checked.project opened.checked.bound)
  pub spelt : IfOk result (λ opened. text_value list ≡ Ok opened.checked.project)
  pub spelled : IfOk result (λ opened. Spells list opened.checked.project)
  pub notices : IfOk result
      (λ opened. opened.notices.items ≡ all_notices opened.checked.project opened.checked.bound)
  pub refusals : IsTrue (shelf.honest old) → Answers refusal_of result (project_fault list (shelf.stored old))
  pub bad_text : RefusesBadText list result
  pub own : IfErr result (IsOfProject list)
  pub early : IfErr result (λ fault. (refusal_of fault).late ≡ false)
  pub in_turn : IsTrue (shelf.honest old) → IfErr result (IsFirst list (shelf.stored old))
  pub turn : IfErr result (λ fault. turn_of (refusal_of fault) ≤ 3)
  pub no_output : IfErr result (λ fault. ¬ IsOutput fault)
  pub only_reads : ReadsSources shelf old new result

-- The list is accepted, and its rendering is there: that of the exact sums, rounded and clipped, and it reads back so.
-- All its notices are given.
pub record IsRenderedWith (text : List ℕ) (values : OptionValues) (sources written : Files) (given : List Notice)
    : Type 0 where
  pub project : ListProject
  pub binding : Binding
  pub spelled : Spells text project
  pub accepted : IsAccepted text sources project binding
  pub file : rendering.IsRendered project binding values sources (written (codes "render.wav"))
  pub notices : given ≡ all_notices project binding

abbrev pub IsRendered : List ℕ → OptionValues → Files → Files → Rendered → Type 0
IsRendered text values sources written told = IsRenderedWith text values sources written told.notices.items

-- so many frames and channels are those of the list's range
pub record Reports (text : List ℕ) (values : OptionValues) (told : Rendered) : Type 0 where
  pub project : ListProject
  pub spelled : Spells text project
  pub range : rendering.HasRange (record { frames = told.frames; channels = told.channels }) (range_of project values)

-- the first fault of rendering a list over these files
abbrev pub range_refusal : OptionValues → Result ListProject Refusal → Option Refusal
range_refusal values (Err refusal) = None
range_refusal values (Ok project) = rendering.render_fault project values

abbrev pub render_refusal : List ℕ → OptionValues → Files → Option Refusal
render_refusal text values files = first_fault (project_fault text files) (range_refusal values (text_value text))

-- The list is accepted, the media of what passes leave of it are written and the list over them, with the report that is
-- asked for, and no other file has changed.
pub record IsConsolidated (leave : Leaving) (text : List ℕ) (handle : ℕ) (asked : Option AskedReport)
    (sources old new : Files) (told : Written) : Type 0 where
  pub project : ListProject
  pub binding : Binding
  pub spelled : Spells text project
  pub accepted : IsAccepted text sources project binding
  pub written : consolidation.IsConsolidated leave project binding handle asked sources old new
      (record { media = told.media; entries = told.entries; sizes = told.sizes })
  pub notices : told.notices.items ≡ all_notices project binding

-- a list that isn't accepted is refused by its first fault
abbrev pub RefusesBadList : {X : Type 0} → List ℕ → Files → Result X Fault → Type 0
RefusesBadList text files result =
    (refusal : Refusal) → project_fault text files ≡ Some refusal → IsRefusedBy refusal result

-- a list that is accepted, by what is made of it
abbrev pub RefusesByWork : {X : Type 0} → Leaving → List ℕ → ℕ → Files → Result X Fault → Type 0
RefusesByWork leave text handle files result = (project : ListProject) (binding : Binding) (work : Work)
    → IsAccepted text files project binding → IsWorkOf leave project binding handle files work
    → Answers refusal_of result (work_fault work)

module _ {S B : Type 0} (shelf : source.Ghosts S) (bench : output.Ghosts B) where
  -- The sources are as they were, the outputs too before the first write. No count of failures falls, a device's fault
  -- has raised its device's count and names its file, and a refusal before the first write that tells none left both.
  pub record KeepsStores {X : Type 0} (shelf_old shelf_new : S) (bench_old bench_new : B)
      (result : Result X Fault) : Type 0 where
    pub early : IfErr result (λ fault. (refusal_of fault).late ≡ false
        → IsUntouched bench.stored bench.may_leave bench.moment bench.left_since bench_old bench_new)
    pub sources : shelf.stored shelf_new ≡ shelf.stored shelf_old
    pub honest_shelf : shelf.honest shelf_new ≡ shelf.honest shelf_old
    pub honest_bench : bench.honest bench_new ≡ bench.honest bench_old
    pub later_at_source : shelf.failures shelf_old ≤ shelf.failures shelf_new
    pub later_at_output : bench.failures bench_old ≤ bench.failures bench_new
    pub cause_at_source : IfErr result (λ fault. IsSource fault → Rises (shelf.failures shelf_old) (shelf.failures
        shelf_new))
    pub cause_of_62 : IfErr result (λ fault. IsOutput fault → Rises (bench.failures bench_old) (bench.failures
        bench_new))
    pub quiet_source : IfErr result (λ fault. (refusal_of fault).late ≡ false → ¬ IsSource fault
        → shelf.failures shelf_new ≡ shelf.failures shelf_old)
    pub quiet_output : IfErr result (λ fault. (refusal_of fault).late ≡ false → ¬ IsOutput fault
        → bench.failures bench_new ≡ bench.failures bench_old)
    pub failed_source : IfErr result (λ fault. IsSource fault → HoldsOfSource fault (shelf.failed_at shelf_new))
    pub failed_output : IfErr result (λ fault. IsOutput fault → HoldsOfOutput fault (bench.failed_at bench_new))

  -- What a call answers of the rendering of a list, and what it leaves. `IsFinished` says of what it reports that all is
  -- done; `began` is what has to hold for that, `started` for what a crash leaves, and `known` for its refusals.
  pub record IsAnswer {X : Type 0} (IsFinished Has : X → Type 0) (Says : X → Progress → Type 0) (list : List ℕ)
      (values : OptionValues) (began started known : Type 0) (due : Option Refusal) (Own : List ℕ → Fault → Type 0)
      (Came : Result Progress ExecutionFault → Type 0) (shelf_old shelf_new : S) (bench_old bench_new : B)
      (result : Result X Fault) : Type 0 where
    pub rendered : IsTrue (shelf.honest shelf_old) → IsTrue (bench.honest bench_old) → began
        → IfOk result (λ told. IsFinished told → Has told)
    pub durable : IsTrue (bench.honest bench_old) → IfOk result (λ told. IsFinished told
        → AreBothDurable (bench.stored bench_new) (bench.may_leave bench_new))
    pub all_marked : IsTrue (shelf.honest shelf_old) → IsTrue (bench.honest bench_old) → began
        → IfOk result (λ told. IsFinished told → HasAllMarks list values (bench.stored bench_new marks_name))
    pub any_moment : IsTrue (shelf.honest shelf_old) → IsTrue (bench.honest bench_old) → started
        → LeavesOnly bench.moment bench.left_since bench_old bench_new (IsLeftOf list values (shelf.stored shelf_old))
    pub left : IsTrue (shelf.honest shelf_old) → IsTrue (bench.honest bench_old) → started
        → IsLeftByRendering list values (shelf.stored shelf_old) (bench.may_leave bench_new)
    pub outcome : IsTrue (shelf.honest shelf_old) → IsTrue (bench.honest bench_old) → began → HasBegun result
        → (ended : Result Progress ExecutionFault) × AnswersAs rendering_fault Says result ended × Came ended
    pub refusals : IsTrue (shelf.honest shelf_old) → known → Answers refusal_of result due
    pub bad_text : RefusesBadText list result
    pub own : IfErr result (Own list)
    pub in_turn : IsTrue (shelf.honest shelf_old) → IfErr result (IsFirst list (shelf.stored shelf_old))
    pub named : IsTrue (bench.honest bench_old) → (n : List ℕ) → IsOther n
        → bench.stored bench_new n ≡ bench.stored bench_old n
    pub stores : KeepsStores shelf_old shelf_new bench_old bench_new result

  -- the list was rendered over these stores in jobs of this length, with this outcome
  pub record IsRendering (jobs : JobLength) (list : List ℕ) (values : OptionValues) (shelf_old shelf_new : S)
      (bench_old bench_new : B) (result : Result Rendered Fault) : Type 0 where
    pub answer : IsAnswer (λ _. ⊤) (IsRendered list values (shelf.stored shelf_old) (bench.stored bench_new))
        (λ _ progress. progress.finished ≡ true) list values ⊤ (NoneStarted (bench.may_leave bench_old)) ⊤
        (render_refusal list values (shelf.stored shelf_old)) IsOfRendering
        (RendersList jobs in_rounds list values (read_view shelf shelf_old) (read_view shelf shelf_new)
        (output_view bench bench_old) (output_view bench bench_new)) shelf_old shelf_new bench_old bench_new result
    pub report : IfOk result (Reports list values)

  -- What a call answers of the consolidation of a list, and what it leaves, however far it came.
  pub record IsMediaAnswer {X : Type 0} (Says : X → Progress → Type 0) (Own : List ℕ → Fault → Type 0)
      (leave : Leaving) (list : List ℕ) (handle : ℕ) (asked : Option AskedReport) (events : ℕ → List BoardEvent)
      (shelf_old shelf_new : S) (bench_old bench_new : B) (result : Result X Fault) : Type 0 where
    pub refusals : IsTrue (shelf.honest shelf_old) → RefusesByWork leave list handle (shelf.stored shelf_old) result
    pub bad_list : IsTrue (shelf.honest shelf_old) → RefusesBadList list (shelf.stored shelf_old) result
    pub bad_text : RefusesBadText list result
    pub own : IfErr result (Own list)
    pub in_turn : IsTrue (shelf.honest shelf_old) → IfErr result (IsFirst list (shelf.stored shelf_old))
    pub named : IsTrue (bench.honest bench_old) → (n : List ℕ) → IsElsewhere (is_some asked) 32767 n
        → bench.stored bench_new n ≡ bench.stored bench_old n
    pub outcome : IsTrue (shelf.honest shelf_old) → IsTrue (bench.honest bench_old) → HasBegun result
        → ConsolidatesList leave list handle asked events (λ fault_for. AnswersAs fault_for Says result)
        (read_view shelf shelf_old) (read_view shelf shelf_new) (output_view bench bench_old)
        (output_view bench bench_new)
    pub stores : KeepsStores shelf_old shelf_new bench_old bench_new result

  -- the list was consolidated over these stores by what passes leave of it, with the report that is asked for,
  -- with this outcome
  pub record IsConsolidation (leave : Leaving) (list : List ℕ) (handle : ℕ) (asked : Option AskedReport)
      (shelf_old shelf_new : S) (bench_old bench_new : B) (result : Result Written Fault) : Type 0 where
    pub answer : IsMediaAnswer (λ _ progress. progress.finished ≡ true) (IsOfConsolidation (is_some asked)) leave list
        handle asked (λ count. rounds (3 * count)) shelf_old shelf_new bench_old bench_new result
    pub same_sound : IsTrue (shelf.honest shelf_old) → IsTrue (bench.honest bench_old)
        → OnOk result (SoundsTheSame list (shelf.stored shelf_old) (bench.stored bench_new))
    pub written : IsTrue (shelf.honest shelf_old) → IsTrue (bench.honest bench_old)
        → IfOk result (IsConsolidated leave list handle asked (shelf.stored shelf_old) (bench.stored bench_old)
        (bench.stored bench_new))
    pub durable : IsTrue (bench.honest bench_old)
        → IfOk result (λ told. AreDurable (is_some asked) told.media (bench.stored bench_new) (bench.may_leave
        bench_new))
    pub list_last : IsTrue (bench.honest bench_old) → IfErr result (λ told. told ≢ fault.Output file.List
        → bench.stored bench_new (codes "consolidated.adl") ≡ bench.stored bench_old (codes "consolidated.adl"))
    -- the last file before the list
    pub report_last : IsTrue (bench.honest bench_old) → IfErr result (λ told. told ≢ fault.Output file.List
        → told ≢ fault.Output file.Report
        → bench.stored bench_new (codes "consolidated.json") ≡ bench.stored bench_old (codes "consolidated.json"))

-- the list was checked over these sources, with this outcome
pub record IsChecking {S : Type 0} (shelf : source.Ghosts S) (list : List ℕ) (old new : S)
    (result : Result Accepted Fault) : Type 0 where
  pub refusals : IsTrue (shelf.honest old) → Answers refusal_of result (project_fault list (shelf.stored old))
  pub report : IsTrue (shelf.honest old) → IfOk result (opening.Reports list (shelf.stored old))
  pub bad_text : RefusesBadText list result
  pub own : IfErr result (IsOfProject list)
  pub in_turn : IsTrue (shelf.honest old) → IfErr result (IsFirst list (shelf.stored old))
  pub sources : shelf.stored new ≡ shelf.stored old
  pub honest_shelf : shelf.honest new ≡ shelf.honest old
  pub cause_at_source : HasCause (shelf.failures old) (shelf.failures new) (IfErr result (λ fault. ¬ IsSource fault))
      (IsErrAnd result IsSource)
  pub failed_source : IfErr result (λ fault. IsSource fault → HoldsOfSource fault (shelf.failed_at new))
