-- What a consolidation makes of a project, and of its list, by how its pieces are handed out.
use Rattle.std.specs.Prelude.{◌≡◌, ◌≢◌, ℕ, IsTrue, IfErr, IfOk, Option, List, Result, codes, is_some}
use Rattle.devices.specs.declared.source.Shelf as source
use Rattle.devices.specs.declared.bench.Bench as output
use Rattle.devices.specs.Views.{output_view}
use Rattle.work_terms.specs.Disk.{Files}
use Rattle.work_terms.specs.Refusals.{Answers}
use Rattle.adlread.specs.Spells.{Spells}
use Rattle.list_terms.specs.Binding.{Binding}
use Rattle.list_terms.specs.Heard.{IsAccepted}
use Rattle.list_terms.specs.Project.{ListProject}
use Rattle.list_terms.specs.Steps.{ok_map}
use Rattle.passes.specs.Left.{Leaving}
use Rattle.provenance.specs.Asked.{AskedReport}
use Rattle.consolidation.specs.Consolidated.{AreDurable, IsConsolidated, IsElsewhere, IsWorkOf, Work, work_fault}
use Rattle.consolidation.specs.Work.{SoundsTheSame}
use Rattle.opening.specs.Commands.{all_notices}
use Rattle.consolidate.specs.Approaches.{AreRounds, IsFinishedBy, SaysBy, are_events, events_by}
use Rattle.consolidate.specs.Commands.{IsMediaAnswer, KeepsStores}
use Rattle.consolidate.specs.Fault.{refusal_of}
use Rattle.consolidate.specs.MediaOutcome.{ConsolidatesMedia}
use Rattle.consolidate.specs.Outcomes.{AnswersAs, HasBegun, IsAllDone, read_view}
use Rattle.consolidate.specs.Own.{IsOfMedia}
use Rattle.consolidate.specs.RenderWorks.{FailsInTurn}
use Rattle.consolidate.specs.Schedules.{BeforeList}
use Rattle.consolidate.specs.declared.copy_call.Copied.{Copied}
use Rattle.consolidate.specs.declared.copy_call.CopiedList.{CopiedList}
use Rattle.consolidate.specs.declared.fault.Fault.{Fault}
use Rattle.consolidate.specs.declared.fault.Fault.TheVariants as fault
use Rattle.consolidate.specs.declared.fault.OutputFile.TheVariants as file
use Rattle.consolidate.specs.declared.request.HandingOut.{HandingOut}

-- it failed, but neither at the list nor at the report
abbrev pub BeforeReport : {X : Type 0} → Result X Fault → Type 0 → Type 0
BeforeReport result P = IfErr result (λ failure. failure ≢ fault.Output file.List → failure ≢ fault.Output file.Report →
    P)

-- The list is accepted, the media of what passes leave of it are written and the list over them, which sounds as it
-- does. All its notices are given.
pub record HasCopied (leave : Leaving) (text : List ℕ) (handle : ℕ) (asked : Option AskedReport) (sources old new :
    Files)
    (told : CopiedList) : Type 0 where
  pub project : ListProject
  pub binding : Binding
  pub spelled : Spells text project
  pub accepted : IsAccepted text sources project binding
  pub written : IsConsolidated leave project binding handle asked sources old new told.copied.written
  pub same_sound : SoundsTheSame text sources new
  pub notices : told.notices.items ≡ all_notices project binding

module _ {S B : Type 0} (shelf : source.Ghosts S) (bench : output.Ghosts B) (handing : HandingOut) (leave : Leaving)
  where
    -- What is made of a project that was opened before, however far it came. By rounds all pieces are done.
    pub record CopiesProject (project : ListProject) (binding : Binding) (handle : ℕ) (asked : Option AskedReport)
        (shelf_old shelf_new : S) (bench_old bench_new : B) (result : Result Copied Fault) : Type 0 where
      pub refusals : IsTrue (shelf.honest shelf_old) → (work : Work)
          → IsWorkOf leave project binding handle (shelf.stored shelf_old) work
          → Answers refusal_of result (work_fault work)
      pub own : (text : List ℕ) → IfErr result (IsOfMedia (is_some asked) (are_events handing) text)
      pub in_turn : FailsInTurn result
      pub named : IsTrue (bench.honest bench_old) → (n : List ℕ) → IsElsewhere (is_some asked) 32767 n
          → bench.stored bench_new n ≡ bench.stored bench_old n
      pub outcome : IsTrue (shelf.honest shelf_old) → IsTrue (bench.honest bench_old) → (text : List ℕ)
          → IsAccepted text (shelf.stored shelf_old) project binding → HasBegun result
          → ConsolidatesMedia leave project binding handle asked (events_by handing)
          (λ fault_for. AnswersAs fault_for (λ (copied : Copied). SaysBy handing copied.progress) result)
          (read_view shelf shelf_old) (read_view shelf shelf_new) (output_view bench bench_old)
          (output_view bench bench_new)
      pub stores : KeepsStores shelf bench shelf_old shelf_new bench_old bench_new result
      pub all_done : AreRounds handing → IfOk result (λ copied. IsAllDone copied.progress)
      pub finished : IsTrue (shelf.honest shelf_old) → IsTrue (bench.honest bench_old) → (text : List ℕ)
          → IsAccepted text (shelf.stored shelf_old) project binding → IfOk result (λ copied. IsAllDone copied.progress
          → IsConsolidated leave project binding handle asked (shelf.stored shelf_old) (bench.stored bench_old)
          (bench.stored bench_new) copied.written
          × SoundsTheSame text (shelf.stored shelf_old) (bench.stored bench_new))
      pub durable : IsTrue (bench.honest bench_old) → IfOk result (λ copied. IsAllDone copied.progress
          → AreDurable (is_some asked) copied.written.media (bench.stored bench_new) (bench.may_leave bench_new))
      pub list_last : IsTrue (bench.honest bench_old) → BeforeList (ok_map (λ copied. copied.progress) result)
          (bench.stored bench_new (codes "consolidated.adl") ≡ bench.stored bench_old (codes "consolidated.adl"))
      pub report_last : IsTrue (bench.honest bench_old) → BeforeReport result
          (bench.stored bench_new (codes "consolidated.json") ≡ bench.stored bench_old (codes "consolidated.json"))

    -- and of its list
    pub record CopiesList (list : List ℕ) (handle : ℕ) (asked : Option AskedReport) (shelf_old shelf_new : S)
        (bench_old bench_new : B) (result : Result CopiedList Fault) : Type 0 where
      pub answer : IsMediaAnswer shelf bench (λ (told : CopiedList). SaysBy handing told.copied.progress)
          (IsOfMedia (is_some asked) (are_events handing)) leave list handle asked (events_by handing) shelf_old
          shelf_new
          bench_old bench_new result
      pub finished : IsTrue (shelf.honest shelf_old) → IsTrue (bench.honest bench_old) → IfOk result (λ told.
          IsFinishedBy handing told.copied.progress → HasCopied leave list handle asked (shelf.stored shelf_old)
          (bench.stored bench_old) (bench.stored bench_new) told)
      pub durable : IsTrue (bench.honest bench_old) → IfOk result (λ told. IsFinishedBy handing told.copied.progress
          → AreDurable (is_some asked) told.copied.written.media (bench.stored bench_new) (bench.may_leave bench_new))
      pub list_last : IsTrue (bench.honest bench_old) → BeforeList (ok_map (λ told. told.copied.progress) result)
          (bench.stored bench_new (codes "consolidated.adl") ≡ bench.stored bench_old (codes "consolidated.adl"))
      pub report_last : IsTrue (bench.honest bench_old) → BeforeReport result
          (bench.stored bench_new (codes "consolidated.json") ≡ bench.stored bench_old (codes "consolidated.json"))
