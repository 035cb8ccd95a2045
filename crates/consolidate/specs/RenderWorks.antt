-- What the calls inside `render`, `resume` and the schedule of a rendering leave.
use Rattle.std.specs.Prelude.{◌≡◌, ◌<◌, ℕ, ⊤, Bool, false, true, IsTrue, IfErr, IfOk, IfSome, IsErr, Option, None, Some, List, Result, Ok, length, slice_index_or}
use Rattle.std.specs.List.{All}
use Rattle.clipping.specs.declared.tally.Clips.{Clips}
use Rattle.devices.specs.declared.source.Shelf as source
use Rattle.devices.specs.declared.bench.Bench as output
use Rattle.devices.specs.Views.{output_view, source_view}
use Rattle.execution.specs.Alone.{AtRest}
use Rattle.execution.specs.Boards.{ReportsOf, board_with}
use Rattle.execution.specs.Ends.{WantsNoPlace, WantsNoRoom}
use Rattle.execution.specs.Filled.{AreFilled}
use Rattle.execution.specs.Marking.{AreLeftBy, IsRunning, Marking, NoneStartedBy, done_of}
use Rattle.execution.specs.Noted.{KeepsNotes}
use Rattle.execution.specs.Outcome.{Executed, Resumed}
use Rattle.execution.specs.View.{DoesAll, ExecutionView, hands_at, run_at}
use Rattle.execution.specs.declared.fault.ExecutionFault.{ExecutionFault}
use Rattle.job_terms.specs.Workers.{Nothing, jobs_over}
use Rattle.job_terms.specs.declared.BoardEvent.{BoardEvent}
use Rattle.job_terms.specs.declared.Progress.{Progress}
use Rattle.list_terms.specs.Steps.{ok_map}
use Rattle.markfile.specs.Fault.{ReadsMarks}
use Rattle.markfile.specs.Format.{marks_name}
use Rattle.markfile.specs.Opened.{Settles}
use Rattle.markfile.specs.Started.{NoneStarted}
use Rattle.markfile.specs.declared.fault.MarkFault.{MarkFault}
use Rattle.markfile.specs.declared.run.RunId.{RunId}
use Rattle.rendering.specs.Clipping.{ClipsUnmarked}
use Rattle.rendering.specs.Cut.{IsUniform}
use Rattle.rendering.specs.Maker.{HasClips, HasSoundJobs, IsMarkedWork, IsReopened, marks_of, plan_of}
use Rattle.rendering.specs.Marked.{HoldsMarked, IsFoundAs, IsLeftByRun, IsOther, IsResumable, MarkedWork, full_marks}
use Rattle.rendering.specs.Work.{AreCutBy, done_before, heard, work_of}
use Rattle.rendering.specs.declared.job_length.JobLength.{JobLength}
use Rattle.workboard.specs.Indexed.{IsOrder}
use Rattle.work_terms.specs.Disk.{Files, LeavesOnly}
use Rattle.consolidate.specs.Approaches.{AreRounds, IfAgain, IsOwnOf, StartsBy, events_by, found_by, handing_of, is_again}
use Rattle.consolidate.specs.Commands.{KeepsStores}
use Rattle.consolidate.specs.Marks.{AreBothDurable}
use Rattle.consolidate.specs.Outcomes.{AnswersAs, HasBegun, IsAllDone, read_view}
use Rattle.consolidate.specs.Own.{IsFirst}
use Rattle.consolidate.specs.RenderOutcome.{IsRenderedWork, IsResumedWork, in_rounds, rendering_fault}
use Rattle.consolidate.specs.declared.fault.Fault.{Fault}
use Rattle.consolidate.specs.declared.fault.Fault.TheVariants as fault
use Rattle.consolidate.specs.declared.marks.Worked.{Worked}
use Rattle.consolidate.specs.declared.request.Approach.{Approach}
use Rattle.consolidate.specs.declared.request.HandingOut.{HandingOut}
use Rattle.consolidate.specs.declared.request.Planned.{Planned}

-- no memory was found before the first write
abbrev pub IsUnbegun : Fault → Type 0
IsUnbegun fault.BoardMemory = ⊤
IsUnbegun fault.RenderMemory = ⊤
IsUnbegun _ = ⊥

-- its jobs are all its blocks, and sound; where no marks were found none of them is done
pub record IsSoundWork (found : Option ℕ) (marked : MarkedWork) : Type 0 where
  pub whole : IsMarkedWork marked
  pub jobs : HasSoundJobs marked
  pub fresh : found ≡ None → (k : ℕ) → done_before marked.work k ≡ false

-- the jobs are done whose blocks were marked, the others are open, in an order of them all, and no worker holds anything
pub record IsTakenUp (marked : MarkedWork) (run : ExecutionView MarkedWork) : Type 0 where
  pub work : run.work ≡ marked
  pub order : List ℕ
  pub is_order : IsOrder (work_of marked.work).count order
  pub done : List Bool
  pub count : length done ≡ (work_of marked.work).count
  pub each : (k : ℕ) → k < length done → slice_index_or done k false ≡ done_before marked.work k
  pub board : run.board ≡ board_with done order
  pub agrees : (k : ℕ) → k < length done → done_of run.board k ≡ slice_index_or done k false
  pub idle : (w : ℕ) → hands_at run w ≡ Nothing
  pub rest : AtRest run.board

-- this is clipped of the blocks of a work that aren't marked
abbrev pub ClipsWork : MarkedWork → Files → Clips → Type 0
ClipsWork marked sources clips = (marks : List Bool) → All (IsUniform marks) marked.work.stretches
    → ClipsUnmarked marks marked.work.planned.range (heard marked.work.planned marked.work.sounds sources) clips

-- the blocks that were marked stand in the rendered file, and the marks are set for just these
abbrev pub StandsAsMarked : MarkedWork → (sources stored : Files) → (Files → Type 0) → Type 0
StandsAsMarked marked sources stored outcomes = (done : ℕ → Bool)
    → ((k : ℕ) → k < (work_of marked.work).count → done k ≡ done_before marked.work k)
    → IsRunning (marks_of marked sources) done stored outcomes
    × AreFilled (jobs_over (plan_of marked).jobs sources) ((plan_of marked).whole sources) done stored

module _ {S B : Type 0} (shelf : source.Ghosts S) (bench : output.Ghosts B) where
  -- What a call leaves of an output and its marks, where it reports that all is done and where it fails. `began` is what
  -- has to hold for its result, and `started` for what a crash leaves.
  pub record DoesWork (m : Marking) (run : RunId) (began started : Type 0)
      (Came : Result Progress ExecutionFault → Type 0) (shelf_old shelf_new : S) (bench_old bench_new : B)
      (result : Result Progress Fault) : Type 0 where
    pub finished : IsTrue (shelf.honest shelf_old) → IsTrue (bench.honest bench_old) → began
        → IfOk result (λ told. IsAllDone told → bench.stored bench_new m.name ≡ Some m.whole)
    pub marked : IsTrue (shelf.honest shelf_old) → IsTrue (bench.honest bench_old) → began
        → IfOk result (λ told. IsAllDone told → bench.stored bench_new m.marks ≡ Some (full_marks run))
    pub durable : IsTrue (bench.honest bench_old) → IfOk result (λ told. IsAllDone told
        → AreBothDurable (bench.stored bench_new) (bench.may_leave bench_new))
    pub left : IsTrue (shelf.honest shelf_old) → IsTrue (bench.honest bench_old) → started
        → IsLeftByRun m (bench.may_leave bench_new)
    pub any_moment : IsTrue (shelf.honest shelf_old) → IsTrue (bench.honest bench_old) → started
        → LeavesOnly bench.moment bench.left_since bench_old bench_new (IsResumable m)
    pub named : IsTrue (bench.honest bench_old) → (n : List ℕ) → IsOther n
        → bench.stored bench_new n ≡ bench.stored bench_old n
    pub outcome : IsTrue (shelf.honest shelf_old) → IsTrue (bench.honest bench_old) → began → HasBegun result
        → (ended : Result Progress ExecutionFault) × AnswersAs rendering_fault (λ told progress. told ≡ progress) result ended
        × Came ended
    pub stores : KeepsStores shelf bench shelf_old shelf_new bench_old bench_new result

  -- from a work of which nothing is begun
  abbrev pub BeginsWork : (ℕ → List BoardEvent) → MarkedWork → S → S → B → B → Result Progress Fault → Type 0
  BeginsWork events marked shelf_old shelf_new bench_old bench_new result =
      DoesWork (marks_of marked (shelf.stored shelf_old)) marked.run ⊤ (NoneStarted (bench.may_leave bench_old))
      (IsRenderedWork events marked (read_view shelf shelf_old) (read_view shelf shelf_new)
      (output_view bench bench_old) (output_view bench bench_new))
      shelf_old shelf_new bench_old bench_new result

  -- from a work some of whose blocks were marked
  abbrev pub GoesOnWithWork : MarkedWork → S → S → B → B → Result Progress Fault → Type 0
  GoesOnWithWork marked shelf_old shelf_new bench_old bench_new result =
      DoesWork (marks_of marked (shelf.stored shelf_old)) marked.run
      (StandsAsMarked marked (shelf.stored shelf_old) (bench.stored bench_old) (bench.may_leave bench_old))
      (StandsAsMarked marked (shelf.stored shelf_old) (bench.stored bench_old) (bench.may_leave bench_old))
      (IsResumedWork marked (read_view shelf shelf_old) (read_view shelf shelf_new)
      (output_view bench bench_old) (output_view bench bench_new))
      shelf_old shelf_new bench_old bench_new result

  -- from its marks where so many blocks were found, and else from its beginning
  abbrev pub WorksOn : HandingOut → Option ℕ → MarkedWork → S → S → B → B → Result Progress Fault → Type 0
  WorksOn handing None marked shelf_old shelf_new bench_old bench_new result =
      BeginsWork (events_by handing) marked shelf_old shelf_new bench_old bench_new result
  WorksOn handing (Some found) marked shelf_old shelf_new bench_old bench_new result =
      GoesOnWithWork marked shelf_old shelf_new bench_old bench_new result

  -- at each moment the blocks stand that were marked
  abbrev pub KeepsMarked : MarkedWork → S → B → B → Type 0
  KeepsMarked marked sources bench_old bench_new = IsTrue (shelf.honest sources) → IsTrue (bench.honest bench_old)
      → StandsAsMarked marked (shelf.stored sources) (bench.stored bench_old) (bench.may_leave bench_old)
      → (marks : List ℕ) → bench.stored bench_old marks_name ≡ Some marks
      → LeavesOnly bench.moment bench.left_since bench_old bench_new
      (HoldsMarked (marks_of marked (shelf.stored sources)) marks)

  -- its jobs are done by one call of its execution
  abbrev pub Calls : HandingOut → Option ℕ → ExecutionView MarkedWork → ExecutionView MarkedWork → S → S → B → B
      → Result Progress ExecutionFault → Type 0
  Calls handing None old new shelf_old shelf_new bench_old bench_new result =
      Executed (events_by handing (work_of old.work.work).count)
      (run_at plan_of old (source_view shelf shelf_old) (output_view bench bench_old)) (hands_at old)
      (run_at plan_of new (source_view shelf shelf_new) (output_view bench bench_new)) (shelf_new ≡ shelf_old) result
  Calls handing (Some found) old new shelf_old shelf_new bench_old bench_new result =
      Resumed (in_rounds (work_of old.work.work).count)
      (run_at plan_of old (source_view shelf shelf_old) (output_view bench bench_old)) (hands_at old)
      (run_at plan_of new (source_view shelf shelf_new) (output_view bench bench_new)) result

  -- rounds do all jobs and find the memory that they need; what the work notes of its jobs stays noted
  pub record RunsOn (handing : HandingOut) (found : Option ℕ) (old new : ExecutionView MarkedWork)
      (shelf_old shelf_new : S) (bench_old bench_new : B) (result : Result Progress ExecutionFault) : Type 0 where
    pub called : Calls handing found old new shelf_old shelf_new bench_old bench_new result
    pub notes : IsTrue (shelf.honest shelf_old) → KeepsNotes (λ (first : MarkedWork). old.work.work ≡ first.work)
        (λ (first : MarkedWork). new.work.work ≡ first.work) (HasClips old.work (shelf.stored shelf_old))
        (HasClips new.work (shelf.stored shelf_old)) (done_of old.board) (done_of new.board) (hands_at old)
        (hands_at new)
    pub finished : AreRounds handing → DoesAll old new result
    pub reported : AreRounds handing → IfOk result (ReportsOf new.board)
    pub memory : AreRounds handing → WantsNoPlace result
    pub job_memory : AreRounds handing → WantsNoRoom result

  -- A planned work was done so. By rounds it was done to its end, and this was clipped; what was marked still stands.
  pub record WorksOff (planned : Planned) (shelf_old shelf_new : S) (bench_old bench_new : B)
      (result : Result Worked Fault) : Type 0 where
    pub does : WorksOn (handing_of planned.approach) planned.found planned.work shelf_old shelf_new bench_old bench_new
        (ok_map (λ worked. worked.progress) result)
    pub finished : AreRounds (handing_of planned.approach) → IfOk result (λ worked. IsAllDone worked.progress)
    pub clips : AreRounds (handing_of planned.approach) → IsTrue (shelf.honest shelf_old) → IfOk result (λ worked.
        ClipsWork planned.work (shelf.stored shelf_old) worked.clips)
    pub keeps : IfSome planned.found (λ _. KeepsMarked planned.work shelf_old bench_old bench_new)

-- where blocks were found to be marked, this holds of the jobs that are done
abbrev pub HoldsOfDone : {B : Type 0} → output.Ghosts B → (was x : MarkedWork) → B → Result (Option ℕ) MarkFault
    → (Files → (ℕ → Bool) → Type 0) → Type 0
HoldsOfDone bench was x before result Holds = IsTrue (bench.honest before) → (sources : Files)
    → AreLeftBy (Some (marks_of was sources)) (bench.may_leave before) → (done : ℕ → Bool)
    → ((k : ℕ) → k < (work_of x.work).count → done k ≡ done_before x.work k)
    → IfOk result (λ found. IfSome found (λ _. Holds sources done))

-- The marks of a plan were opened, where it is gone on with: so many blocks are marked, and the others cut anew. Of one
-- that is begun nothing was opened.
pub record OpensMarks {B : Type 0} (bench : output.Ghosts B) (approach : Approach) (jobs : JobLength)
    (was x : MarkedWork) (before now : B) (result : Result (Option ℕ) MarkFault) : Type 0 where
  pub back : IsReopened was x
  pub untouched : Settles bench before now
  pub only_reads : ReadsMarks bench before now result
  pub found_as : IfAgain approach (IsTrue (bench.honest before))
      → IsFoundAs result (found_by approach was.run (bench.stored before))
  pub unchanged : IfOk result (λ found. found ≡ None → x ≡ was)
  pub unstarted : IsTrue (bench.honest before) → (sources : Files) → StartsBy approach (bench.may_leave before) ⊤
      → IfOk result (λ found. found ≡ None → NoneStartedBy (Some (marks_of x sources)) (bench.may_leave now))
  pub running : HoldsOfDone bench was x before result
      (λ sources done. IsRunning (marks_of x sources) done (bench.stored now) (bench.may_leave now))
  pub filled : HoldsOfDone bench was x before result (λ sources done. AreFilled (jobs_over (plan_of x).jobs sources)
      ((plan_of x).whole sources) done (bench.stored now))
  pub cut : IfAgain approach (IsTrue (bench.honest before)) → IfOk result (λ found. IfSome found (λ _. (marked : List
      Bool)
      × (found_by approach was.run (bench.stored before) ≡ Ok (Some marked)) × AreCutBy jobs marked x.work))
  pub again : IsErr result → is_again approach ≡ true

-- whatever the list is, where a call fails no index before the one that is named is at fault
abbrev pub FailsInTurn : {X : Type 0} → Result X Fault → Type 0
FailsInTurn result = (text : List ℕ) (files : Files) → IfErr result (IsFirst text files)

-- and where such a call does its fault is one that it may tell
abbrev pub FailsBy : {X : Type 0} → Approach → Result X Fault → Type 0
FailsBy approach result = (text : List ℕ) → IfErr result (IsOwnOf approach text)
