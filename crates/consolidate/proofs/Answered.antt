-- What a call answers of a list, by what came of its project: which fault it may tell, and which refusal is due.
use Rattle.std.proofs.Common.{◌≡◌, ℕ, List, Ok, true, refl, ◌∙◌, ◌≤◌, Bool, false, Option, None, Some, arith, sym, IfSome, Result, Err, nat_le, nat_lt, length, true≢false, IsTrue, IsOkAnd, is_some, ◌↔◌, ◌≢◌, ◌+◌, ◌-◌, ◌<◌, codes, ap, subst, option_map, get_or}
use Rattle.std.proofs.lemmas.Bool.{false≢true}
use Rattle.std.proofs.lemmas.Bool.Decides.{nat_tests}
use Rattle.std.specs.Prelude.{⊤}
use Rattle.std.specs.List.{range_with_len}
use Rattle.std.proofs.lemmas.List.{length-replicate}
use Rattle.facts.specs.Results.{one_value}
use Rattle.devices.specs.ReadLaws.{read_as}
use Rattle.work_terms.specs.Disk.{Files, LeavesOnly, IsDurable}
use Rattle.work_terms.specs.Refusals.{ComesInTurn, IsDue, Refusal, is_excused, turn_of}
use Rattle.list_terms.specs.Project.{ListProject}
use Rattle.list_terms.specs.Text.{text_value}
use Rattle.list_terms.specs.Binding.{Binding}
use Rattle.list_terms.specs.Accepted.{OptionValues, first_fault, range_of}
use Rattle.list_terms.specs.Heard.{IsAccepted, project_fault, sounds_of}
use Rattle.markfile.specs.declared.fault.MarkFault.{MarkFault}
use Rattle.markfile.specs.declared.fault.MarkFault.TheVariants as marks
use Rattle.markfile.specs.Opened.{opened_of}
use Rattle.markfile.specs.Format.{marks_name}
use Rattle.markfile.specs.Started.{is_started}
use Rattle.opening.specs.Own.{IsOfOpening}
use Rattle.opening.specs.declared.fault.Fault as opened_fault
use Rattle.sound_terms.specs.Render.{Range, rendering_of}
use Rattle.consolidation.specs.Consolidated.{Work, refused_if, work_fault, AreDurable, IsConsolidated, IsElsewhere, IsWorkOf}
use Rattle.rendering.specs.Fault as rendering
use Rattle.rendering.specs.Marked.{IsFoundAs, run_of, HoldsMarked as HoldsMarkedOf, IsLeftByRun, IsResumable}
use Rattle.rendering.specs.Rendering.{render_fault}
use Rattle.rendering.specs.declared.fault.RenderFault.{RenderFault}
use Rattle.rendering.specs.declared.fault.RenderFault.TheVariants.{Intervals}
use Rattle.devices.specs.declared.source.Shelf as source
use Rattle.devices.specs.declared.bench.Bench as output
use Rattle.devices.specs.Views.{output_view, OutputView, SourceView, source_view}
use Rattle.adlread.specs.Spells.{Spells}
use Rattle.job_terms.specs.declared.Progress.{Progress}
use Rattle.execution.specs.declared.fault.ExecutionFault.{ExecutionFault}
use Rattle.passes.specs.Left.{Leaving}
use Rattle.provenance.specs.Asked.{AskedReport}
use Rattle.devices.specs.Frame.{OnlyReads}
use Rattle.devices.specs.ViewLaws.{writes_none}
use Rattle.job_terms.specs.declared.BoardEvent.{BoardEvent}
use Rattle.job_terms.specs.Board.{Board, fresh_job}
use Rattle.job_terms.specs.Workers.{Hand, Nothing, jobs_over}
use Rattle.list_terms.specs.Bound.{binding_of}
use Rattle.list_terms.specs.Renewed.{media_name}
use Rattle.sound_terms.specs.Sounds.{SoundFacts}
use Rattle.passes.specs.declared.fault.PassFault.TheVariants as pass_fault
use Rattle.execution.specs.Boards.{fresh_board}
use Rattle.execution.specs.EventRun.{Snapshot, snapshot_of}
use Rattle.execution.specs.Marking.{done_of}
use Rattle.execution.specs.Outcome.{Executed, HasFailed, IsBefore, IsBounded, IsFresh, Outcome}
use Rattle.execution.specs.OutcomeLaws.{finished_all}
use Rattle.execution.specs.Plan.{AreDurable as AreDurableIn, AreBlank, HoldJobs, HoldLast, IsForeign, IsLast, JobPlan}
use Rattle.execution.specs.declared.fault.ExecutionFault.TheVariants as cause
use Rattle.consolidation.specs.Fault.{FailsAt, IsSource as IsOfSource}
use Rattle.consolidation.specs.Jobs.{work_of}
use Rattle.consolidation.specs.Media.{IsNoMedium}
use Rattle.consolidation.specs.Outputs.{AreNamedOutputs, FitsSources, job_plan, last_count, output_count, whole_output}
use Rattle.consolidation.specs.Planned.{IsPlanOf, MediaPlan}
use Rattle.consolidation.specs.Sizes.{written_of}
use Rattle.consolidation.specs.There.{AreThere}
use Rattle.consolidation.specs.Work.{SoundsTheSame}
use Rattle.consolidation.specs.declared.fault.ConsolidationFault.{ConsolidationFault}
use Rattle.consolidation.specs.declared.fault.ConsolidationFault.TheVariants as plan_fault
use Rattle.consolidation.specs.declared.written.Written.{Written}
use Rattle.opening.specs.Commands.{all_notices}
use Rattle.consolidate.specs.Own.{IsOfMarks, IsOfProject, IsOfMedia, IsFirst}
use Rattle.consolidate.specs.declared.fault.Fault.{Fault}
use Rattle.consolidate.specs.declared.fault.Fault.TheVariants as fault
use Rattle.consolidate.specs.Approaches.{due_by, found_by, is_again, AreRounds, IfAgain, IsFinishedBy, IsOwnOf, SaysBy, StartsBy, are_events, events_by, handing_of}
use Rattle.consolidate.specs.Commands.{range_refusal, render_refusal, OpensList, RefusesByWork, IsOutput, KeepsStores, HoldsOfSource, IsSource}
use Rattle.consolidate.specs.Fault.{refusal_of, refusal_of_marks, NamesOpened}
use Rattle.consolidate.specs.Marks.{fault_in, marks_refusal, HoldsMarked, IsLeftByRendering, IsLeftOf, list_marking}
use Rattle.consolidate.specs.declared.request.Approach.{Approach}
use Rattle.consolidate.specs.declared.request.Approach.TheVariants.{Again, Anew}
use Rattle.consolidate.specs.Clipping.{ClipsList, IsClipping}
use Rattle.consolidate.specs.Copied.{CopiesList, CopiesProject}
use Rattle.consolidate.specs.Listed.{DoesListed, IsLeftListed, KeepsListed, Listed, MakesListed, WorksListed, mix_in, range_in}
use Rattle.consolidate.specs.MadeSound.{AnswersRequest, IsLeftFor, values_for}
use Rattle.consolidate.specs.MediaOutcome.{ConsolidatesList, ConsolidatesMedia, IsNamedOutput, consolidation_fault}
use Rattle.consolidate.specs.Outcomes.{AnswersAs, HasBegun, IsAllDone, read_view}
use Rattle.consolidate.specs.RenderOutcome.{WorksList}
use Rattle.consolidate.specs.declared.choice.Clipping as clipped
use Rattle.consolidate.specs.declared.copy_call.Copied.{Copied}
use Rattle.consolidate.specs.declared.copy_call.CopiedList.{CopiedList}
use Rattle.consolidate.specs.declared.made.MadeList.{MadeList}
use Rattle.consolidate.specs.declared.request.HandingOut.{HandingOut}
use Rattle.consolidate.specs.declared.request.HandingOut.TheVariants.{Events, Rounds}
use Rattle.consolidate.specs.declared.request.RenderRequest.{RenderRequest}
use Rattle.consolidate.specs.declared.fault.OutputFile.TheVariants as file
use Rattle.consolidate.proofs.RenderWorks.{none_due, one_accepted, again_as, for_each, left_by, none_left, starts_as}
use Rattle.consolidate.proofs.Stores.{IsOpened, LeavesNow, idle, opened_before, stopped_early, weaker, IsEnd, by_names, ended_by, not_begun, outcome_as, went_on}

-- of marks that are there it may be any
pub of_marks : (of : MarkFault) → IsOfMarks true of
of_marks marks.Memory = tt
of_marks _ = refl

-- a fault of the project is one of each call
pub own_of : (Own : List ℕ → Fault → Type 0)
    → ((any : List ℕ) (of : opened_fault.Fault) → IsOfOpening any of → Own any (fault.Project of)) → {text : List ℕ}
    (of : Fault) → IsOfProject text of → Own text of
own_of Own opens {text} (fault.Project of) own = opens text of own
own_of Own opens _ own = absurd own

-- nothing of it comes before this turn
abbrev pub IsFrom : ℕ → Option Refusal → Type 0
IsFrom last due = IfSome due (λ d. last ≤ turn_of d)

-- what comes no later than this turn may come in its place
pub in_place : (last : ℕ) (refusal : Refusal) (due : Option Refusal) → turn_of refusal ≤ last → IsFrom last due
    → ComesInTurn refusal due
in_place last refusal None turn late = tt
in_place last refusal (Some due) turn late = omega (arith, turn, late)

-- what may come where the project is opened may come in place of what comes later
pub due_behind : (last : ℕ) (refusal : Refusal) (first later : Option Refusal) → turn_of refusal ≤ last
    → IsFrom last later → IsDue refusal first → IsDue refusal (first_fault first later)
due_behind last refusal (Some due) later turn late is_due = is_due
due_behind last refusal None later turn late is_due = by_excuse (is_excused refusal.number) later refl late is_due where
  by_excuse : (excused : Bool) (later : Option Refusal) → is_excused refusal.number ≡ excused → IsFrom last later
      → IsDue refusal None → IsDue refusal later
  by_excuse true later is late due = rw is (in_place last refusal later turn late)
  by_excuse false later is late due = let none = rw is at due in absurd (cc)

-- ---- 58 of a rendering, 53 and 55 of a consolidation

refused_turn : (faulty : Bool) (number : ℕ) → 53 ≤ number → IsFrom 3 (refused_if faulty number)
refused_turn true number low = grind (arith, nat_tests, low)
refused_turn false number low = tt

range_turn : (values : OptionValues) (text : Result ListProject Refusal) → IsFrom 3 (range_refusal values text)
range_turn values (Err refusal) = tt
range_turn values (Ok project) = let range = range_of project values in
    refused_turn (nat_le range.to range.from) 58 (omega arith)

-- what is due of rendering an accepted list is due of its range
pub range_due : {text : List ℕ} (values : OptionValues) {files : Files} {project : ListProject} {binding : Binding}
    → IsAccepted text files project binding → render_refusal text values files ≡ render_fault project values
range_due values accepted = rw (none_due accepted, accepted.spelt) refl

work_turn : (work : Work) → IsFrom 3 (work_fault work)
work_turn work = first_turn (refused_if (nat_lt 32767 (length work.runs)) 53)
    (refused_turn (nat_lt 32767 (length work.runs)) 53 (omega arith)) where
      first_turn : (first : Option Refusal) → IsFrom 3 first
          → IsFrom 3 (first_fault first (refused_if (nat_lt 32767 (length work.groups)) 55))
      first_turn None turn = refused_turn (nat_lt 32767 (length work.groups)) 55 (omega arith)
      first_turn (Some due) turn = turn

-- a refusal of the opening is due of a consolidation
pub opening_due_of_work : (refusal : Refusal) {text : List ℕ} {files : Files} {project : ListProject}
    {binding : Binding} (work : Work) → turn_of refusal ≤ 3 → IsAccepted text files project binding
    → IsDue refusal (project_fault text files) → IsDue refusal (work_fault work)
opening_due_of_work refusal work turn accepted due =
    due_behind 3 refusal None (work_fault work) turn (work_turn work) (rw (none_due accepted) at due)

-- ---- 67 to 69, and 62, of marks

-- marks come behind all else
marks_turn : (last : ℕ) → last ≤ 10 → (due : Result (Option (List Bool)) MarkFault) → IsFrom last (fault_in due)
marks_turn last low (Ok found) = tt
marks_turn last low (Err marks.OtherRun) = omega (arith, low)
marks_turn last low (Err _) = omega (arith, low)

marks_late : (text : List ℕ) (values : OptionValues) (outputs : Files) (read : Result ListProject Refusal)
    → IsFrom 3 (marks_refusal text values outputs read)
marks_late text values outputs (Err refusal) = tt
marks_late text values outputs (Ok project) =
    marks_turn 3 (omega arith) (opened_of (run_of text (range_of project values)) outputs)

-- a refusal of the opening is due of a rendering, and of going on with it
rendering_due : (refusal : Refusal) (text : List ℕ) (values : OptionValues) (files : Files) → turn_of refusal ≤ 3
    → IsDue refusal (project_fault text files) → IsDue refusal (render_refusal text values files)
rendering_due refusal text values files turn due = due_behind 3 refusal (project_fault text files)
    (range_refusal values (text_value text)) turn (range_turn values (text_value text)) due

pub opening_due : (approach : Approach) (refusal : Refusal) (text : List ℕ) (values : OptionValues) (files outputs :
    Files) → turn_of refusal ≤ 3 → IsDue refusal (project_fault text files) → IsDue refusal (due_by approach
    (render_refusal text values files) (marks_refusal text values outputs (text_value text)))
opening_due (Anew handing) refusal text values files outputs turn due = rendering_due refusal text values files turn due
opening_due Again refusal text values files outputs turn due = due_behind 3 refusal (render_refusal text values files)
    (marks_refusal text values outputs (text_value text)) turn (marks_late text values outputs (text_value text))
    (rendering_due refusal text values files turn due)

-- of an accepted list that of its range, and then of its marks
pub accepted_due : (approach : Approach) {text : List ℕ} (values : OptionValues) {files : Files} (outputs : Files)
    {project : ListProject} {binding : Binding} → IsAccepted text files project binding
    → due_by approach (render_refusal text values files) (marks_refusal text values outputs (text_value text))
    ≡ due_by approach (render_fault project values)
    (fault_in (found_by approach (run_of text (range_of project values)) outputs))
accepted_due (Anew handing) values outputs accepted = range_due values accepted
accepted_due Again values outputs accepted = rw (range_due values accepted, accepted.spelt)

plan_turn : (of : RenderFault) → turn_of (rendering.refusal_of of) ≤ 10
plan_turn Intervals = omega arith
plan_turn _ = omega arith

-- a plan is refused before marks are opened
pub plan_due : (approach : Approach) (of : RenderFault) (told : Fault) (first : Option Refusal)
    (due : Result (Option (List Bool)) MarkFault) → refusal_of told ≡ rendering.refusal_of of
    → IsDue (rendering.refusal_of of) first → IsDue (refusal_of told) (due_by approach first (fault_in due))
plan_due (Anew handing) of told first due same is = rw same is
plan_due Again of told first due same is = rw same (due_behind 10 (rendering.refusal_of of) first (fault_in due)
    (plan_turn of) (marks_turn 10 (omega arith) due) is)

module _ {first : Option Refusal} (none : first ≡ None) where
  -- nothing is due of marks that are found
  pub found_due : (approach : Approach) (found : Option ℕ) (due : Result (Option (List Bool)) MarkFault)
      → IsFoundAs (Ok found) due → due_by approach first (fault_in due) ≡ None
  found_due (Anew handing) found due is = none
  found_due Again None due is = rw (none, is)
  found_due Again (Some count) due is = rw (none, is.1)

  pub always_due : (approach : Approach) (found : Option ℕ) (due : Result (Option (List Bool)) MarkFault)
      → IsFoundAs (Ok found) due → (of : Fault) → IsDue (refusal_of of) None
      → IsDue (refusal_of of) (due_by approach first (fault_in due))
  always_due approach found due is of may_come = rw (found_due approach found due is) may_come

  -- what the marks are refused for is due
  pub open_due : (approach : Approach) (of : MarkFault) (due : Result (Option (List Bool)) MarkFault)
      → is_again approach ≡ true → IsFoundAs (Err of) due
      → IsDue (refusal_of_marks of) (due_by approach first (fault_in due))
  open_due (Anew handing) of due again is = absurd (false≢true again)
  open_due Again marks.OtherRun due again is = rw (none, is) refl
  open_due Again marks.BadMarks due again is = rw (none, is) refl
  open_due Again of due again is = rw none
      (in_place 10 (refusal_of_marks of) (fault_in due) (omega arith) (marks_turn 10 (omega arith) due))

-- ---- of a rendering

-- where all is to be done it is
all_done : (handing : HandingOut) (told : Progress) → (AreRounds handing → IsAllDone told) → IsFinishedBy handing told
    → IsAllDone told
all_done Rounds told rounds done = rounds tt
all_done (Events events) told rounds done = done

says_by : (handing : HandingOut) (told : Progress) (ended : Result Progress ExecutionFault)
    → (AreRounds handing → IsAllDone told) → IsOkAnd ended (λ progress. told ≡ progress)
    → IsOkAnd ended (SaysBy handing told)
says_by Rounds told (Ok progress) rounds same = rw same at (rounds tt)
says_by (Events events) told (Ok progress) rounds same = same
says_by handing told (Err why) rounds never = absurd never

-- a list that isn't opened
pub not_opened : {S B : Type 0} (shelf : source.Ghosts S) (bench : output.Ghosts B) (request : RenderRequest) {s0 s1 :
    S} {b : B} (of : Fault) → LeavesNow bench b → OpensList shelf request.list.now s0 s1 (Err of)
    → AnswersRequest shelf bench request s0 s1 b b (Err of)
not_opened shelf bench request {s0 = s0} {s1 = s1} {b = b} of only_now opens = record {
  rendered = λ honest right begins. tt;
  durable = λ right. tt;
  all_marked = λ honest right begins. tt;
  any_moment = λ honest right starts. idle (λ c at project binding accepted.
      left starts project binding accepted c c (only_now c at) (only_now c at));
  left = λ honest right. left;
  outcome = λ honest right begins begun. absurd (true≢false (sym begun ∙ opens.early));
  refusals = λ honest known. opening_due request.approach (refusal_of of) request.list.now (values_for request)
      (shelf.stored s0) (bench.stored b) opens.turn (opens.refusals honest);
  bad_text = opens.bad_text;
  own = own_of (IsOwnOf request.approach) (λ text of own. own) of opens.own;
  in_turn = opens.in_turn;
  named = λ right n other. refl;
  stores = stopped_early only_now opens.only_reads opens.no_output;
} where
  left : StartsBy request.approach (bench.may_leave b) (IsLeftFor shelf bench request s0 s1 b b)
      → IsLeftByRendering request.list.now (values_for request) (shelf.stored s0) (bench.may_leave b)
  left = left_by request.approach (λ none project binding accepted. none_left
      (list_marking request.list.now (values_for request) (shelf.stored s0) project binding) (bench.may_leave b) none)

module _ {S B : Type 0} (shelf : source.Ghosts S) (bench : output.Ghosts B) (listed : Listed) (s0 mid s1 : S) (b0 b1 :
    B) (accepted : IsTrue (shelf.honest s0) → IsAccepted listed.request.list.now (shelf.stored s0)
    listed.project listed.bound)
    (spelt : text_value listed.request.list.now ≡ Ok listed.project) (reads : IsOpened shelf s0 mid) where
  abbrev text : List ℕ
  text = listed.request.list.now

  abbrev values : OptionValues
  values = values_for listed.request

  abbrev Left : Type 0
  Left = IsLeftFor shelf bench listed.request s0 s1 b0 b1

  on : IsTrue (shelf.honest s0) → IsTrue (shelf.honest mid)
  on honest = rw reads.honest_same honest

  left_so : IsTrue (shelf.honest s0) → Left → IsLeftListed shelf bench listed mid b0
  left_so honest left = rw reads.same (left listed.project listed.bound (accepted honest))

  begins : IsTrue (shelf.honest s0) → IfAgain listed.request.approach Left
      → IfAgain listed.request.approach (IsLeftListed shelf bench listed mid b0)
  begins honest = again_as listed.request.approach (left_so honest)

  module _ {result : Result Progress Fault} (did : DoesListed shelf bench listed mid s1 b0 b1 result) where
    -- what a crash leaves of its jobs, however they ended
    moments : IsTrue (shelf.honest s0) → IsTrue (bench.honest b0)
        → StartsBy listed.request.approach (bench.may_leave b0) Left
        → LeavesOnly bench.moment bench.left_since b0 b1 (IsLeftOf text values (shelf.stored s0))
    moments honest right st = weaker (λ c left p b is. for_each values reads.same (accepted honest)
        (λ m. IsResumable m c) left is)
        (did.any_moment (on honest) right (starts_as listed.request.approach _ (left_so honest) st))

    left_now : IsTrue (shelf.honest s0) → IsTrue (bench.honest b0)
        → StartsBy listed.request.approach (bench.may_leave b0) Left
        → IsLeftByRendering text values (shelf.stored s0) (bench.may_leave b1)
    left_now honest right st p b is = for_each values reads.same (accepted honest)
        (λ m. IsLeftByRun m (bench.may_leave b1))
        (did.left (on honest) right (starts_as listed.request.approach _ (left_so honest) st)) is

    came : IsTrue (shelf.honest s0) → (ended : Result Progress ExecutionFault)
        → WorksListed listed (bench.stored b0) (read_view shelf mid) (read_view shelf s1) (output_view bench b0)
        (output_view bench b1) ended
        → WorksList listed.request.choice.jobs (events_by (handing_of listed.request.approach))
        (λ run. found_by listed.request.approach run (bench.stored b0)) text values (read_view shelf s0)
        (read_view shelf s1) (output_view bench b0) (output_view bench b1) ended
    came honest ended is = record {
      project = listed.project;
      binding = listed.bound;
      accepted = accepted honest;
      came = rw (reads.same, reads.cause.left tt) at is;
    }

  -- its jobs came out
  pub answered : (x : MadeList) → Spells text listed.project → x.notices.items ≡ all_notices listed.project listed.bound
      → MakesListed shelf bench listed mid s1 b0 b1 (Ok x.made)
      → AnswersRequest shelf bench listed.request s0 s1 b0 b1 (Ok x)
  answered x spelled noted made =
      let did = made.does in
      let finishes = all_done (handing_of listed.request.approach) x.made.progress made.finished in
      record {
        rendered = λ honest right b done. record {
          project = listed.project;
          binding = listed.bound;
          spelled = spelled;
          accepted = accepted honest;
          file = record {
            bytes = rendering_of (range_in listed) (mix_in listed (shelf.stored s0));
            there = rw reads.same at (did.finished (on honest) right (begins honest b) (finishes done));
            whole = refl;
            reads_back = made.reads_back (mix_in listed (shelf.stored s0));
          };
          notices = noted;
        };
        durable = λ right done. did.durable right (finishes done);
        all_marked = λ honest right b done p is. rw (← one_value spelt is)
            (did.marked (on honest) right (begins honest b) (finishes done));
        any_moment = moments did;
        left = left_now did;
        outcome = λ honest right b begun. let out = did.outcome (on honest) right (begins honest b) tt in (
          out.0,
          says_by (handing_of listed.request.approach) x.made.progress out.0 made.finished out.1,
          came did honest out.0 out.2,
        );
        refusals = λ honest known. rw (accepted_due listed.request.approach values (bench.stored b0) (accepted honest))
            (made.refusals known);
        bad_text = λ refusal bad. absurd (cc);
        own = tt;
        in_turn = λ honest. tt;
        named = did.named;
        stores = opened_before reads (assumption did.stores);
      }

  -- or it failed
  pub failed : (of : Fault) → MakesListed shelf bench listed mid s1 b0 b1 (Err of)
      → AnswersRequest shelf bench listed.request s0 s1 b0 b1 (Err of)
  failed of made = let did = made.does in record {
    rendered = λ honest right b. tt;
    durable = λ right. tt;
    all_marked = λ honest right b. tt;
    any_moment = moments did;
    left = left_now did;
    outcome = λ honest right b begun. let out = did.outcome (on honest) right (begins honest b) begun in
        (out.0, out.1, came did honest out.0 out.2);
    refusals = λ honest known. rw (accepted_due listed.request.approach values (bench.stored b0) (accepted honest))
        (made.refusals known);
    bad_text = λ refusal bad. absurd (cc);
    own = made.own text;
    in_turn = λ honest. made.in_turn text (shelf.stored s0);
    named = did.named;
    stores = opened_before reads (assumption did.stores);
  }

  -- at each moment the blocks stand that are marked
  pub keeps_list : IfAgain listed.request.approach (KeepsListed shelf bench listed mid b0 b1)
      → IfAgain listed.request.approach (IsTrue (shelf.honest s0) → IsTrue (bench.honest b0) → Left → (marks : List ℕ)
      → bench.stored b0 marks_name ≡ Some marks → is_started (Some marks) ≡ true
      → LeavesOnly bench.moment bench.left_since b0 b1 (HoldsMarked text values (shelf.stored s0) marks))
  keeps_list = again_as listed.request.approach (λ kept honest right left marks there started.
      weaker (λ c held p b is. for_each values reads.same (accepted honest) (λ m. HoldsMarkedOf m marks c) held is)
      (kept (on honest) right (left_so honest left) marks there started))

  -- what was clipped
  pub clips_list : (marked : Range → List Bool) (clipping : clipped.Clipping)
      → (IsTrue (shelf.honest mid) → IsClipping (marked (range_in listed)) (range_in listed)
      (mix_in listed (shelf.stored mid)) clipping)
      → IsTrue (shelf.honest s0) → ClipsList text values (shelf.stored s0) marked clipping
  clips_list marked clipping clips honest = record {
    project = listed.project;
    binding = listed.bound;
    accepted = accepted honest;
    clipped = rw (← reads.same) (clips (on honest));
  }

-- ---- and of its consolidation

module _ {S B : Type 0} (shelf : source.Ghosts S) (bench : output.Ghosts B) (handing : HandingOut) (leave : Leaving)
    (list : List ℕ) (handle : ℕ) (asked : Option AskedReport) where
  -- a list that isn't opened
  pub media_unopened : {s0 s1 : S} {b : B} (of : Fault) → LeavesNow bench b → OpensList shelf list s0 s1 (Err of)
      → CopiesList shelf bench handing leave list handle asked s0 s1 b b (Err of)
  media_unopened of only_now opens = record {
    answer = record {
      refusals = λ honest project binding work accepted is_work.
          opening_due_of_work (refusal_of of) work opens.turn accepted (opens.refusals honest);
      bad_list = λ honest refusal due. let is = opens.refusals honest in (rw due at is, λ ok. absurd (cc));
      bad_text = opens.bad_text;
      own = own_of (IsOfMedia (is_some asked) (are_events handing)) (λ any of own. own) of opens.own;
      in_turn = opens.in_turn;
      named = λ right n away. refl;
      outcome = λ honest right late. absurd (true≢false (sym late ∙ opens.early));
      stores = stopped_early only_now opens.only_reads opens.no_output;
    };
    finished = λ honest right. tt;
    durable = λ right. tt;
    list_last = λ right other. refl;
    report_last = λ right no_list no_report. refl;
  }

  module _ (s0 mid s1 : S) (b0 b1 : B) {project : ListProject} {binding : Binding}
      (accepted : IsTrue (shelf.honest s0) → IsAccepted list (shelf.stored s0) project binding)
      (spelt : text_value list ≡ Ok project) (reads : IsOpened shelf s0 mid) where
    at_mid : IsTrue (shelf.honest s0) → IsTrue (shelf.honest mid) × IsAccepted list (shelf.stored mid) project binding
    at_mid honest = (rw reads.honest_same honest, rw reads.same (accepted honest))

    -- what is due of its work, however that ended
    due_of_work : {result : Result Copied Fault}
        → CopiesProject shelf bench handing leave project binding handle asked mid s1 b0 b1 result
        → IsTrue (shelf.honest s0) → RefusesByWork leave list handle (shelf.stored s0) result
    due_of_work made honest other bound work is of = let same = one_accepted (accepted honest) is in
        made.refusals (at_mid honest).0 work (rw (reads.same, same.1, same.0) of)

    -- how its pieces came out
    media_came : {result : Result Copied Fault}
        → CopiesProject shelf bench handing leave project binding handle asked mid s1 b0 b1 result
        → IsTrue (shelf.honest s0) → IsTrue (bench.honest b0) → HasBegun result
        → ConsolidatesList leave list handle asked (events_by handing)
        (λ fault_for. AnswersAs fault_for (λ (copied : Copied). SaysBy handing copied.progress) result)
        (read_view shelf s0) (read_view shelf s1) (output_view bench b0) (output_view bench b1)
    media_came made honest right begun = record {
      project = project;
      binding = binding;
      accepted = accepted honest;
      run = rw (reads.same, reads.cause.left tt) at (made.outcome (at_mid honest).0 right list (at_mid honest).1 begun);
    }

    pub media_done : (told : CopiedList) → Spells list project → told.notices.items ≡ all_notices project binding
        → CopiesProject shelf bench handing leave project binding handle asked mid s1 b0 b1 (Ok told.copied)
        → CopiesList shelf bench handing leave list handle asked s0 s1 b0 b1 (Ok told)
    media_done told spelled noted made = let finishes = all_done handing told.copied.progress made.all_done in record {
      answer = record {
        refusals = due_of_work made;
        bad_list = λ honest refusal bad. absurd (cc (none_due (accepted honest)));
        bad_text = λ refusal bad. absurd (cc);
        own = tt;
        in_turn = λ honest. tt;
        named = made.named;
        outcome = media_came made;
        stores = opened_before reads (assumption made.stores);
      };
      finished = λ honest right done.
          let is = rw reads.same at (made.finished (at_mid honest).0 right list (at_mid honest).1 (finishes done)) in
          record {
            project = project;
            binding = binding;
            spelled = spelled;
            accepted = accepted honest;
            written = is.0;
            same_sound = is.1;
            notices = noted;
          };
      durable = λ right done. made.durable right (finishes done);
      list_last = made.list_last;
      report_last = λ right. tt;
    }

    -- or it failed
    pub media_failed : (of : Fault)
        → CopiesProject shelf bench handing leave project binding handle asked mid s1 b0 b1 (Err of)
        → CopiesList shelf bench handing leave list handle asked s0 s1 b0 b1 (Err of)
    media_failed of made = record {
      answer = record {
        refusals = due_of_work made;
        bad_list = λ honest refusal bad. absurd (cc (none_due (accepted honest)));
        bad_text = λ refusal bad. absurd (cc);
        own = made.own list;
        in_turn = λ honest. made.in_turn list (shelf.stored s0);
        named = made.named;
        outcome = media_came made;
        stores = opened_before reads (assumption made.stores);
      };
      finished = λ honest right. tt;
      durable = λ right. tt;
      list_last = made.list_last;
      report_last = made.report_last;
    }

-- ---- what a consolidation leaves, however far it came

last_some : (reported : Bool) → 1 ≤ last_count reported
last_some false = omega arith
last_some true = omega arith

-- ---- names and plans

-- the report is no medium, and not the list
report_no_medium : (many : ℕ) → IsNoMedium many (codes "consolidated.json")
unfolding media_name
report_no_medium many number low high same =
    let e : 99 ≡ 77 = ap (λ (n : List ℕ). get_or n 0 0) same in omega (arith, e)

report_no_list : codes "consolidated.json" ≢ codes "consolidated.adl"
report_no_list same = cc

-- ---- the call of an execution whose pieces are handed out each in its turn

-- no piece is done
abbrev pub start_of : MediaPlan → SourceView → OutputView → Snapshot
start_of plan s o =
    snapshot_of (job_plan plan) (fresh_board (work_of plan).count (range_with_len 0 (work_of plan).count)) 0 s o

abbrev pub IsMediaCall : (events : ℕ → List BoardEvent) (plan : MediaPlan) (board : Board) (s s2 : SourceView)
    (o o2 : OutputView) (untouched : Type 0) (ended : Result Progress ExecutionFault) → Type 0
IsMediaCall events plan board s s2 o o2 untouched ended = Executed (events (work_of plan).count) (start_of plan s o)
    (λ _. Nothing) (snapshot_of (job_plan plan) board 0 s2 o2) untouched ended

pub called : (events : ℕ → List BoardEvent) {plan work : MediaPlan} {after : JobPlan} {first board : Board}
    {had : ℕ → Hand} {s s2 : SourceView} {o o2 : OutputView} {untouched : Type 0}
    {ended : Result Progress ExecutionFault} → work ≡ plan
    → first ≡ fresh_board (work_of plan).count (range_with_len 0 (work_of plan).count) → ((w : ℕ) → had w ≡ Nothing)
    → Executed (events (work_of work).count) (snapshot_of (job_plan work) first 0 s o) had
    (snapshot_of after board 0 s2 o2) untouched ended → IsMediaCall events plan board s s2 o o2 untouched ended
called events {board = board} {s = s} {s2 = s2} {o = o} {o2 = o2} {untouched = untouched} {ended = ended} same is idle
    call = by_names job_plan (λ plan next first had. Executed (events (work_of plan).count)
    (snapshot_of (job_plan plan) first 0 s o) had (snapshot_of next board 0 s2 o2) untouched ended) same
    call.bounded.plan is idle call

pub fresh : (plan : MediaPlan) {first : Board} {s : SourceView} {o : OutputView}
    → first ≡ fresh_board (work_of plan).count (range_with_len 0 (work_of plan).count)
    → ((k : ℕ) → k < (work_of plan).count → done_of first k ≡ false) → IsFresh (start_of plan s o) (λ _. Nothing)
fresh plan is undone = record {
  none = λ k lt. subst (λ (b : Board). done_of b k ≡ false) is
      (undone k (omega (arith, lt, length-replicate (work_of plan).count fresh_job)));
  idle = λ w. refl;
}

module _ {plan : MediaPlan} (names : AreNamedOutputs plan) where
  list_at : (length plan.runs ≤ (job_plan plan).outputs - 1)
      × ((job_plan plan).output ((job_plan plan).outputs - 1) ≡ codes "consolidated.adl")
  list_at = let some = last_some (is_some plan.report) in
      names.list ((job_plan plan).outputs - 1) (omega (arith, some))

  list_last : IsLast (job_plan plan) ((job_plan plan).outputs - 1)
  list_last = let some = last_some (is_some plan.report) in (list_at.0, omega (arith, some))

  all_durable : (stored : Files) (may_leave : Files → Type 0) → AreDurableIn (job_plan plan) stored may_leave
      → AreDurable (is_some plan.report) (length plan.runs) stored may_leave
  all_durable stored may_leave durable = record {
    list = subst IsSafe list_at.1 (durable.last ((job_plan plan).outputs - 1) list_last);
    each_medium = λ k below. let job = names.media k below in subst IsSafe job.2 (durable.jobs job.0 job.1);
    report = λ asked. let of = names.report asked in let counted = of.0 in (
      subst IsSafe of.1 (durable.last (length plan.runs) (omega arith, omega (arith, counted))),
      subst IsSafe of.2 (durable.last (length plan.runs + 1) (omega arith, omega (arith, counted))),
    );
  } where
    IsSafe : List ℕ → Type 0
    IsSafe n = IsDurable n stored may_leave

  module _ {board : Board} {s : SourceView} {o : OutputView} {new : Snapshot} where
    -- a file that is none of a consolidation stays
    pub named_of : {ended : Result Progress ExecutionFault} → length plan.runs ≤ 32767
        → IsBounded (snapshot_of (job_plan plan) board 0 s o) new ended → IsTrue o.honest → (n : List ℕ)
        → IsElsewhere (is_some plan.report) 32767 n → new.output.files n ≡ o.files n
    named_of few bounded right n away = bounded.output.others right n (names.elsewhere n (record {
      no_list = away.no_list;
      no_medium = λ number low high. away.no_medium number low (omega (arith, few, high));
      no_report = away.no_report;
    }))

    -- what comes last at this number stays where it wasn't begun
    stays_before : {ended : Result Progress ExecutionFault} (i : ℕ) {n : List ℕ}
        → IsBounded (snapshot_of (job_plan plan) board 0 s o) new ended → IsTrue o.honest → IsLast (job_plan plan) i
        → (job_plan plan).output i ≡ n → IsBefore ended i → new.output.files n ≡ o.files n
    stays_before i bounded right last at before = subst (λ (m : List ℕ). new.output.files m ≡ o.files m) at
        (bounded.order right i last (names.last i last) before)

    -- the report stays where the call ended before it, or none is asked for
    report_kept : {of : ExecutionFault} → IsBounded (snapshot_of (job_plan plan) board 0 s o) new (Err of)
        → IsTrue o.honest → (reported : Bool) → is_some plan.report ≡ reported
        → (is_some plan.report ≡ true → IsBefore (Err of) (length plan.runs + 1))
        → new.output.files (codes "consolidated.json") ≡ o.files (codes "consolidated.json")
    report_kept bounded right false none before = bounded.output.others right (codes "consolidated.json")
        (names.elsewhere (codes "consolidated.json") (record {
          no_list = report_no_list;
          no_medium = report_no_medium (length plan.runs);
          no_report = rw none (λ is. absurd (false≢true is));
        }))
    report_kept bounded right true some before = let of_report = names.report some in let counted = of_report.0 in
        stays_before (length plan.runs + 1) bounded right (omega arith, omega (arith, counted)) of_report.2 (before
        some)

-- ---- what it leaves of the stores

-- where an output's device failed
is_end : {B : Type 0} (bench : output.Ghosts B) (plan : MediaPlan) (o o2 : B) (why : ExecutionFault)
    → HasFailed (job_plan plan) (output_view bench o) (output_view bench o2) (Err why)
    → IsNamedOutput (length plan.runs) (is_some plan.report) why
    → IsEnd bench o o2 (consolidation_fault (length plan.runs) (is_some plan.report) why)
is_end bench plan o o2 cause.Mark failed named = absurd (false≢true failed.has_marks)
is_end bench plan o o2 (cause.Output number) failed named = (failed.rose, rw (named) failed.failed.1)
is_end bench plan o o2 _ failed named = tt

-- ---- a plan that is refused

-- the fault that is told names the file where the device failed
named_there : (sounds : List SoundFacts) (of : ConsolidationFault) (told : Fault) (P : List ℕ → Type 0)
    → NamesOpened sounds of told → IsOfSource of → FailsAt sounds of P → HoldsOfSource told P
named_there sounds (plan_fault.Pass (pass_fault.Device file)) (fault.Silence name) P names is failed =
    subst P (sym (names failed.0 failed.1)) failed.2
named_there sounds (plan_fault.Pass (pass_fault.Device file)) _ P names is failed = absurd names
named_there sounds _ told P names is failed = absurd is

module _ {S B Y : Type 0} (shelf : source.Ghosts S) (bench : output.Ghosts B) {b : B} where
  -- a plan that is refused
  pub not_planned : {old new : S} (sounds : List SoundFacts) (of : ConsolidationFault) (told : Fault)
      → LeavesNow bench b → NamesOpened sounds of told → (IsSource told ↔ IsOfSource of) × (¬ IsOutput told)
      → OnlyReads {X = MediaPlan} shelf old new (Err of) IsOfSource (FailsAt sounds)
      → KeepsStores shelf bench {X = Y} old new b b (Err told)
  not_planned {new = new} sounds of told only_now names device reads = stopped_early only_now
      (read_as (λ quiet e. quiet (device.0.1 e)) device.0.0
      (λ failed e. named_there sounds of told (shelf.failed_at new) names (device.0.0 e) (failed (device.0.0 e))) reads)
      device.1

  -- no memory was left for the board behind a plan
  pub no_board : {old mid : S} → LeavesNow bench b → IsOpened shelf old mid
      → KeepsStores shelf bench {X = Y} old mid b b (Err fault.BoardMemory)
  no_board only_now read = opened_before read (not_begun only_now false≢true (λ e. omega (arith, e)))

-- ---- what is made of it

-- a report is asked for just where a choice of it is
pub asked_some : {A B : Type 0} (f : A → B) (o : Option A) → is_some (option_map f o) ≡ is_some o
asked_some f None = refl
asked_some f (Some x) = refl

module _ {S B : Type 0} (shelf : source.Ghosts S) (bench : output.Ghosts B) (handing : HandingOut) {leave : Leaving}
    {project : ListProject} {binding : Binding} {handle : ℕ} {asked : Option AskedReport} (old : S) (before : B) where
  -- nothing, where it was refused before its first write
  pub refused : {new : S} (fault : Fault) → (refusal_of fault).late ≡ false
      → (IsTrue (shelf.honest old) → (work : Work) → IsWorkOf leave project binding handle (shelf.stored old) work
      → IsDue (refusal_of fault) (work_fault work))
      → ((text : List ℕ) → IsOfMedia (is_some asked) (are_events handing) text fault)
      → ((text : List ℕ) (files : Files) → IsFirst text files fault)
      → KeepsStores shelf bench {X = Copied} old new before before (Err fault)
      → CopiesProject shelf bench handing leave project binding handle asked old new before before (Err fault)
  refused fault early due own in_turn stores = record {
    refusals = due;
    own = own;
    in_turn = in_turn;
    named = λ right n away. refl;
    outcome = λ honest right text accepted late. absurd (false≢true (sym early ∙ late));
    stores = stores;
    all_done = λ rounds. tt;
    finished = λ honest right text accepted. tt;
    durable = λ right. tt;
    list_last = λ right other. refl;
    report_last = λ right no_list no_report. refl;
  }

  module _ (plan : MediaPlan) (counts : Written) (mid new : S) (after : B) (board : Board) (untouched : Type 0)
      (planned : IsPlanOf leave project binding handle asked (shelf.honest old) (shelf.stored old) plan)
      (there : (sources : Files) → binding_of project sources ≡ Ok binding → AreThere sources (sounds_of binding))
      (fits : FitsSources plan)
      (due : IsTrue (shelf.honest old) → (work : Work) → IsWorkOf leave project binding handle (shelf.stored old) work
      → work_fault work ≡ None)
      (reads : IsOpened shelf old mid) (value : counts ≡ written_of plan) (names : AreNamedOutputs plan)
      (none : IsFresh (start_of plan (source_view shelf mid) (output_view bench before)) (λ _. Nothing)) where
    abbrev Call : Result Progress ExecutionFault → Type 0
    Call ended = IsMediaCall (events_by handing) plan board (source_view shelf mid) (source_view shelf new)
        (output_view bench before) (output_view bench after) untouched ended

    -- this holds where the plan is of the sources, and its outputs are whole
    abbrev WhenWhole : Type 0 → Type 0
    WhenWhole P = IsPlanOf leave project binding handle asked true (shelf.stored old) plan
        → AreThere (shelf.stored old) plan.sounds → HoldJobs (job_plan plan) (shelf.stored old) (bench.stored after)
        → HoldLast (job_plan plan) (shelf.stored old) (bench.stored after) → P

    planned_now : IsTrue (shelf.honest old) → IsPlanOf leave project binding handle asked true (shelf.stored old) plan
    planned_now honest = rw honest at planned

    there_now : {text : List ℕ} → IsAccepted text (shelf.stored old) project binding
        → AreThere (shelf.stored old) plan.sounds
    there_now accepted = rw planned.planned.sounds (there (shelf.stored old) accepted.bound)

    out_now : {ended : Result Progress ExecutionFault} {text : List ℕ} → Call ended → IsTrue (shelf.honest old)
        → IsTrue (bench.honest before) → IsAccepted text (shelf.stored old) project binding
        → Outcome (AreBlank (jobs_over (work_of plan) (shelf.stored old)) (whole_output plan (shelf.stored old)))
        (events_by handing (work_of plan).count) (start_of plan (read_view shelf old) (output_view bench before))
        (λ _. Nothing) (snapshot_of (job_plan plan) board 0 (read_view shelf new) (output_view bench after)) ⊤ ended
    out_now {ended = ended} call honest right accepted =
        let fit = fits (shelf.stored old) (there_now accepted) in
        let out : Outcome (AreBlank (jobs_over (work_of plan) (shelf.stored mid)) (whole_output plan (shelf.stored
        mid))) (events_by handing (work_of plan).count) (start_of plan (read_view shelf mid) (output_view bench before))
        (λ _. Nothing) (snapshot_of (job_plan plan) board 0 (read_view shelf new) (output_view bench after)) ⊤ ended
        = outcome_as (λ un. tt) (λ laid is. is) refl (λ stays. writes_none stays _) (λ none. none) (call.outcome (subst
        IsTrue (sym reads.honest_same) honest) right (rw reads.same fit.0) (rw reads.same fit.1) none) in
        rw (reads.same, reads.cause.left tt) at out

    -- how its pieces came out
    pieces_came : {ended : Result Progress ExecutionFault} (result : Result Copied Fault) → Call ended
        → AnswersAs (consolidation_fault (length plan.runs) (is_some asked))
        (λ (copied : Copied). SaysBy handing copied.progress) result ended → IsTrue (shelf.honest old)
        → IsTrue (bench.honest before) → (text : List ℕ) → IsAccepted text (shelf.stored old) project binding
        → ConsolidatesMedia leave project binding handle asked (events_by handing)
        (λ fault_for. AnswersAs fault_for (λ (copied : Copied). SaysBy handing copied.progress) result)
        (read_view shelf old) (read_view shelf new) (output_view bench before) (output_view bench after)
    pieces_came {ended = ended} result call says honest right _ accepted =
        let fit = fits (shelf.stored old) (there_now accepted) in
        record {
          plan = plan;
          planned = planned_now honest;
          fits = fit.0;
          apart = fit.1;
          ended = ended;
          answers = says;
          foreign = call.bounded.output;
          board = board;
          came = out_now call honest right accepted;
        }

    named_now : {ended : Result Progress ExecutionFault} → Call ended → IsTrue (bench.honest before) → (n : List ℕ)
        → IsElsewhere (is_some asked) 32767 n → bench.stored after n ≡ bench.stored before n
    named_now call right n away = named_of names planned.planned.few call.bounded right n (rw planned.is_asked away)

    -- its execution answered how far it came, and a plan whose outputs are whole is a consolidation
    pub copied : {progress : Progress} → Call (Ok progress) → (AreRounds handing → IsAllDone progress)
        → ((text : List ℕ) → IsAccepted text (shelf.stored old) project binding
        → WhenWhole (SoundsTheSame text (shelf.stored old) (bench.stored after)))
        → WhenWhole (((n : List ℕ) → IsForeign (job_plan plan) n → bench.stored after n ≡ bench.stored before n)
        → IsConsolidated leave project binding handle asked (shelf.stored old) (bench.stored before)
        (bench.stored after) counts)
        → CopiesProject shelf bench handing leave project binding handle asked old new before after
        (Ok (record { progress = progress; written = counts }))
    copied {progress = progress} call all sounds made = record {
      refusals = due;
      own = λ text. tt;
      in_turn = λ text files. tt;
      named = named_now call;
      outcome = λ honest right text accepted begun.
          pieces_came (Ok (record { progress = progress; written = counts })) call
          (says_by handing progress (Ok progress) all refl) honest right text accepted;
      stores = opened_before reads (went_on call.bounded.source call.bounded.output);
      all_done = all;
      finished = λ honest right text accepted done.
          let whole = finished_all (out_now call honest right accepted) done in (
            made (planned_now honest) (there_now accepted) whole.1 whole.2 (call.bounded.output.others right),
            sounds text accepted (planned_now honest) (there_now accepted) whole.1 whole.2,
          );
      durable = λ right done. rw (← planned.is_asked, value) (all_durable names (bench.stored after)
          (bench.may_leave after) (call.bounded.durable right done).outputs);
      list_last = λ right unfinished. stays_before names ((job_plan plan).outputs - 1) call.bounded right
          (list_last names) (list_at names).1 unfinished;
      report_last = λ right. tt;
    }

    -- or why it ended
    pub uncopied : {of : ExecutionFault} (told : Fault) → Call (Err of)
        → told ≡ consolidation_fault (length plan.runs) (is_some asked) of → IsDue (refusal_of told) None
        → ((text : List ℕ) → IsOfMedia (is_some asked) (are_events handing) text told)
        → ((text : List ℕ) (files : Files) → IsFirst text files told)
        → IsNamedOutput (length plan.runs) (is_some asked) of
        → ((i : ℕ) → i + 1 ≡ output_count (length plan.runs) (is_some asked) → told ≢ fault.Output file.List
        → IsBefore (Err of) i) → (is_some asked ≡ true → told ≢ fault.Output file.List → told ≢ fault.Output file.Report
        → IsBefore (Err of) (length plan.runs + 1))
        → CopiesProject shelf bench handing leave project binding handle asked old new before after (Err told)
    uncopied {of = of} told call same may_come own in_turn named before_list before_report = record {
      refusals = λ honest work is. rw (due honest work is) may_come;
      own = own;
      in_turn = in_turn;
      named = named_now call;
      outcome = λ honest right text accepted begun. pieces_came (Err told) call same honest right text accepted;
      stores = opened_before reads (rw (same, ← planned.is_asked) (ended_by call.bounded.source call.bounded.output
          (consolidation_fault (length plan.runs) (is_some plan.report) of)
          (is_end bench plan before after of call.bounded.failed (rw planned.is_asked named))));
      all_done = λ rounds. tt;
      finished = λ honest right text accepted. tt;
      durable = λ right. tt;
      list_last = λ right other. let some = last_some (is_some plan.report) in
          stays_before names ((job_plan plan).outputs - 1) call.bounded right (list_last names) (list_at names).1
          (before_list ((job_plan plan).outputs - 1) (rw (← planned.is_asked) (omega (arith, some))) other);
      report_last = λ right no_list no_report. report_kept names call.bounded right (is_some plan.report) refl
          (λ some. before_report (sym planned.is_asked ∙ some) no_list no_report);
    }
