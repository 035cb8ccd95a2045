-- What an execution of a marked rendering leaves, of the list that it was planned of, and behind marks that were
-- opened.
use Rattle.std.proofs.Common.{◌≡◌, ◌∙◌, ℕ, Bool, true, false, true≢false, Result, Ok, Option, None, Some, List, take, sym, ap, subst, option_map, length, unwrap_or, ◌<◌, ◌==◌, suc, cond, Err, [], ◌∷◌, map, replicate, IsTrue, refl, arith, slice_index_or, inl, inr, IfOk, IfSome, All}
use Rattle.std.proofs.lemmas.Bool.{false≢true}
use Rattle.std.proofs.lemmas.List.{length-map, length-replicate}
use Rattle.sound_terms.specs.Render.{Range}
use Rattle.work_terms.specs.Disk.{Files, LeavesOnly}
use Rattle.work_terms.specs.Refusals.{Refusal}
use Rattle.list_terms.specs.Accepted.{OptionValues}
use Rattle.list_terms.specs.Binding.{Binding}
use Rattle.list_terms.specs.Heard.{IsAccepted, project_fault}
use Rattle.list_terms.specs.Project.{ListProject}
use Rattle.markfile.specs.Format.{marks_name, sound_name}
use Rattle.markfile.specs.Opened.{front_fault, opened_of, told}
use Rattle.markfile.specs.Started.{NoneStarted, is_started}
use Rattle.markfile.specs.declared.fault.MarkFault.{MarkFault}
use Rattle.markfile.specs.declared.run.RunId.{RunId}
use Rattle.execution.specs.Marking.{AreTrueMarks, HoldsIn, Marking, NoneStartedBy, done_of, AreLeftBy}
use Rattle.execution.specs.BoardLaws.{finished_done}
use Rattle.execution.specs.Boards.{board_with, fresh_board}
use Rattle.execution.specs.EventRun.{Snapshot, snapshot_of}
use Rattle.execution.specs.MarkingLaws.{running_leaves, running_true}
use Rattle.execution.specs.OutcomeLaws.{finished_all, leaves_marks}
use Rattle.execution.specs.Outcome.{Executed, HasFailed, HasFinished, IsBounded, IsCall, IsFresh, IsResting, Outcome, Resumed}
use Rattle.execution.specs.Plan.{IsForeign}
use Rattle.execution.specs.View.{ExecutionView}
use Rattle.execution.specs.declared.fault.ExecutionFault.{ExecutionFault}
use Rattle.execution.specs.declared.fault.ExecutionFault.TheVariants as execution
use Rattle.execution.specs.Noted.{IsNoted}
use Rattle.rendering.specs.Fault as rendering
use Rattle.rendering.specs.declared.fault.RenderFault.{RenderFault}
use Rattle.rendering.specs.Maker.{IsReopened, marks_of, HasClips, HasSoundJobs, IsMarkedWork, plan_of}
use Rattle.rendering.specs.Marked.{HoldsMarked, IsFoundAs, IsLeftByRun, MarkedWork, run_of, IsOther, IsResumable, full_marks}
use Rattle.rendering.specs.Work.{whole_of, RenderWork, done_before, heard, work_of}
use Rattle.rendering.specs.MakerLaws.{finished_marks, full_of, left_by_run, marked_stays, some_job, started_as, run_leaves}
use Rattle.rendering.specs.Clipping.{ClipsUnmarked, marked_in as found_marks}
use Rattle.rendering.specs.Cut.{IsUniform}
use Rattle.rendering.specs.ClippingLaws.{clips_same, fresh_uniform}
use Rattle.devices.specs.declared.source.Shelf as source
use Rattle.devices.specs.declared.bench.Bench as output
use Rattle.devices.specs.ViewLaws.{writes_none}
use Rattle.devices.specs.Views.{output_view, source_view}
use Rattle.job_terms.specs.declared.BoardEvent.{BoardEvent}
use Rattle.job_terms.specs.declared.Progress.{Progress}
use Rattle.job_terms.specs.Board.{Board, done_job, fresh_job, is_finished}
use Rattle.job_terms.specs.Workers.{Nothing}
use Rattle.clipping.specs.declared.tally.Clips.{Clips}
use Rattle.consolidate.specs.Approaches.{IfAgain, StartsBy, found_by, AreRounds, are_events, events_by, handing_of}
use Rattle.consolidate.specs.Listed.{IsMarkedIn, IsPlannedAs, Listed, marking_in, DoesListed, IsLeftListed, KeepsListed, WorksListed, marks_in, mix_in, range_in}
use Rattle.consolidate.specs.Marks.{count_in, file_marking, list_marking}
use Rattle.consolidate.specs.declared.request.Approach.{Approach}
use Rattle.consolidate.specs.declared.request.Approach.TheVariants.{Again, Anew}
use Rattle.consolidate.specs.Fault.{name_of_output, refusal_of}
use Rattle.consolidate.specs.Commands.{IsOutput, IsSource, KeepsStores}
use Rattle.consolidate.specs.Outcomes.{AnswersAs, IsAllDone, read_view}
use Rattle.consolidate.specs.RenderOutcome.{in_rounds, rendering_fault, IsWorkedOff}
use Rattle.consolidate.specs.RenderWorks.{Calls, ClipsWork, DoesWork, IsSoundWork, IsTakenUp, IsUnbegun, KeepsMarked, RunsOn, StandsAsMarked, WorksOn, OpensMarks}
use Rattle.consolidate.specs.declared.fault.Fault.{Fault}
use Rattle.consolidate.specs.declared.fault.Fault.TheVariants as fault
use Rattle.consolidate.specs.declared.fault.OutputFile.TheVariants as file
use Rattle.consolidate.specs.declared.request.HandingOut.{HandingOut}
use Rattle.consolidate.specs.declared.request.HandingOut.TheVariants.{Events, Rounds}
use Rattle.consolidate.proofs.Stores.{IsEnd, IsUntouchedIn, LeavesNow, by_names, ended_by, idle, not_begun, outcome_as, untouched, weaker, went_on, behind_open, joined}

module _ {text : List ℕ} {files : Files} {project : ListProject} {binding : Binding}
    (accepted : IsAccepted text files project binding) where
  -- nothing is due of an accepted list
  pub none_due : project_fault text files ≡ None
  none_due = rw (accepted.spelt, accepted.bound) accepted.checked

  -- a text is accepted over the files as one project with one binding
  pub one_accepted : {p : ListProject} {b : Binding} → IsAccepted text files p b → (project ≡ p) × (binding ≡ b)
  one_accepted {p = p} {b = b} other =
      let projects : Ok project ≡ Ok p = sym accepted.spelt ∙ other.spelt in
      let same : project ≡ p = cc in
      let bindings : Ok binding ≡ Ok b = sym accepted.bound ∙ (rw same other.bound) in
      (same, cc)

-- where no marks are started
pub none_left : (m : Marking) (outcomes : Files → Type 0)
    → ((c : Files) → outcomes c → is_started (c m.marks) ≡ false) → IsLeftByRun m outcomes
none_left m outcomes none c d at other started = absurd (true≢false (sym started ∙ none c at))

-- a plan of what is asked for
pub marked_in : (listed : Listed) {marked : MarkedWork} → IsPlannedAs listed marked.work
    → marked.run ≡ run_of listed.request.list.now marked.work.planned.range → IsMarkedIn listed marked
marked_in listed of run = record {
  range = of.range;
  whole = of.whole;
  reads_back = of.reads_back;
  run = run ∙ ap (λ (r : Range). run_of listed.request.list.now r) of.range;
}

-- the marks of a plan that is cut anew are those of the same list
pub reopened : (listed : Listed) {was is : MarkedWork} → IsMarkedIn listed was → IsReopened was is
    → IsMarkedIn listed is
reopened listed of back = record {
  range = rw back.planned of.range;
  whole = λ sources. rw (back.planned, back.sounds) (of.whole sources);
  reads_back = of.reads_back;
  run = back.run ∙ of.run;
}

-- the same marks, with other jobs
abbrev with_jobs : Marking → ℕ → (from end group : ℕ → ℕ) → Marking
with_jobs m jobs from end group = record m { jobs = jobs; from = from; end = end; group = group }

module _ (m : Marking) {jobs jobs' : ℕ} {from from' end end' group group' : ℕ → ℕ} where
  holds_so : {marked : ℕ → Bool} {file : Option (List ℕ)} → HoldsIn (with_jobs m jobs from end group) marked file
      → HoldsIn (with_jobs m jobs' from' end' group') marked file
  holds_so held = record {
    bytes = held.bytes;
    there = held.there;
    holds = record { size = held.holds.size; same = held.holds.same };
  }

  true_so : {c d : Files} → AreTrueMarks (with_jobs m jobs from end group) c d
      → AreTrueMarks (with_jobs m jobs' from' end' group') c d
  true_so t = record {
    marks = t.marks;
    there = t.there;
    ours = record { front = t.ours.front; size = t.ours.size };
    sound = holds_so t.sound;
  }

module _ (listed : Listed) {marked : MarkedWork} (of : IsMarkedIn listed marked) (sources : Files) where
  abbrev its_file : Marking
  its_file = file_marking marked.work.planned.range (whole_of marked.work sources) marked.run

  same_file : its_file ≡ marking_in listed sources
  same_file = rw (of.whole sources, of.range, of.run)

  -- marks that are true of the plan's file are true of the list's
  pub true_of_list : (c d : Files) → AreTrueMarks (marks_of marked sources) c d
      → AreTrueMarks (marking_in listed sources) c d
  true_of_list c d t = subst (λ (m : Marking). AreTrueMarks m c d) same_file (true_so its_file t)

  -- and back
  pub true_of_plan : (c d : Files) → AreTrueMarks (marking_in listed sources) c d
      → AreTrueMarks (marks_of marked sources) c d
  true_of_plan c d t = true_so its_file (subst (λ (m : Marking). AreTrueMarks m c d) (sym same_file) t)

  -- and so of the blocks that are marked
  pub holds_list : (told : List ℕ) (c : Files) → HoldsMarked (marks_of marked sources) told c
      → HoldsMarked (marking_in listed sources) told c
  holds_list told c held = subst (λ (m : Marking). HoldsMarked m told c) same_file (holds_so its_file held)

-- what holds of the marks of an accepted list over the sources as they were opened holds of those of each project that
-- it is accepted as
pub for_each : {text : List ℕ} {project p : ListProject} {binding b : Binding} (values : OptionValues)
    {sources opened : Files} → opened ≡ sources → IsAccepted text sources project binding → (P : Marking → Type 0)
    → P (list_marking text values opened project binding) → IsAccepted text sources p b
    → P (list_marking text values sources p b)
for_each values same accepted P is other = let one = one_accepted accepted other in rw (← one.1, ← one.0, ← same) is

-- ---- what is found

-- marks as they are read are true of whatever a crash leaves
pub left_holds : (m : Marking) {outcomes : Files → Type 0} (files : Files) {told : List ℕ} → IsLeftByRun m outcomes
    → outcomes files → files m.marks ≡ Some told → is_started (Some told) ≡ true → (c : Files) → outcomes c
    → HoldsMarked m told c
left_holds m files {told} left now there started c at =
    let is = left files c now at (ap is_started there ∙ started) in
    let file : Some is.marks ≡ Some told = sym is.there ∙ there in
    let same : is.marks ≡ told = cc in
    rw same at is.sound

told_some : (is : List ℕ) (of : Option MarkFault) → told is of ≡ Ok None → ⊥
told_some is None e = cc
told_some is (Some of) e = cc

-- marks that are started are found
pub started_found : (run : RunId) (files : Files) (is : List ℕ) → files marks_name ≡ Some is
    → is_started (Some is) ≡ true → opened_of run files ≡ Ok None → ⊥
started_found run files is there started none =
    told_some is (front_fault run (take 44 is) (length is) (option_map length (files sound_name)))
    (rw (there, started) at none)

-- so many as are counted
pub counted : (found : Option ℕ) (due : Result (Option (List Bool)) MarkFault) → IsFoundAs (Ok found) due
    → unwrap_or found 0 ≡ count_in due
counted None due is = sym (ap count_in is)
counted (Some count) due is = is.2 ∙ sym (ap count_in is.1)

-- ---- of one that is begun, or gone on with

-- what holds of any one holds of one that is gone on with
pub if_again : (approach : Approach) {P : Type 0} → P → IfAgain approach P
if_again (Anew handing) p = tt
if_again Again p = p

pub again_as : (approach : Approach) {P Q : Type 0} → (P → Q) → IfAgain approach P → IfAgain approach Q
again_as (Anew handing) so p = tt
again_as Again so p = so p

pub starts_as : (approach : Approach) (outcomes : Files → Type 0) {P Q : Type 0} → (P → Q)
    → StartsBy approach outcomes P → StartsBy approach outcomes Q
starts_as (Anew handing) outcomes so none = none
starts_as Again outcomes so p = so p

-- what holds where no marks are started holds of all that it starts from
pub left_by : (approach : Approach) {outcomes : Files → Type 0} {P : Type 0} → (NoneStarted outcomes → P)
    → StartsBy approach outcomes P → P
left_by (Anew handing) so none = so none
left_by Again so left = left

-- where blocks are marked it is gone on with
pub marked_again : (approach : Approach) (run : RunId) (outputs : Files) (outcomes : Files → Type 0) {marked : List
    Bool} {P : Type 0} → found_by approach run outputs ≡ Ok (Some marked)
    → (IfAgain approach P → P) × (StartsBy approach outcomes P → P)
marked_again (Anew handing) run outputs outcomes is = absurd (cc)
marked_again Again run outputs outcomes is = (λ p. p, λ p. p)

-- what is answered
abbrev pub answered : Result Progress ExecutionFault → Result Progress Fault
answered (Ok progress) = Ok progress
answered (Err cause) = Err (rendering_fault cause)

answers : (ended : Result Progress ExecutionFault)
    → AnswersAs rendering_fault (λ told progress. told ≡ progress) (answered ended) ended
answers (Ok progress) = refl
answers (Err cause) = refl

if_ok : (ended : Result Progress ExecutionFault) {P : Progress → Type 0}
    → ((progress : Progress) → ended ≡ Ok progress → P progress) → IfOk (answered ended) P
if_ok (Ok progress) each = each progress refl
if_ok (Err cause) each = tt

-- ---- the files of the work

foreign : (x : MarkedWork) (n : List ℕ) → IsOther n → IsForeign (plan_of x) n
foreign x n other = record {
  stays = record {
    jobs = λ k lt e. other.0 (sym e);
    marks = λ sources m is e. let same : marks_of x sources ≡ m = cc in
        other.1 (sym (ap (λ (y : Marking). y.marks) same ∙ e));
  };
  last = λ i last e. omega (arith, last.0, last.1);
}

-- ---- the stores

named_output : (first : Bool) (P : List ℕ → Type 0) → P (cond first sound_name marks_name)
    → P (name_of_output (cond first file.Rendering file.Marks))
named_output true P p = p
named_output false P p = p

-- where an output's device failed
is_end : {B : Type 0} (bench : output.Ghosts B) (x : MarkedWork) (b0 b1 : B) (why : ExecutionFault)
    → HasFailed (plan_of x) (output_view bench b0) (output_view bench b1) (Err why)
    → IsEnd bench b0 b1 (rendering_fault why)
is_end bench x b0 b1 execution.Mark failed = (failed.rose, failed.failed (λ _. None) (marks_of x (λ _. None)) refl)
is_end bench x b0 b1 (execution.Output number) failed =
    (failed.rose, named_output (number == 0) (bench.failed_at b1) failed.failed.1)
is_end bench x b0 b1 _ failed = tt

-- ---- all of it

module _ {S B : Type 0} (shelf : source.Ghosts S) (bench : output.Ghosts B) (x : MarkedWork) (s0 s1 : S) (b0 b1 : B)
    (first board : Board) where
  abbrev m : Marking
  m = marks_of x (shelf.stored s0)

  abbrev old : Snapshot
  old = snapshot_of (plan_of x) first 0 (source_view shelf s0) (output_view bench b0)

  abbrev new : Snapshot
  new = snapshot_of (plan_of x) board 0 (source_view shelf s1) (output_view bench b1)

  stores_of : (result : Result Progress ExecutionFault) → IsBounded old new result
      → KeepsStores shelf bench s0 s1 b0 b1 (answered result)
  stores_of (Ok progress) is = went_on is.source is.output
  stores_of (Err why) is = ended_by is.source is.output (rendering_fault why) (is_end bench x b0 b1 why is.failed)

  does : {Begins Leaving : Files → Type 0} {begun starts untouched began started : Type 0} {events : List BoardEvent}
      {Came : Result Progress ExecutionFault → Type 0} (result : Result Progress ExecutionFault)
      → ((b : B) → IsTrue (bench.honest b) → bench.may_leave b (bench.stored b)) → IsMarkedWork x → HasSoundJobs x
      → length first.jobs ≡ length x.work.stretches
      → IsCall Begins Leaving begun starts untouched events old (λ _. Nothing) new result
      → (began → begun) → (started → begun) → (started → starts) → ((c : Files) → Leaving c → IsResumable m c)
      → (started → untouched → NoneStartedBy (Some m) (bench.may_leave b0))
      → (Outcome Begins events old (λ _. Nothing) new untouched result → Came result)
      → DoesWork shelf bench m x.run began started Came s0 s1 b0 b1 (answered result)
  does {Begins = Begins} {begun = begun} {untouched = untouched} {events = events} result reads_now is sound size call
      to from on leaves none came = record {
        finished = λ honest whole b. if_ok result (λ p e done. (all honest whole (to b) p e done).0);
        marked = λ honest whole b. if_ok result (λ p e done. (all honest whole (to b) p e done).1);
        durable = λ whole. if_ok result
            (λ p e done. let d = call.bounded.durable whole (subst HasFinished (sym e) done) in record {
              sound = d.outputs.jobs 0 (some_job x.work is.work);
              marks = d.marks (λ _. None) (marks_of x (λ _. None)) refl;
            });
        left = λ honest whole st. left_by_run m (bench.may_leave b1) (leaves_marks Begins events old (λ _. Nothing) new
            untouched result (out honest whole (from st)) (none st));
        any_moment = λ honest whole st. let h = call.moments honest whole (on st) in
            weaker leaves (record { later = h.later; each = h.each; before = h.before });
        named = λ whole n other. call.bounded.output.others whole n (foreign x n other);
        outcome = λ honest whole b begun. (result, answers result, came (out honest whole (to b)));
        stores = stores_of result call.bounded;
      } where
        out : IsTrue (shelf.honest s0) → IsTrue (bench.honest b0) → begun
            → Outcome Begins events old (λ _. Nothing) new untouched result
        out honest whole b = call.outcome honest whole (sound.fit (shelf.stored s0)) (sound.apart (shelf.stored s0)) b

        all : IsTrue (shelf.honest s0) → IsTrue (bench.honest b0) → begun → (p : Progress) → result ≡ Ok p → IsAllDone p
            → (bench.stored b1 sound_name ≡ Some (whole_of x.work (shelf.stored s0)))
            × (bench.stored b1 marks_name ≡ Some (full_marks x.run))
        all honest whole b p e done = let ends = finished_all (rw e at (out honest whole b)) done in (
          ends.1 0 (some_job x.work is.work),
          full_of x.run (bench.stored b1 marks_name) (finished_marks x (shelf.stored s0) is (done_of board)
              (bench.stored b1) (bench.may_leave b1) ends.3 (λ k lt. finished_done board ends.0 k (omega (
                arith,
                lt,
                size,
                call.bounded.size,
              ))) (bench.stored b1) (reads_now b1 (rw call.bounded.output.same_honest whole))),
        )

-- ---- a call that ends before the first write

module _ {S B : Type 0} {shelf : source.Ghosts S} {bench : output.Ghosts B} {m : Marking} {run : RunId}
    {began started : Type 0} {Came : Result Progress ExecutionFault → Type 0} where
  -- it may have synced its files
  pub refused : {s0 s1 : S} {b0 b1 : B} {cause : Fault} → ¬ IsTrue (refusal_of cause).late
      → IsUntouchedIn bench b0 b1 → (started → IsLeftByRun m (bench.may_leave b0))
      → KeepsStores shelf bench {X = Progress} s0 s1 b0 b1 (Err cause)
      → DoesWork shelf bench m run began started Came s0 s1 b0 b1 (Err cause)
  refused early same left stores = record {
    finished = λ honest whole b. tt;
    marked = λ honest whole b. tt;
    durable = λ whole. tt;
    left = λ honest whole st c d at other. left st c d (same.crash c at) (same.crash d other);
    any_moment = λ honest whole st. weaker (λ c at. left st c c at at) same.moments;
    named = λ whole n other. rw same.reads;
    outcome = λ honest whole b begun. absurd (early begun);
    stores = stores;
  }

  -- or touched nothing
  pub untouched_by : {s : S} {b : B} {cause : Fault} → ((b : B) → LeavesNow bench b)
      → ¬ IsTrue (refusal_of cause).late → ¬ IsSource cause → ¬ IsOutput cause
      → (started → IsLeftByRun m (bench.may_leave b))
      → DoesWork shelf bench m run began started Came s s b b (Err cause)
  untouched_by {b = b} only_now early no_source no_output left =
      refused early (untouched (only_now b)) left (not_begun (only_now b) no_source no_output)

  unbegun : {s : S} {b : B} → ((b : B) → LeavesNow bench b) → (cause : Fault) → IsUnbegun cause
      → (started → IsLeftByRun m (bench.may_leave b))
      → DoesWork shelf bench m run began started Came s s b b (Err cause)
  unbegun only_now fault.BoardMemory un left = untouched_by only_now false≢true false≢true (λ e. omega (arith, e)) left
  unbegun only_now fault.RenderMemory un left = untouched_by only_now false≢true false≢true (λ e. omega (arith, e)) left
  unbegun only_now _ un left = absurd un

-- ---- from its beginning, or on from blocks that are marked

-- where no job is done all of them are open
all_fresh : (done : List Bool) → ((k : ℕ) → k < length done → slice_index_or done k false ≡ false)
    → map (λ d. cond d done_job fresh_job) done ≡ replicate (length done) fresh_job
all_fresh [] none = refl
all_fresh (d ∷ ds) none = rw (none 0 (omega arith), all_fresh ds (λ k lt. none (suc k) (omega (arith, lt)))) refl

module _ {S B : Type 0} (shelf : source.Ghosts S) (bench : output.Ghosts B)
    (reads_now : (b : B) → IsTrue (bench.honest b) → bench.may_leave b (bench.stored b)) {x : MarkedWork}
    {run : ExecutionView MarkedWork} (next : ExecutionView MarkedWork) (s0 s1 : S) (b0 b1 : B)
    (result : Result Progress ExecutionFault) (p : IsTakenUp x run) (is : IsMarkedWork x) where
  abbrev start : Board → Snapshot
  start first = snapshot_of (plan_of x) first 0 (source_view shelf s0) (output_view bench b0)

  abbrev left : Board
  left = board_with p.done p.order

  done_so : (first : Board) → run.board ≡ first → (k : ℕ) → k < (work_of x.work).count
      → done_of first k ≡ done_before x.work k
  done_so first same k lt = let there = subst (λ (n : ℕ). k < n) (sym p.count) lt in
      ap (λ (b : Board). done_of b k) (sym same) ∙ p.agrees k there ∙ p.each k there

  resting : StandsAsMarked x (shelf.stored s0) (bench.stored b0) (bench.may_leave b0)
      → IsResting (start left) (λ _. Nothing)
  resting st = let both = st (done_of left) (done_so left p.board) in
      record { filled = both.1; marked = record { idle = λ w. refl; running = both.0 } }

  known : Calls shelf bench Rounds (Some 0) run next s0 s1 b0 b1 result
      → Resumed (in_rounds (work_of x.work).count) (start left) (λ _. Nothing)
      (snapshot_of (plan_of x) next.board 0 (source_view shelf s1) (output_view bench b1)) result
  known call = by_names plan_of (λ work after first had. Resumed (in_rounds (work_of work.work).count)
      (snapshot_of (plan_of work) first 0 (source_view shelf s0) (output_view bench b0)) had
      (snapshot_of after next.board 0 (source_view shelf s1) (output_view bench b1)) result)
      p.work call.bounded.plan p.board p.idle call

  pub works : (handing : HandingOut) (found : Option ℕ) → IsSoundWork found x
      → Calls shelf bench handing found run next s0 s1 b0 b1 result
      → WorksOn shelf bench handing found x s0 s1 b0 b1 (answered result)
  works handing None sound call =
      does shelf bench x s0 s1 b0 b1 (fresh_board count p.order) next.board result reads_now is sound.jobs
      (length-replicate count fresh_job)
      (by_names plan_of (λ work after first had. Executed (events_by handing (work_of work.work).count)
      (snapshot_of (plan_of work) first 0 (source_view shelf s0) (output_view bench b0)) had
      (snapshot_of after next.board 0 (source_view shelf s1) (output_view bench b1)) (s1 ≡ s0) result)
      p.work call.bounded.plan same p.idle call)
      (λ b. fresh) (λ st. fresh) (λ st. record { fresh = fresh; unstarted = unstarted st })
      (λ c sets started. let left = sets (started_as (c marks_name) ∙ started) in
      record { marks = left.marks; there = left.there; ours = left.ours; sound = left.wave }) (λ st un. unstarted st)
      (λ out. record {
        order = p.order;
        is_order = p.is_order;
        came = record {
          board = next.board;
          came = outcome_as (λ un. tt) (λ laid is. is) refl (λ stays. writes_none stays _) (λ none. none) out;
        };
      }) where
        count : ℕ
        count = (work_of x.work).count

        same : run.board ≡ fresh_board count p.order
        same = p.board ∙ rw (all_fresh p.done (λ k lt. p.each k lt ∙ sound.fresh refl k), p.count) refl

        fresh : IsFresh (start (fresh_board count p.order)) (λ _. Nothing)
        fresh = record {
          none = λ k lt. done_so (fresh_board count p.order) same k (rw length-replicate at lt) ∙ sound.fresh refl k;
          idle = λ w. refl;
        }

        unstarted : NoneStarted (bench.may_leave b0)
            → NoneStartedBy (Some (marks_of x (shelf.stored s0))) (bench.may_leave b0)
        unstarted none c at = started_as (c marks_name) ∙ none c at
  works handing (Some found) sound call = does shelf bench x s0 s1 b0 b1 left next.board result reads_now is sound.jobs
      (length-map p.done (λ (d : Bool). cond d done_job fresh_job) ∙ p.count) (known call) resting resting
      (λ st. (resting st).marked)
      (λ c left started. record { marks = left.marks; there = left.there; ours = left.ours; sound = left.wave })
      (λ st un. absurd un) (λ out. record {
        order = p.order;
        is_order = p.is_order;
        done = p.done;
        count = p.count;
        each = p.each;
        came = record {
          board = next.board;
          came = outcome_as (λ un. un) (λ laid is. is) refl (λ stays. writes_none stays _) (λ none. none) out;
        };
      })

  -- what was marked stands at each moment
  pub keeps_work : (handing : HandingOut) (found : Option ℕ) → Calls shelf bench handing found run next s0 s1 b0 b1
      result → IfSome found (λ _. KeepsMarked shelf bench x s0 b0 b1)
  keeps_work handing None call = tt
  keeps_work handing (Some found) call = λ honest whole st marks there. let marked = (resting st).marked in
      let h = (known call).moments honest whole marked in
      weaker (λ c kept. marked_stays x (shelf.stored s0) is (done_of left) (done_of next.board) (bench.may_leave b0)
      (bench.stored b0) c marks marked.running (reads_now b0 whole) there kept)
      (record { later = h.later; each = h.each; before = h.before })

  same_size : (handing : HandingOut) (found : Option ℕ) → Calls shelf bench handing found run next s0 s1 b0 b1 result
      → length next.board.jobs ≡ length run.board.jobs
  same_size handing None call = call.bounded.size
  same_size handing (Some found) call = call.bounded.size

  -- what is clipped of a work whose open jobs are all done by rounds
  pub clips_of : (handing : HandingOut) (found : Option ℕ) → IsTrue (is_finished next.board)
      → RunsOn shelf bench handing found run next s0 s1 b0 b1 result → (clips : Clips)
      → ((sources : Files) (marked : List Bool) → All (IsUniform marked) next.work.work.stretches
      → ((k : ℕ) → k < (plan_of next.work).jobs.count → done_before next.work.work k ≡ false
      → HasClips next.work sources k) → ClipsUnmarked marked next.work.work.planned.range
      (heard next.work.work.planned next.work.work.sounds sources) clips)
      → IsTrue (shelf.honest s0) → ClipsWork x (shelf.stored s0) clips
  clips_of handing found finished r clips counts honest marked uniform =
      subst (λ (w : RenderWork). ClipsUnmarked marked w.planned.range (heard w.planned w.sounds (shelf.stored s0))
      clips) same (counts (shelf.stored s0) marked (rw same uniform)
      (λ k below off. noted k (rw same at below) (rw same at off))) where
        same : next.work.work ≡ x.work
        same = (r.notes honest).same x (ap (λ (w : MarkedWork). w.work) p.work)

        noted : (k : ℕ) → k < length x.work.stretches → done_before x.work k ≡ false
            → HasClips next.work (shelf.stored s0) k
        noted k below off =
            elim ((r.notes honest).done (λ w. subst (IsNoted (HasClips run.work (shelf.stored s0))) (sym (p.idle w)) tt)
            k (finished_done next.board finished k (omega (
              arith,
              below,
              same_size handing found r.called,
              ap length (ap (λ (b : Board). b.jobs) p.board),
              length-map p.done (λ (d : Bool). cond d done_job fresh_job),
              p.count,
            )))) [
              | inl done ↦ absurd (true≢false (sym done ∙ done_so run.board refl k below ∙ off))
              | inr note ↦ note
            ]

-- what holds of rounds, and of events that were given, holds of either
pub by_handing : (handing : HandingOut) (P : Bool → Type 0) → (AreRounds handing → P false) → P true
    → P (are_events handing)
by_handing Rounds P rounds events = rounds tt
by_handing (Events given) P rounds events = events

-- ---- or not begun at all

module _ {S B : Type 0} (shelf : source.Ghosts S) (bench : output.Ghosts B) (only_now : (b : B) → LeavesNow bench b)
    (x : MarkedWork) (s : S) (b : B) where
  pub not_begun_work : (handing : HandingOut) (found : Option ℕ) (cause : Fault) → IsUnbegun cause
      → WorksOn shelf bench handing found x s s b b (Err cause)
  not_begun_work handing None cause un =
      unbegun only_now cause un (none_left (marks_of x (shelf.stored s)) (bench.may_leave b))
  not_begun_work handing (Some found) cause un = unbegun only_now cause un
      (λ st c d at other started. running_true (Some (marks_of x (shelf.stored s))) (done_before x.work)
      (output_view bench b) (st (done_before x.work) (λ k lt. refl)).0 c d at other)

  pub not_begun_keeps : (found : Option ℕ) → ((b : B) → IsTrue (bench.honest b) → bench.may_leave b (bench.stored b))
      → IsMarkedWork x → IfSome found (λ _. KeepsMarked shelf bench x s b b)
  not_begun_keeps None reads_now is = tt
  not_begun_keeps (Some found) reads_now is = λ honest whole st marks there.
      let running = (st (done_before x.work) (λ k lt. refl)).0 in
      idle (λ c at. marked_stays x (shelf.stored s) is (done_before x.work) (done_before x.work) (bench.may_leave b)
      (bench.stored b) c marks running (reads_now b whole) there
      (running_leaves (marks_of x (shelf.stored s)) (done_before x.work) (bench.stored b) (bench.may_leave b) running c
      (only_now b c at)))

-- where nothing is written what was marked stands
pub keeps_unwritten : {S B : Type 0} (shelf : source.Ghosts S) (bench : output.Ghosts B) (listed : Listed) (s : S)
    {b0 b1 : B} → ((b : B) → IsTrue (bench.honest b) → bench.may_leave b (bench.stored b)) → (approach : Approach)
    → LeavesOnly bench.moment bench.left_since b0 b1 (bench.may_leave b0)
    → IfAgain approach (KeepsListed shelf bench listed s b0 b1)
keeps_unwritten shelf bench listed s {b0 = b0} reads_now approach moments =
    if_again approach (λ honest right left told there started. weaker (left_holds
    (marking_in listed (shelf.stored s)) (bench.stored b0) left (reads_now b0 right) there started) moments)

-- a plan that is refused
pub unplanned : {S B : Type 0} (shelf : source.Ghosts S) (bench : output.Ghosts B) {m : Marking} {run : RunId}
    {began started : Type 0} {Came : Result Progress ExecutionFault → Type 0} (s : S) (b : B)
    → ((b : B) → LeavesNow bench b) → (of : RenderFault) (told : Fault) → refusal_of told ≡ rendering.refusal_of of
    → (¬ IsSource told) × (¬ IsOutput told) → (started → IsLeftByRun m (bench.may_leave b))
    → DoesWork shelf bench m run began started Came s s b b (Err told)
unplanned shelf bench s b only_now of told same quiet left =
    untouched_by only_now (λ late. true≢false (sym (rw same at late))) quiet.0 quiet.1 left

-- what is found of the marks of a plan is found of those of the list
pub found_in : (listed : Listed) (was : MarkedWork) (outputs : Files) (found : Result (Option ℕ) MarkFault)
    → IsPlannedAs listed was.work → was.run ≡ run_of listed.request.list.now was.work.planned.range
    → IsFoundAs found (found_by listed.request.approach was.run outputs) → IsFoundAs found (marks_in listed outputs)
found_in listed was outputs found planned run is =
    subst (λ (r : RunId). IsFoundAs found (found_by listed.request.approach r outputs))
    (marked_in listed {marked = was} planned run).run is

-- ---- behind marks that were opened

module _ {S B : Type 0} (shelf : source.Ghosts S) (bench : output.Ghosts B) (listed : Listed)
    (was x : MarkedWork) (b0 mid : B) (planned : IsPlannedAs listed was.work)
    (run : was.run ≡ run_of listed.request.list.now was.work.planned.range) (s0 s1 : S) (b1 : B) where
  abbrev approach : Approach
  approach = listed.request.approach

  abbrev Opened : Option ℕ → Type 0
  Opened found = OpensMarks bench approach listed.request.choice.jobs was x b0 mid (Ok found)

  abbrev Left : Type 0
  Left = IsLeftListed shelf bench listed s0 b0

  of_was : IsMarkedIn listed was
  of_was = marked_in listed planned run

  of_now : {found : Option ℕ} → Opened found → IsMarkedIn listed x
  of_now opens = reopened listed of_was opens.back

  found_now : {found : Option ℕ} → Opened found → IfAgain approach (IsTrue (bench.honest b0))
      → IsFoundAs (Ok found) (marks_in listed (bench.stored b0))
  found_now {found = found} opens right =
      found_in listed was (bench.stored b0) (Ok found) planned run (opens.found_as right)

  -- how its jobs came out, as of the outputs before
  worked_before : {found : Option ℕ} {Begins Starts : Files → Type 0} {untouched : Type 0} {first : Board}
      {events : List BoardEvent} {ended : Result Progress ExecutionFault} → Opened found
      → ((laid : Files) → Begins laid → Starts laid)
      → IsWorkedOff Begins untouched x first events (read_view shelf s0) (read_view shelf s1) (output_view bench mid)
      (output_view bench b1) ended
      → IsWorkedOff Starts untouched x first events (read_view shelf s0) (read_view shelf s1) (output_view bench b0)
      (output_view bench b1) ended
  worked_before opens so r = record {
    board = r.board;
    came = outcome_as (λ un. un) so (opens.only_reads.cause.left tt) (λ stays. record {
      same_honest = opens.only_reads.honest_same;
      later = opens.only_reads.cause.later;
      keeps = opens.only_reads.keeps;
      others = λ h n s. rw opens.untouched.reads;
      durable = λ h n s was c at. rw opens.untouched.reads (was c (opens.untouched.crash c at));
    }) (λ unstarted c at. unstarted c (opens.untouched.crash c at)) r.came;
  }

  -- what a call leaves of the list that it was planned of, as of the outputs before
  after_open : {found : Option ℕ} {result : Result Progress Fault} {began started : Type 0}
      {Came : Result Progress ExecutionFault → Type 0} → Opened found
      → DoesWork shelf bench (marks_of x (shelf.stored s0)) x.run began started Came s0 s1 mid b1 result
      → (IsTrue (bench.honest b0) → IfAgain approach Left → began)
      → (IsTrue (bench.honest b0) → StartsBy approach (bench.may_leave b0) Left → started)
      → ((ended : Result Progress ExecutionFault) → IsTrue (bench.honest b0) → Came ended
      → WorksListed listed (bench.stored b0) (read_view shelf s0) (read_view shelf s1) (output_view bench b0)
      (output_view bench b1) ended) → DoesListed shelf bench listed s0 s1 b0 b1 result
  after_open opens did begins starts came = record {
    finished = λ honest right b.
        rw ((of_now opens).whole (shelf.stored s0)) at (did.finished honest (on right) (begins right b));
    marked = λ honest right b. rw (of_now opens).run at (did.marked honest (on right) (begins right b));
    durable = λ right. did.durable (on right);
    left = λ honest right st c d at other started. true_of_list listed (of_now opens) (shelf.stored s0) c d
        (did.left honest (on right) (starts right st) c d at other started);
    any_moment = λ honest right st. joined
        (weaker (λ c at. left_by approach (none_left (marking_in listed (shelf.stored s0)) (bench.may_leave b0)) st
        c c at at) opens.untouched.moments)
        (weaker (λ c left started. true_of_list listed (of_now opens) (shelf.stored s0) c c (left started))
        (did.any_moment honest (on right) (starts right st)));
    named = λ right n other. rw (← opens.untouched.reads) (did.named (on right) n other);
    outcome = λ honest right b begun. let out = did.outcome honest (on right) (begins right b) begun in
        (out.0, out.1, came out.0 right out.2);
    stores = behind_open opens.untouched opens.only_reads did.stores;
  } where
    on : IsTrue (bench.honest b0) → IsTrue (bench.honest mid)
    on right = subst IsTrue (sym opens.only_reads.honest_same) right

  -- what stands of the marks that are found
  stands : {n : ℕ} → Opened (Some n) → IsTrue (bench.honest b0) → Left
      → StandsAsMarked x (shelf.stored s0) (bench.stored mid) (bench.may_leave mid)
  stands opens right left done agrees = (
    opens.running right (shelf.stored s0) was_left done agrees,
    opens.filled right (shelf.stored s0) was_left done agrees,
  ) where
    was_left : AreLeftBy (Some (marks_of was (shelf.stored s0))) (bench.may_leave b0)
    was_left = run_leaves (marks_of was (shelf.stored s0)) (bench.may_leave b0)
        (λ c d at other started. true_of_plan listed of_was (shelf.stored s0) c d (left c d at other started))

  -- whatever was found: all jobs are done, or those that aren't marked
  gone_on : (found : Option ℕ) (result : Result Progress Fault) → Opened found
      → WorksOn shelf bench (handing_of approach) found x s0 s1 mid b1 result
      → DoesListed shelf bench listed s0 s1 b0 b1 result
  gone_on None result opens did = after_open opens did (λ right b. tt) (λ right st c at. sym (started_as (c marks_name))
      ∙ opens.unstarted right (shelf.stored s0) (starts_as approach _ (λ left. tt) st) refl c at)
      (λ ended right came. rw (found_now opens (if_again approach right)) (record {
        work = x;
        renders = rw (opens.unchanged refl) planned;
        sound = opens.back.jobs;
        run = (of_now opens).run;
        came = record {
          order = came.order;
          is_order = came.is_order;
          came = worked_before opens (λ laid is. is) came.came;
        };
      }))
  gone_on (Some n) result opens did = after_open opens did (λ right b. let cuts = opens.cut (if_again approach right) in
      stands opens right ((marked_again approach _ _ (bench.may_leave b0) cuts.1).0 b))
      (λ right st. let cuts = opens.cut (if_again approach right) in
      stands opens right ((marked_again approach _ _ (bench.may_leave b0) cuts.1).1 st))
      (λ ended right came. let cuts = opens.cut (if_again approach right) in rw (rw of_was.run at cuts.1) (record {
        work = x;
        is_for = of_now opens;
        cut = cuts.2;
        sound = opens.back.jobs;
        came = record {
          order = came.order;
          is_order = came.is_order;
          done = came.done;
          count = came.count;
          each = came.each;
          came = worked_before opens (λ laid is. is ∙ opens.untouched.reads) came.came;
        };
      }))

  -- what was marked stands at each moment
  kept : (by : Approach) (found : Option ℕ) → approach ≡ by → Opened found
      → ((b : B) → IsTrue (bench.honest b) → bench.may_leave b (bench.stored b))
      → IfSome found (λ _. KeepsMarked shelf bench x s0 mid b1) → IfAgain by (KeepsListed shelf bench listed s0 b0 b1)
  kept (Anew handing) found is opens reads_now keeps = tt
  kept Again None is opens reads_now keeps = λ honest right left marks there started.
      absurd (started_found was.run (bench.stored b0) marks there started ((rw is at opens.found_as) right))
  kept Again (Some n) is opens reads_now keeps = λ honest right left marks there started. joined
      (weaker (left_holds (marking_in listed (shelf.stored s0)) (bench.stored b0) left (reads_now b0 right) there
      started) opens.untouched.moments) (weaker (holds_list listed (of_now opens) (shelf.stored s0) marks)
      (keeps honest (rw opens.only_reads.honest_same right) (stands opens right left) marks
      (rw opens.untouched.reads there)))

  -- all that is left of the list, and what is found of its marks
  pub listed_now : (found : Option ℕ) (result : Result Progress Fault) → Opened found
      → ((b : B) → IsTrue (bench.honest b) → bench.may_leave b (bench.stored b))
      → WorksOn shelf bench (handing_of approach) found x s0 s1 mid b1 result
      → IfSome found (λ _. KeepsMarked shelf bench x s0 mid b1)
      → DoesListed shelf bench listed s0 s1 b0 b1 result × IfAgain approach (KeepsListed shelf bench listed s0 b0 b1)
      × (IfAgain approach (IsTrue (bench.honest b0)) → IsFoundAs (Ok found) (marks_in listed (bench.stored b0)))
  listed_now found result opens reads_now did keeps =
      (gone_on found result opens did, kept approach found refl opens reads_now keeps, found_now opens)

  -- what was clipped of the blocks that weren't marked
  pub clipped : (found : Option ℕ) (sources : Files) (clips : Clips) → Opened found
      → IfAgain approach (IsTrue (bench.honest b0)) → ClipsWork x sources clips
      → ClipsUnmarked (found_marks (marks_in listed (bench.stored b0))) (range_in listed) (mix_in listed sources) clips
  clipped found sources clips opens right counts = by_found found opens where
    so : {found : Option ℕ} (marks : List Bool) → Opened found → found_marks (marks_in listed (bench.stored b0)) ≡ marks
        → All (IsUniform marks) x.work.stretches
        → ClipsUnmarked (found_marks (marks_in listed (bench.stored b0))) (range_in listed) (mix_in listed sources)
        clips
    so marks opens is uniform = rw is (rw planned.range at (clips_same marks was.work.planned.range
        (heard was.work.planned was.work.sounds sources) (mix_in listed sources) clips (planned.heard_as sources)
        (rw (opens.back.planned, opens.back.sounds) at (counts marks uniform))))

    by_found : (found : Option ℕ) → Opened found
        → ClipsUnmarked (found_marks (marks_in listed (bench.stored b0))) (range_in listed) (mix_in listed sources)
        clips
    by_found None opens = so [] opens (ap found_marks (found_now opens right))
        (rw (opens.unchanged refl) (fresh_uniform was.work planned.fresh))
    by_found (Some n) opens = let cuts = opens.cut right in
        so cuts.0 opens (ap found_marks (rw of_was.run at cuts.1)) cuts.2.uniform
