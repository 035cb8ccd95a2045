-- What a call leaves of its stores, and how an execution came out of those at its begin.
use Rattle.std.proofs.Common.{◌≡◌, ◌∙◌, ℕ, Bool, List, Option, Result, Ok, Err, true, false, true≢false, inl, inr, arith, refl, sym}
use Rattle.std.specs.Prelude.{⊤}
use Rattle.devices.specs.declared.source.Shelf as source
use Rattle.devices.specs.declared.bench.Bench as output
use Rattle.devices.specs.Views.{OutputView, Reads, SourceView, Writes, output_view, source_view}
use Rattle.devices.specs.ReadLaws.{read_as}
use Rattle.devices.specs.ViewLaws.{writes_then}
use Rattle.work_terms.specs.Disk.{Files, HasCause, HasRead, IsUntouched, LeavesOnly, Rises}
use Rattle.markfile.specs.Fault.{ReadsMarks, name_of, number_of}
use Rattle.markfile.specs.declared.fault.MarkFault.{MarkFault}
use Rattle.markfile.specs.declared.fault.MarkFault.TheVariants as marks
use mathlib.Core.Path.{fun_ext}
use Rattle.job_terms.specs.declared.BoardEvent.{BoardEvent}
use Rattle.job_terms.specs.declared.Progress.{Progress}
use Rattle.job_terms.specs.Board.{Board}
use Rattle.job_terms.specs.Workers.{End, Hand, Nothing}
use Rattle.execution.specs.EventRun.{snapshot_of}
use Rattle.execution.specs.Marking.{NoneStartedBy}
use Rattle.execution.specs.Outcome.{EventsDone, Finished, NotFinished, NotLaidOut, Outcome, Stopped}
use Rattle.execution.specs.Plan.{JobPlan, Stays}
use Rattle.execution.specs.declared.fault.ExecutionFault.{ExecutionFault}
use Rattle.consolidate.specs.Commands.{HoldsOfOutput, IsOutput, IsSource, KeepsStores, ReadsSources}
use Rattle.consolidate.specs.Fault.{name_of_output, refusal_of}
use Rattle.consolidate.specs.declared.fault.Fault.{Fault}
use Rattle.consolidate.specs.declared.fault.Fault.TheVariants as fault

-- ---- what a crash leaves, call after call

module _ {D : Type 0} {moment : D → ℕ} {left_since : D → ℕ → Files → Type 0} {P : Files → Type 0} where
  -- what has P has Q
  pub weaker : {Q : Files → Type 0} {old new : D} → ((c : Files) → P c → Q c)
      → LeavesOnly moment left_since old new P → LeavesOnly moment left_since old new Q
  weaker f h = record {
    later = h.later;
    each = λ c l. f c (h.each c l);
    before = λ t c early l. elim (h.before t c early l) [ inl past ↦ inl past | inr p ↦ inr (f c p) ];
  }

  -- one call after another
  pub joined : {old mid new : D} → LeavesOnly moment left_since old mid P → LeavesOnly moment left_since mid new P
      → LeavesOnly moment left_since old new P
  joined {old = old} one other = record {
    later = omega arith;
    each = λ c l. elim (other.before (moment old) c one.later l) [ inl past ↦ one.each c past | inr p ↦ p ];
    before = λ t c early l. elim (other.before t c (omega (arith, early, one.later)) l) [
      | inl past ↦ one.before t c early past
      | inr p ↦ inr p
    ];
  }

  -- no call
  pub idle : {b : D} → ((c : Files) → left_since b (moment b) c → P c) → LeavesOnly moment left_since b b P
  idle each = record { later = omega arith; each = each; before = λ t c early l. inl l }

module _ {D : Type 0} {stored : D → Files} {may_leave : D → Files → Type 0} {moment : D → ℕ}
    {left_since : D → ℕ → Files → Type 0} where
  -- nothing was touched
  pub untouched : {b : D} → ((c : Files) → left_since b (moment b) c → may_leave b c)
      → IsUntouched stored may_leave moment left_since b b
  untouched only_now = record { reads = refl; crash = λ c left. left; moments = idle only_now }

  -- two calls that wrote nothing
  pub untouched_twice : {old mid new : D} → IsUntouched stored may_leave moment left_since old mid
      → IsUntouched stored may_leave moment left_since mid new → IsUntouched stored may_leave moment left_since old new
  untouched_twice one other = record {
    reads = other.reads ∙ one.reads;
    crash = λ c left. one.crash c (other.crash c left);
    moments = joined one.moments (weaker one.crash other.moments);
  }

-- ---- faults, and what is only read

-- no fault of marks tells of a source
no_source : (of : MarkFault) → ¬ IsSource (fault.Marks of)
no_source (marks.Device file) e = true≢false (sym e)
no_source _ e = true≢false (sym e)

-- a device's fault of marks names its file
at_file : (of : MarkFault) (P : List ℕ → Type 0) → number_of of ≡ 62 → P (name_of of) → HoldsOfOutput (fault.Marks of) P
at_file (marks.Device file) P e p = p
at_file _ P e p = absurd (omega (arith, e))

module _ {D : Type 0} {stored : D → Files} {honest : D → Bool} {failures : D → ℕ} {failed_at : D → List ℕ → Type 0}
  where
    -- nothing was read
    unread : {d : D} {quiet device failed : Type 0} → ¬ device
        → HasRead stored honest failures failed_at d d quiet device (device → failed)
    unread none = record {
      same = refl;
      honest_same = refl;
      cause = record { later = omega arith; left = λ quiet. refl; rose = λ device. absurd (none device) };
      keeps = λ n was. was;
      failed_there = λ device. absurd (none device);
    }

-- a failure of the device is counted
rises : {before now : ℕ} {quiet device : Type 0} → HasCause before now quiet device → device → Rises before now
rises cause device = record { later = cause.later; rose = cause.rose device }

-- an opening that didn't fail
abbrev pub IsOpened : {S : Type 0} → source.Ghosts S → S → S → Type 0
IsOpened shelf old new = HasRead shelf.stored shelf.honest shelf.failures shelf.failed_at old new ⊤ ⊥ ⊤

abbrev pub AreOpened : {B : Type 0} → output.Ghosts B → B → B → Type 0
AreOpened bench old new = HasRead bench.stored bench.honest bench.failures bench.failed_at old new ⊤ ⊥ ⊤

-- outputs are only read, and 62 tells that their device failed
abbrev pub ReadsOutputs : {B : Type 0} → output.Ghosts B → B → B → Fault → Type 0
ReadsOutputs bench old new of = HasRead bench.stored bench.honest bench.failures bench.failed_at old new
    (¬ IsOutput of) (IsOutput of) (IsOutput of → HoldsOfOutput of (bench.failed_at new))

abbrev pub IsUntouchedIn : {B : Type 0} → output.Ghosts B → B → B → Type 0
IsUntouchedIn bench old new = IsUntouched bench.stored bench.may_leave bench.moment bench.left_since old new

-- a crash that comes now leaves what one may leave now
abbrev pub LeavesNow : {B : Type 0} → output.Ghosts B → B → Type 0
LeavesNow bench b = (c : Files) → bench.left_since b (bench.moment b) c → bench.may_leave b c

-- what is known of a fault that ended an execution
abbrev pub IsEnd : {B : Type 0} → output.Ghosts B → B → B → Fault → Type 0
IsEnd bench old new fault.WorkerMemory = ⊤
IsEnd bench old new fault.BlockMemory = ⊤
IsEnd bench old new (fault.GivenUp job) = ⊤
IsEnd bench old new (fault.Output file) =
    Rises (bench.failures old) (bench.failures new) × bench.failed_at new (name_of_output file)
IsEnd bench old new _ = ⊥

-- ---- what a call leaves of both

module _ {S B X : Type 0} {shelf : source.Ghosts S} {bench : output.Ghosts B} where
  -- a call that is refused before its first write
  pub refused_early : {old new : S} {before after : B} {of : Fault} → IsUntouchedIn bench before after
      → ReadsSources {X = X} shelf old new (Err of) → ReadsOutputs bench before after of
      → KeepsStores shelf bench {X = X} old new before after (Err of)
  refused_early same sources outputs = assumption (rises sources.cause, rises outputs.cause)

  -- it has only read sources
  pub stopped_early : {old new : S} {b : B} {of : Fault} → LeavesNow bench b
      → ReadsSources {X = X} shelf old new (Err of) → ¬ IsOutput of
      → KeepsStores shelf bench {X = X} old new b b (Err of)
  stopped_early only_now reads no_output = refused_early (untouched only_now) reads (unread no_output)

  -- or touched nothing
  pub not_begun : {s : S} {b : B} {of : Fault} → LeavesNow bench b → ¬ IsSource of → ¬ IsOutput of
      → KeepsStores shelf bench {X = X} s s b b (Err of)
  not_begun only_now no_source no_output = stopped_early only_now (unread no_source) no_output

  -- marks that aren't opened
  pub not_opened : {s : S} {before after : B} {of : MarkFault} → IsUntouchedIn bench before after
      → ReadsMarks {X = Option ℕ} bench before after (Err of)
      → KeepsStores shelf bench {X = X} s s before after (Err (fault.Marks of))
  not_opened {after = after} {of = of} same reads = refused_early same (unread (no_source of))
      (read_as (λ quiet. quiet) (λ device. device)
      (λ failed device. at_file of (bench.failed_at after) device (failed device)) reads)

  module _ {stays : List ℕ → Type 0} {old new : S} {before after : B}
      (reads : Reads (source_view shelf old) (source_view shelf new))
      (writes : Writes stays (output_view bench before) (output_view bench after)) where
    -- a call that was never stopped
    pub went_on : {x : X} → KeepsStores shelf bench {X = X} old new before after (Ok x)
    went_on = assumption

    -- a call that a fault behind the first write ended, which tells of no source
    ended_late : {of : Fault} → (refusal_of of).late ≡ true → ¬ IsSource of → (IsOutput of
        → Rises (bench.failures before) (bench.failures after) × HoldsOfOutput of (bench.failed_at after))
        → KeepsStores shelf bench {X = X} old new before after (Err of)
    ended_late late no_source failed = record {
      early = λ early. absurd (true≢false (sym late ∙ early));
      sources = reads.same;
      honest_shelf = reads.same_honest;
      honest_bench = writes.same_honest;
      later_at_source = reads.later;
      later_at_output = writes.later;
      cause_at_source = λ device. absurd (no_source device);
      cause_of_62 = λ device. (failed device).0;
      quiet_source = λ early. absurd (true≢false (sym late ∙ early));
      quiet_output = λ early. absurd (true≢false (sym late ∙ early));
      failed_source = λ device. absurd (no_source device);
      failed_output = λ device. (failed device).1;
    }

    -- one that ended an execution
    pub ended_by : (of : Fault) → IsEnd bench before after of
        → KeepsStores shelf bench {X = X} old new before after (Err of)
    ended_by fault.WorkerMemory is = ended_late refl (λ e. true≢false (sym e)) (λ e. absurd (omega (arith, e)))
    ended_by fault.BlockMemory is = ended_late refl (λ e. true≢false (sym e)) (λ e. absurd (omega (arith, e)))
    ended_by (fault.GivenUp job) is = ended_late refl (λ e. true≢false (sym e)) (λ e. absurd (omega (arith, e)))
    ended_by (fault.Output file) is = ended_late refl (λ e. true≢false (sym e)) (λ e. is)
    ended_by _ is = absurd is

  -- a call behind an opening that didn't fail
  pub opened_before : {old mid new : S} {before after : B} {result : Result X Fault} → IsOpened shelf old mid
      → KeepsStores shelf bench mid new before after result → KeepsStores shelf bench old new before after result
  opened_before opened told = let quiet = opened.cause.left tt in
      assumption (
        told.sources ∙ opened.same,
        told.honest_shelf ∙ opened.honest_same,
        rw quiet at told.later_at_source,
        rw quiet at told.cause_at_source,
        rw quiet at told.quiet_source,
      )

  -- a call behind marks that were opened
  pub behind_open : {old new : S} {before mid after : B} {result : Result X Fault} → IsUntouchedIn bench before mid
      → AreOpened bench before mid → KeepsStores shelf bench old new mid after result
      → KeepsStores shelf bench old new before after result
  behind_open {result = Ok x} same opened told = let quiet = opened.cause.left tt in
      assumption (told.honest_bench ∙ opened.honest_same, rw quiet at told.later_at_output)
  behind_open {result = Err of} same opened told = let quiet = opened.cause.left tt in
      assumption (
        told.honest_bench ∙ opened.honest_same,
        rw quiet at told.later_at_output,
        rw quiet at told.cause_of_62,
        rw quiet at told.quiet_output,
        λ (early : (refusal_of of).late ≡ false). untouched_twice same (told.early early),
      )

-- ---- an outcome, from the stores in the middle of a call to those at its begin

-- what holds of a call holds of it by the names under which its work, its plan and its board are known, where no worker
-- held anything
pub by_names : {W : Type 0} (plan_of : W → JobPlan) (P : W → JobPlan → Board → (ℕ → Hand) → Type 0) {work known : W}
    {plan : JobPlan} {board first : Board} {had : ℕ → Hand} → work ≡ known → plan ≡ plan_of work → board ≡ first
    → ((w : ℕ) → had w ≡ Nothing) → P work plan board had → P known (plan_of known) first (λ _. Nothing)
by_names plan_of P same planned is idle p = rw (← same, ← is, ← fun_ext idle, ← planned) p

abbrev source_of : Files → Bool → ℕ → (List ℕ → Type 0) → SourceView
source_of files honest failures failed_at =
    record { files = files; honest = honest; failures = failures; failed_at = failed_at }

-- nothing is said of the sources beside their files and failures, nor of the outputs beside their failures
done_as : {Begins Starts : Files → Type 0} {events : List BoardEvent} {plan : JobPlan} {first board : Board} {f : Files}
    {n : ℕ} {h h' : Bool} {p p' : List ℕ → Type 0} {o u : OutputView} {had : ℕ → Hand} {files : Files}
    {shelf_failures bench_failures stale count : ℕ} {ended : Option End} → ((laid : Files) → Begins laid → Starts laid)
    → o.failures ≡ u.failures
    → EventsDone Begins events (snapshot_of plan first 0 (source_of f h n p) o) had board files shelf_failures
    bench_failures stale count ended
    → EventsDone Starts events (snapshot_of plan first 0 (source_of f h' n p') u) had board files shelf_failures
    bench_failures stale count ended
done_as so quiet did = record {
  laid = did.laid;
  begins = so did.laid did.begins;
  few = did.few;
  hands = did.hands;
  run = rw quiet at did.run;
  filled = did.filled;
  complete = did.complete;
  laws = rw quiet at did.laws;
}

-- of sources that hold the same, and of outputs to which nothing was written since
pub outcome_as : {Begins Starts : Files → Type 0} {events : List BoardEvent} {plan after : JobPlan} {first board :
    Board}
    {had : ℕ → Hand} {f g : Files} {n m : ℕ} {h h' k k' : Bool} {p p' q q' : List ℕ → Type 0} {o u e : OutputView}
    {untouched plain : Type 0} {ended : Result Progress ExecutionFault} → (untouched → plain)
    → ((laid : Files) → Begins laid → Starts laid) → o.failures ≡ u.failures
    → ((stays : List ℕ → Type 0) → Writes stays u o)
    → (NoneStartedBy (plan.marking f) u.may_leave → NoneStartedBy (plan.marking f) o.may_leave)
    → Outcome Begins events (snapshot_of plan first 0 (source_of f h n p) o) had
    (snapshot_of after board 0 (source_of g k m q) e) untouched ended
    → Outcome Starts events (snapshot_of plan first 0 (source_of f h' n p') u) had
    (snapshot_of after board 0 (source_of g k' m q') e) plain ended
outcome_as un_so so quiet wrote none (NotLaidOut file un is same still writes laid layout) =
    NotLaidOut file (un_so un) is same still (writes_then (wrote (Stays _)) writes) (λ unstarted. laid (none unstarted))
    (record {
      at = record { rose = rw quiet at layout.at.rose; failed = layout.at.failed };
      early = layout.early;
      before = layout.before;
      after = λ honest i past inside. layout.after (rw (wrote (λ _. ⊤)).same_honest honest) i past inside
          ∙ (wrote (λ _. ⊤)).others honest _ tt;
      blank = λ unstarted. layout.blank (none unstarted);
    })
outcome_as un_so so quiet wrote none (Stopped stale count did stops writes runs) =
    Stopped stale count (done_as so quiet did) stops (writes_then (wrote (Stays _)) writes) runs
outcome_as un_so so quiet wrote none (NotFinished file stale failures files did all is own before rose at runs) =
    NotFinished file stale failures files (done_as so quiet did) all is own before rose
    (record { rose = rw quiet at at.rose; failed = at.failed }) runs
outcome_as un_so so quiet wrote none (Finished stale files did all is own last durable runs) =
    Finished stale files (done_as so quiet did) all is own last durable runs
