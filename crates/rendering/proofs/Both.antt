-- A marked rendering's two files: laid out, and synced.
use Rattle.std.proofs.Common.{◌≡◌, ◌∙◌, ◌<◌, ℕ, Bool, IsTrue, true, false, Some, ap, length, refl, sym, arith}
use Rattle.std.specs.Prelude.{◌≢◌, ⊤, Result, Err, IfErr, OnOk}
use Rattle.std.proofs.lemmas.Result.{IfErr-weaker, MatchResult-weaker, on_ok_weaker}
use Rattle.std.proofs.lemmas.Option.{same_Some}
use Rattle.work_terms.specs.Disk.{Files, IsBeside, IsDurable, IsUntouched, LeavesOnly, LeavesOthers}
use Rattle.devices.specs.Views.{output_view}
use Rattle.devices.specs.declared.bench.Bench.{Ghosts}
use Rattle.markfile.specs.Format.{AreFresh, fresh_marks, marks_name, sound_name}
use Rattle.markfile.specs.Started.{Holds, LeavesStart, NoneStarted}
use Rattle.execution.specs.Maker.{Finishes, LaysOut}
use Rattle.execution.specs.Marking.{AreLeftBy, HoldsIn, IsRunning, LaysBy, Marking, NoneStartedBy, is_marked, is_started}
use Rattle.execution.specs.MarkingLaws.{running_fewer, running_leaves}
use Rattle.execution.specs.declared.fault.OutputFault.{OutputFault}
use Rattle.rendering.specs.Maker.{IsMarkedWork, marks_of, plan_of}
use Rattle.rendering.specs.MakerLaws.{started_as}
use Rattle.rendering.specs.Marked.{MarkedWork, laid_file}
use Rattle.rendering.proofs.Jobs.{names_apart}
use Rattle.rendering.proofs.Calls.{Wrote, leaves_as, leaves_both, stays_beside}
use Rattle.rendering.proofs.Laid.{laid_blank, laid_holds, laid_stands}
use Rattle.execution.specs.TogetherLaws.{not_done}
use Rattle.rendering.specs.Cut.{group_at}

-- ---- the rendered file is laid out

module _ {B : Type 0} (g : Ghosts B) (marked : MarkedWork) {old mid : B}
    (beside : LeavesOthers g.may_leave g.moment g.left_since sound_name old mid) where
  -- marks that aren't started stay so meanwhile
  unstarted : ((c : Files) → g.may_leave old c → is_started (c marks_name) ≡ false) → (c : Files)
      → IsBeside (g.may_leave old) sound_name c → is_started (c marks_name) ≡ false
  unstarted none c is =
      let d = stays_beside (g.may_leave old) sound_name marks_name c (λ e. names_apart (sym e)) is in
      ap is_started d.2 ∙ none d.0 d.1

  -- so a crash leaves none that are
  lays_sound : (sources : Files) → NoneStartedBy (Some (marks_of marked sources)) (g.may_leave old) → (c : Files)
      → IsBeside (g.may_leave old) sound_name c → LaysBy (Some (marks_of marked sources)) c
  lays_sound sources none c is started = absurd (cc (started, unstarted none c is))

  -- it couldn't be
  pub lays_none : (fault : OutputFault) → fault.file ≡ 0
      → (IsTrue (g.honest old) → g.stored mid marks_name ≡ g.stored old marks_name)
      → LaysOut (plan_of marked) (output_view g old) (output_view g mid) (Err fault)
  lays_none fault first others = record {
    laid = λ honest sources fit. tt;
    marks = λ honest sources done none. tt;
    any_moment = λ honest sources none. leaves_as g (lays_sound sources none) beside.moments;
    left = λ honest sources none c d at other started. absurd (cc (started, unstarted none c (beside.now c at)));
    early = omega (arith, first);
    before = λ honest sources fit k i lt below same. absurd (omega (arith, below, first));
    after = λ honest i past inside. let is : i ≡ 1 = omega (arith, past, inside, first) in rw is (others honest);
    blank = λ honest sources fit none c at started. absurd (cc (started, unstarted none c (beside.now c at)));
  }

  -- ---- and then its marks are begun

  -- a moment while they are
  abbrev Begins : Files → Type 0
  Begins = LeavesStart marked.run (g.may_leave mid)

  module _ (sources : Files) (is : IsMarkedWork marked) (fresh : AreFresh marked.run (fresh_marks marked.run))
      (laid : g.stored mid sound_name ≡ Some (laid_file marked.work.planned.range)) where
    abbrev m : Marking
    m = marks_of marked sources

    -- the file as it was laid out holds for fresh marks
    sound_left : (c : Files) → c sound_name ≡ g.stored mid sound_name
        → HoldsIn m (is_marked (fresh_marks marked.run)) (c sound_name)
    sound_left c same =
        laid_holds marked sources is.work c (same ∙ laid) is.run (is_marked (fresh_marks marked.run)) fresh.unmarked

    -- the run begins with them, none of its jobs done
    begun_runs : (done : ℕ → Bool) (o : Files → Type 0) → IsDurable sound_name (g.stored mid) o
        → ((c : Files) → o c → c marks_name ≡ Some (fresh_marks marked.run))
        → ((k : ℕ) → k < length marked.work.stretches → done k ≡ false) → (files : Files)
        → files sound_name ≡ g.stored mid sound_name → IsRunning m done files o
    begun_runs done o durable lasts none files same = record {
      marks = fresh_marks marked.run;
      ours = record { front = fresh.ours.front; size = fresh.ours.size };
      tell = λ job b lt from to. fresh.unmarked b
          ∙ sym (not_done (length marked.work.stretches) (group_at marked.work.stretches) job done job lt refl
          (none job lt));
      kept = lasts;
      wave = λ c left. sound_left c (durable c left);
      stands = laid_stands marked sources is.work files (same ∙ laid) done none;
    }

    module _ (durable : IsDurable sound_name (g.stored mid) (g.may_leave mid)) where
      sound_same : (c : Files) → Begins c → c sound_name ≡ g.stored mid sound_name
      sound_same c left =
          let was = stays_beside (g.may_leave mid) marks_name sound_name c names_apart left.beside in
          was.2 ∙ durable was.0 was.1

      -- with marks that are started
      abbrev Begun : Files → Type 0
      Begun c = Begins c × (is_started (c marks_name) ≡ true)

      begun : (c : Files) → Begun c → c marks_name ≡ Some (fresh_marks marked.run)
      begun c (left, started) = left.fresh (sym (started_as (c marks_name)) ∙ started)

      -- none of them is set
      lays_begun : (c : Files) → Begins c → LaysBy (Some m) c
      lays_begun c left started = record {
        marks = fresh_marks marked.run;
        there = begun c (left, started);
        ours = record { front = fresh.ours.front; size = fresh.ours.size };
        still = λ job b lt from to e. cc;
        only = λ job b lt from to set. sym (fresh.unmarked b) ∙ set;
        wave = sound_left c (sound_same c left);
      }

      -- and they are true of each outcome
      left_begun : (o : Files → Type 0) → ((c : Files) → o c → Begins c) → AreLeftBy (Some m) o
      left_begun o each c d at other started = record {
        marks = fresh_marks marked.run;
        there = begun c (each c at, started);
        ours = record { front = fresh.ours.front; size = fresh.ours.size };
        sound = sound_left d (sound_same d (each d other));
      }

  -- it was, and whether its marks were begun
  pub lays_both : {new : B} {quiet device failed : Type 0} (result : Result ⊤ OutputFault) → IsMarkedWork marked
      → (IsTrue (g.honest old) → g.stored mid sound_name ≡ Some (laid_file marked.work.planned.range))
      → (IsTrue (g.honest old) → IsDurable sound_name (g.stored mid) (g.may_leave mid)) → g.honest mid ≡ g.honest old
      → AreFresh marked.run (fresh_marks marked.run)
      → (IsTrue (g.honest mid) → OnOk result (Holds g (fresh_marks marked.run) new))
      → (IsTrue (g.honest mid) → NoneStarted (g.may_leave mid) → LeavesOnly g.moment g.left_since mid new Begins)
      → (IsTrue (g.honest mid) → NoneStarted (g.may_leave mid) → (c : Files) → g.may_leave new c → Begins c)
      → Wrote g (λ n. n ≢ marks_name) mid new quiet device failed → IfErr result (λ fault. fault.file ≡ 1)
      → LaysOut (plan_of marked) (output_view g old) (output_view g new) result
  lays_both {new} result is laid durable same fresh started moments crash w second = record {
    laid = λ honest sources fit. on_ok_weaker result (λ _. laid_blank marked sources is.work (g.stored new)
        (w.others (on honest) sound_name names_apart ∙ laid honest)) (started (on honest));
    marks = λ honest sources done none. on_ok_weaker result
        (λ holds. begun_runs sources is fresh (laid honest) done (g.may_leave new)
        (λ c left. w.durable (on honest) sound_name names_apart (durable honest) c left
        ∙ w.others (on honest) sound_name names_apart) holds.lasts none (g.stored new)
        (w.others (on honest) sound_name names_apart)) (started (on honest));
    any_moment = λ honest sources none. leaves_both g (lays_sound sources none) beside.moments
        (lays_begun sources is fresh (laid honest) (durable honest)) (moments (on honest) (none_begun none));
    left = λ honest sources none. MatchResult-weaker result (started (on honest)) (λ _ _. tt)
        (λ _ _. left_begun sources is fresh (laid honest) (durable honest) (g.may_leave new)
        (crash (on honest) (none_begun none)));
    early = IfErr-weaker result _ _ (λ fault at. omega (arith, at)) second;
    before = λ honest sources fit. IfErr-weaker result _ _ (λ fault at k i lt below same.
        (laid_blank marked sources is.work (g.stored new) (w.others (on honest) sound_name names_apart ∙ laid honest)).each
        k lt) second;
    after = λ honest. IfErr-weaker result _ _ (λ fault at i past inside. absurd (omega (arith, past, inside, at)))
        second;
    blank = λ honest sources fit none. MatchResult-weaker result (started (on honest)) (λ _ _. tt)
        (λ _ _ c at starts. let left = crash (on honest) (none_begun none) c at in (
          lays_begun sources is fresh (laid honest) (durable honest) c left starts,
          laid_blank marked sources is.work c (sound_same sources is fresh (laid honest) (durable honest) c left
              ∙ laid honest),
        ));
  }
    where
      on : IsTrue (g.honest old) → IsTrue (g.honest mid)
      on honest = rw same honest

      -- as the marks' own crate says it
      none_begun : ((c : Files) → g.may_leave old c → is_started (c marks_name) ≡ false) → NoneStarted (g.may_leave mid)
      none_begun none c at = sym (started_as (c marks_name)) ∙ unstarted none c (beside.now c at)

-- ---- nothing comes last, so nothing is written once all jobs are done

-- both files are synced, and no call writes
pub finishes_by : {B : Type 0} (g : Ghosts B) (marked : MarkedWork) {old new : B} (result : Result ⊤ OutputFault)
    → IsUntouched g.stored g.may_leave g.moment g.left_since old new
    → (IsTrue (g.honest old) → OnOk result (IsDurable sound_name (g.stored new) (g.may_leave new)
    × IsDurable marks_name (g.stored new) (g.may_leave new)))
    → Finishes (plan_of marked) (output_view g old) (output_view g new) result
finishes_by g marked {old} {new} result is durable = record {
  stays = λ honest n own. ap (λ (files : Files). files n) is.reads;
  last = λ honest sources hold. on_ok_weaker result (λ both i last. absurd (omega (arith, last))) (durable honest);
  in_order = λ honest.
      MatchResult-weaker result (durable honest) (λ _ _. tt) (λ fault _ i last after. absurd (omega (arith, last)));
  before = λ honest sources hold.
      MatchResult-weaker result (durable honest) (λ _ _. tt) (λ fault _ i last under. absurd (omega (arith, last)));
  durable = λ honest. on_ok_weaker result
      (λ both. record { jobs = λ k below. both.0; last = λ i last. absurd (omega (arith, last)) }) (durable honest);
  marks_durable = λ honest sources m same.
      on_ok_weaker result (λ both. rw (← same_Some (marks_of marked sources) m same) both.1) (durable honest);
  marks = λ honest sources done run. rw is.reads
      (running_fewer (marks_of marked sources) done (g.stored old) (g.may_leave old) run (g.may_leave new) is.crash);
  any_moment = λ honest sources done run. leaves_as g
      (λ c at. running_leaves (marks_of marked sources) done (g.stored old) (g.may_leave old) run c at) is.moments;
}
