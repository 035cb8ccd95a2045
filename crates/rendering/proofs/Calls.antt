-- What calls write, and what a crash leaves of them, one call after the other.
use Rattle.std.proofs.Common.{◌≡◌, ◌≢◌, ◌∙◌, ℕ, zero, suc, List, [], ◌∷◌, Option, refl, sym, inl, inr, arith}
use Rattle.std.specs.Prelude.{⊤, Contains}
use Rattle.work_terms.specs.Disk.{Changes, Elapses, Files, Follows, HasWritten, IsBeside, IsUntouched, LeavesOnly, LeavesOthers}
use Rattle.devices.specs.ViewLaws.{crashes_of, crashes_then, crashes_weaker}
use Rattle.devices.specs.Views.{CrashesLeave, output_view}
use Rattle.devices.specs.declared.bench.Bench.{Ghosts}

-- another file than those that change
pub stays_beside : (outcomes : Files → Type 0) (name other : List ℕ) (c : Files) → other ≢ name
    → IsBeside outcomes name c → (d : Files) × outcomes d × (c other ≡ d other)
stays_beside outcomes name other c ne (d, was, change) = (d, was, change other away)
  where
    away : ¬ Contains (name ∷ []) other
    away (zero, lt, e) = ne (sym e)
    away (suc i, lt, e) = omega (arith, lt)

module _ {B : Type 0} (g : Ghosts B) where
  -- ---- the files that stay

  -- a call changes no file that stays
  abbrev pub Wrote : (List ℕ → Type 0) → B → B → (quiet device failed : Type 0) → Type 0
  Wrote = HasWritten g.stored g.honest g.failures g.failed_at g.may_leave

  -- fewer of them, or another file that failed
  pub writes_as : {P Q : List ℕ → Type 0} {old new : B} {quiet device failed other : Type 0}
      → ((n : List ℕ) → Q n → P n) → other → Wrote P old new quiet device failed → Wrote Q old new quiet device other
  writes_as few there w = search (few, there, w.others, w.durable, w)

  -- two calls, of which the first failed nowhere
  pub writes_both : {Q : List ℕ → Type 0} {old mid new : B} {device quiet device2 failed : Type 0}
      → Wrote Q old mid ⊤ device ⊤ → Wrote Q mid new quiet device2 failed → Wrote Q old new quiet device2 failed
  writes_both one two = record {
    others = λ h n k. two.others (rw one.honest_same h) n k ∙ one.others h n k;
    durable = λ h n k was. two.durable (rw one.honest_same h) n k (one.durable h n k was);
    honest_same = two.honest_same ∙ one.honest_same;
    cause = rw (← one.cause.left tt) two.cause;
    keeps = λ n at. two.keeps n (one.keeps n at);
    failed_there = two.failed_there;
  }

  -- ---- what a crash leaves

  -- during a call, as of the bench's views
  pub leaves_as : {P R : Files → Type 0} {old new : B} → ((c : Files) → P c → R c)
      → LeavesOnly g.moment g.left_since old new P → CrashesLeave R (output_view g old) (output_view g new)
  leaves_as {P} {R} so left = crashes_weaker P R so (crashes_of g P left)

  -- during two
  pub leaves_both : {P Q R : Files → Type 0} {old mid new : B} → ((c : Files) → P c → R c)
      → LeavesOnly g.moment g.left_since old mid P → ((c : Files) → Q c → R c)
      → LeavesOnly g.moment g.left_since mid new Q → CrashesLeave R (output_view g old) (output_view g new)
  leaves_both so one also two = crashes_then (leaves_as so one) (leaves_as also two)

  -- during a call it is what was left before, or what may be left after it
  by_call : {P : Files → Type 0} {old new : B} → ((c : Files) → g.left_since old (g.moment old) c → P c)
      → Elapses (g.moment old) (g.moment new) (g.left_since old) (g.left_since new) (g.may_leave new)
      → ((c : Files) → g.may_leave new c → P c) → LeavesOnly g.moment g.left_since old new P
  by_call {old = old} first time after = record {
    later = time.later;
    each = λ c l. elim (time.nothing_else (g.moment old) c (omega arith) l) [
      | inl past ↦ first c past
      | inr left ↦ after c left
    ];
    before = λ t c early l. elim (time.nothing_else t c early l) [
      | inl past ↦ inl past
      | inr left ↦ inr (after c left)
    ];
  }

  -- and during a second
  and_by_call : {P Q : Files → Type 0} {old mid new : B} → LeavesOnly g.moment g.left_since old mid P
      → ((c : Files) → Q c → P c) → LeavesOnly g.moment g.left_since mid new Q
      → LeavesOnly g.moment g.left_since old new P
  and_by_call {old = old} one back two = record {
    later = omega (arith, one.later, two.later);
    each = λ c l. elim (two.before (g.moment old) c one.later l) [ inl past ↦ one.each c past | inr is ↦ back c is ];
    before = λ t c early l. elim (two.before t c (omega (arith, early, one.later)) l) [
      | inl past ↦ one.before t c early past
      | inr is ↦ inr (back c is)
    ];
  }

  -- ---- a call that writes nothing

  -- by itself
  pub untouched_by : {old new : B} → ((c : Files) → g.left_since old (g.moment old) c → g.may_leave old c)
      → Elapses (g.moment old) (g.moment new) (g.left_since old) (g.left_since new) (g.may_leave new)
      → g.stored new ≡ g.stored old → ((c : Files) → g.may_leave new c → g.may_leave old c)
      → IsUntouched g.stored g.may_leave g.moment g.left_since old new
  untouched_by only time same back = record { reads = same; crash = back; moments = by_call only time back }

  -- and behind another such
  pub untouched_then : {old mid new : B} → IsUntouched g.stored g.may_leave g.moment g.left_since old mid
      → IsUntouched g.stored g.may_leave g.moment g.left_since mid new
      → IsUntouched g.stored g.may_leave g.moment g.left_since old new
  untouched_then one two = record {
    reads = two.reads ∙ one.reads;
    crash = λ c at. one.crash c (two.crash c at);
    moments = and_by_call one.moments one.crash two.moments;
  }

  -- ---- a call that changes one file

  module _ (name : List ℕ) where
    -- by itself
    pub one_call : {step : Option (List ℕ) → Option (List ℕ) → Type 0} {old new : B}
        → ((c : Files) → g.left_since old (g.moment old) c → g.may_leave old c)
        → Elapses (g.moment old) (g.moment new) (g.left_since old) (g.left_since new) (g.may_leave new)
        → Follows (Changes step name) (g.may_leave old) (g.may_leave new)
        → LeavesOthers g.may_leave g.moment g.left_since name old new
    one_call {old = old} {new = new} only time follows =
        record { now = now; moments = by_call (λ c past. (c, only c past, λ n _. refl)) time now }
      where
        now : (c : Files) → g.may_leave new c → IsBeside (g.may_leave old) name c
        now c left = let d = follows c left in
            (d.0, d.1, λ n away. d.2.others n (λ e. away (0, omega arith, sym e)))

    -- and behind another that changes it
    pub and_then : {old mid new : B} → LeavesOthers g.may_leave g.moment g.left_since name old mid
        → LeavesOthers g.may_leave g.moment g.left_since name mid new
        → LeavesOthers g.may_leave g.moment g.left_since name old new
    and_then {old = old} {mid = mid} one other =
        record { now = λ c left. back c (other.now c left); moments = and_by_call one.moments back other.moments }
      where
        back : (c : Files) → IsBeside (g.may_leave mid) name c → IsBeside (g.may_leave old) name c
        back c (d, was, change) = let first = one.now d was in
            (first.0, first.1, λ n away. change n away ∙ first.2 n away)
