-- What calls leave of a store composes: nothing, and one call after another.
use Rattle.std.proofs.Common.{◌∙◌, ℕ, Bool, IsTrue, List, refl, sym, subst, inl, inr, arith}
use Rattle.work_terms.specs.Disk.{Files, HasWritten, LeavesOnly}
use Rattle.devices.specs.declared.bench.Bench as output
use Rattle.devices.specs.Views.{CrashesLeave, OutputView, Reads, SourceView, Writes, output_view}

pub reads_none : (o : SourceView) → Reads o o
reads_none o = record { same = refl; same_honest = refl; later = omega arith; keeps = λ n f. f }

pub reads_then : {old mid new : SourceView} → Reads old mid → Reads mid new → Reads old new
reads_then one two = record {
  same = two.same ∙ one.same;
  same_honest = two.same_honest ∙ one.same_honest;
  later = omega (arith, one.later, two.later);
  keeps = λ n f. two.keeps n (one.keeps n f);
}

pub writes_none : (stays : List ℕ → Type 0) (o : OutputView) → Writes stays o o
writes_none stays o = record {
  same_honest = refl;
  later = omega arith;
  keeps = λ n f. f;
  others = λ h n s. refl;
  durable = λ h n s d. d;
}

pub writes_then : {stays : List ℕ → Type 0} {old mid new : OutputView} → Writes stays old mid → Writes stays mid new
    → Writes stays old new
writes_then {old = old} {mid = mid} one two = record {
  same_honest = two.same_honest ∙ one.same_honest;
  later = omega (arith, one.later, two.later);
  keeps = λ n f. two.keeps n (one.keeps n f);
  others = λ h n s. two.others (on h) n s ∙ one.others h n s;
  durable = λ h n s d. two.durable (on h) n s (one.durable h n s d);
} where
  on : IsTrue old.honest → IsTrue mid.honest
  on h = subst (λ (b : Bool). IsTrue b) (sym one.same_honest) h

-- fewer files stay
pub writes_wider : (stays fewer : List ℕ → Type 0) {old new : OutputView} → ((n : List ℕ) → fewer n → stays n)
    → Writes stays old new → Writes fewer old new
writes_wider stays fewer inside one = record {
  same_honest = one.same_honest;
  later = one.later;
  keeps = one.keeps;
  others = λ h n s. one.others h n (inside n s);
  durable = λ h n s. one.durable h n (inside n s);
}

pub crashes_none : (P : Files → Type 0) (o : OutputView) → ((c : Files) → o.left_since o.moment c → P c)
    → CrashesLeave P o o
crashes_none P o each = record { later = omega arith; each = each; before = λ t c le l. inl l }

pub crashes_then : {P : Files → Type 0} {old mid new : OutputView} → CrashesLeave P old mid → CrashesLeave P mid new
    → CrashesLeave P old new
crashes_then {old = old} one two = record {
  later = omega (arith, one.later, two.later);
  each = λ c l. elim (two.before old.moment c one.later l) [ inl e ↦ one.each c e | inr p ↦ p ];
  before = λ t c le l. elim (two.before t c (omega (arith, le, one.later)) l) [
    | inl e ↦ one.before t c le e
    | inr p ↦ inr p
  ];
}

-- what has P has Q
pub crashes_weaker : (P Q : Files → Type 0) {old new : OutputView} → ((c : Files) → P c → Q c)
    → CrashesLeave P old new → CrashesLeave Q old new
crashes_weaker P Q so one = record {
  later = one.later;
  each = λ c l. so c (one.each c l);
  before = λ t c le l. elim (one.before t c le l) [ inl e ↦ inl e | inr p ↦ inr (so c p) ];
}

-- what one call tells of its store, as of the store's views
pub writes_of : {B : Type 0} (g : output.Ghosts B) {stays : List ℕ → Type 0} {old new : B}
    {quiet device failed : Type 0}
    → HasWritten g.stored g.honest g.failures g.failed_at g.may_leave stays old new quiet device failed
    → Writes stays (output_view g old) (output_view g new)
writes_of g call = record {
  same_honest = call.honest_same;
  later = call.cause.later;
  keeps = call.keeps;
  others = call.others;
  durable = call.durable;
}

pub crashes_of : {B : Type 0} (g : output.Ghosts B) (P : Files → Type 0) {old new : B}
    → LeavesOnly g.moment g.left_since old new P → CrashesLeave P (output_view g old) (output_view g new)
crashes_of g P call = record { later = call.later; each = call.each; before = call.before }
