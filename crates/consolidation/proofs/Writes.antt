-- What calls leave of a bench, where fewer files stay, or one call comes after another.
use Rattle.std.proofs.Common.{◌∙◌, ℕ, IsTrue, List, sym, ap, subst}
use Rattle.work_terms.specs.Disk.{Files, HasRead, HasWritten}
use Rattle.devices.specs.declared.bench.Bench as bench

module _ {B : Type 0} (g : bench.Ghosts B) where
  -- fewer files stay, and a failure is said otherwise
  pub wider : (P Q : List ℕ → Type 0) → ((n : List ℕ) → Q n → P n) → {old new : B} {q d f f' : Type 0} → (f → f')
      → HasWritten g.stored g.honest g.failures g.failed_at g.may_leave P old new q d f
      → HasWritten g.stored g.honest g.failures g.failed_at g.may_leave Q old new q d f'
  wider P Q inside failed call = search (inside, failed, call.others, call.durable)

  -- a call that only reads, and lets fewer outcomes be
  pub read_only : (Q : List ℕ → Type 0) → {old new : B} {q d f f' : Type 0} → (f → f')
      → ((c : Files) → g.may_leave new c → g.may_leave old c)
      → HasRead g.stored g.honest g.failures g.failed_at old new q d f
      → HasWritten g.stored g.honest g.failures g.failed_at g.may_leave Q old new q d f'
  read_only Q failed crash call = record {
    others = λ honest n stays. ap (λ (files : Files). files n) call.same;
    durable = λ honest n stays durable c at. durable c (crash c at) ∙ sym (ap (λ (files : Files). files n) call.same);
    honest_same = call.honest_same;
    cause = call.cause;
    keeps = call.keeps;
    failed_there = failed call.failed_there;
  }

  -- a call after one that didn't fail
  pub then_writes : (Q : List ℕ → Type 0) → {old mid new : B} {q0 d0 f0 q d f : Type 0} → q0
      → HasWritten g.stored g.honest g.failures g.failed_at g.may_leave Q old mid q0 d0 f0
      → HasWritten g.stored g.honest g.failures g.failed_at g.may_leave Q mid new q d f
      → HasWritten g.stored g.honest g.failures g.failed_at g.may_leave Q old new q d f
  then_writes Q {old = old} {mid = mid} {new = new} quiet one two = let same = one.cause.left quiet in record {
    others = λ honest n s. two.others (subst IsTrue (sym one.honest_same) honest) n s ∙ one.others honest n s;
    durable = λ honest n s x. two.durable (subst IsTrue (sym one.honest_same) honest) n s (one.durable honest n s x);
    honest_same = two.honest_same ∙ one.honest_same;
    cause = rw same at two.cause;
    keeps = λ n x. two.keeps n (one.keeps n x);
    failed_there = two.failed_there;
  }
