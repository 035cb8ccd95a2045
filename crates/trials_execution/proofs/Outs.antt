-- Two files of an output.
use Rattle.std.proofs.Common.{◌≡◌, ◌≢◌, ◌∙◌, ℕ, ◌+◌, ◌<◌, IsTrue, Option, Some, List, [], ◌∷◌, ◌++◌, codes, replicate, ◌^◌, inl, inr, refl, sym, ap, subst, arith}
use Rattle.std.specs.Prelude.{⊤}
use Rattle.std.proofs.lemmas.Bool.{cases_lt}
use Rattle.std.proofs.lemmas.List.{get_or-replicate, get_or_past}
use Rattle.work_terms.specs.Disk.{Changes, Files, HasCause, HasRead, HasWritten, IsAppended, IsCreated, IsDurable}
use Rattle.job_terms.specs.Workers.{jobs_over}
use Rattle.devices.specs.declared.bench.Bench as bench
use Rattle.execution.specs.Plan.{AreBlank, IsForeign, IsLast, IsOwn, OfJob, OfMarks, Stays}
use Rattle.trials_execution.specs.Listed.{plan_of}

-- a file that the jobs don't write is not "out"
pub no-out : (n : List ℕ) → Stays plan_of n → n ≢ codes "out"
no-out n s e = s.jobs 0 (omega arith) (sym e)

-- a file that the run doesn't write is not "list"
pub no-list : (n : List ℕ) → IsForeign plan_of n → n ≢ codes "list"
no-list n f e = f.last 1 (omega arith, omega arith) (sym e)

-- the file written last is "list"
pub last-one : (i : ℕ) → IsLast plan_of i → i ≡ 1
last-one i last = omega (arith, last.0, last.1)

-- the only other file is "out"
pub own-out : (n : List ℕ) → IsOwn plan_of n → n ≡ codes "out"
own-out n (OfJob k lt e) = sym e
own-out n (OfMarks sources m is e) = absurd (cc)

pub out-list : codes "out" ≢ codes "list"
out-list e = cc

-- no file is written after the list
pub no-more : (i : ℕ) → IsLast plan_of i → 1 < i → ⊥
no-more i last after = omega (arith, last.0, last.1, after)

pub list-there : (files sources : Files) (i : ℕ) → IsLast plan_of i → files (codes "list") ≡ Some (1 ∷ [])
    → files (plan_of.output i) ≡ Some (plan_of.whole sources (plan_of.output i))
list-there files sources i last there = subst (λ (k : ℕ). files (plan_of.output k) ≡ Some (plan_of.whole sources
    (plan_of.output k))) (sym (last-one i last)) there

pub list-durable : (files : Files) (may_leave : Files → Type 0) (i : ℕ) → IsLast plan_of i
    → IsDurable (codes "list") files may_leave → IsDurable (plan_of.output i) files may_leave
list-durable files may_leave i last durable = subst (λ (k : ℕ). IsDurable (plan_of.output k) files may_leave)
    (sym (last-one i last)) durable

-- the cause of a weaker outcome
caused : {before now : ℕ} {quiet device quiet' device' : Type 0} → (quiet' → quiet) → (device' → device)
    → HasCause before now quiet device → HasCause before now quiet' device'
caused is_quiet is_device cause = record {
  later = cause.later;
  left = λ x. cause.left (is_quiet x);
  rose = λ x. cause.rose (is_device x);
}

module _ {B : Type 0} (g : bench.Ghosts B) where
  -- a weaker statement about the files that are unchanged
  pub wider : (P Q : List ℕ → Type 0) → ((n : List ℕ) → Q n → P n) → {old new : B} {q d f q' d' f' : Type 0}
      → (q' → q) → (d' → d) → f'
      → HasWritten g.stored g.honest g.failures g.failed_at g.may_leave P old new q d f
      → HasWritten g.stored g.honest g.failures g.failed_at g.may_leave Q old new q' d' f'
  wider P Q inside quiet device failed h = record {
    others = λ honest n s. h.others honest n (inside n s);
    durable = λ honest n s. h.durable honest n (inside n s);
    honest_same = h.honest_same;
    cause = caused quiet device h.cause;
    keeps = h.keeps;
    failed_there = failed;
  }

  -- one call after another
  pub both : (Q : List ℕ → Type 0) → {old mid new : B} {q d f : Type 0}
      → HasWritten g.stored g.honest g.failures g.failed_at g.may_leave Q old mid ⊤ ⊥ ⊤
      → HasWritten g.stored g.honest g.failures g.failed_at g.may_leave Q mid new q d f
      → HasWritten g.stored g.honest g.failures g.failed_at g.may_leave Q old new q d f
  both Q {old = old} {mid = mid} {new = new} a b = let same = a.cause.left tt in record {
    others = λ honest n s. b.others (subst IsTrue (sym a.honest_same) honest) n s ∙ a.others honest n s;
    durable = λ honest n s x. b.durable (subst IsTrue (sym a.honest_same) honest) n s (a.durable honest n s x);
    honest_same = b.honest_same ∙ a.honest_same;
    cause = record {
      later = omega (arith, a.cause.later, b.cause.later);
      left = λ x. b.cause.left x ∙ same;
      rose = λ x few. subst (λ (k : ℕ). k < g.failures new) same (b.cause.rose x (subst (λ (k : ℕ). k + 1 < 2 ^ 64)
          (sym same) few));
    };
    keeps = λ n x. b.keeps n (a.keeps n x);
    failed_there = b.failed_there;
  }

  -- a call that only reads, with a weaker outcome
  pub read-only : (Q : List ℕ → Type 0) → {old new : B} {q d f q' d' f' : Type 0} → (q' → q) → (d' → d) → f'
      → ((c : Files) → g.may_leave new c → g.may_leave old c)
      → HasRead g.stored g.honest g.failures g.failed_at old new q d f
      → HasWritten g.stored g.honest g.failures g.failed_at g.may_leave Q old new q' d' f'
  read-only Q quiet device failed crash h = record {
    others = λ honest n s. ap (λ (files : Files). files n) h.same;
    durable = λ honest n s x c at. x c (crash c at) ∙ sym (ap (λ (files : Files). files n) h.same);
    honest_same = h.honest_same;
    cause = caused quiet device h.cause;
    keeps = h.keeps;
    failed_there = failed;
  }

  -- the run's other files are unchanged if only "list" is written after a call that only reads
  pub own-stays : {old mid new : B} {q d f q' d' f' : Type 0}
      → HasRead g.stored g.honest g.failures g.failed_at old mid q d f
      → HasWritten g.stored g.honest g.failures g.failed_at g.may_leave (λ n. n ≢ codes "list") mid new q' d' f'
      → IsTrue (g.honest old) → (n : List ℕ) → IsOwn plan_of n → g.stored new n ≡ g.stored old n
  own-stays read written honest n own =
      written.others (subst IsTrue (sym read.honest_same) honest) n
      (subst (λ (name : List ℕ). name ≢ codes "list") (sym (own-out n own)) out-list)
      ∙ ap (λ (files : Files). files n) read.same

-- an output file after it is created and 64 zeros are appended
pub blank-out : (old mid new sources : Files) → Changes IsCreated (codes "out") old mid
    → Changes (IsAppended (replicate 64 0)) (codes "out") mid new
    → AreBlank (jobs_over plan_of.jobs sources) (plan_of.whole sources) new
blank-out old mid new sources made added = record {
  each = λ k lt. record {
    bytes = replicate 64 0;
    there = added.here.appended ∙ ap {B = Option (List ℕ)} (λ (f : List ℕ). Some (f ++ replicate 64 0)) empty;
    size = refl;
    outside = λ i out. elim (cases_lt i 64) [
      | inl less ↦ absurd (out i less refl (omega arith) (omega arith))
      | inr past ↦ get_or_past (replicate 64 0) i 0 past ∙ sym (get_or_past (replicate 64 7) i 0 past)
    ];
    zero_within = λ i j below named from to. get_or-replicate 64 i 0 0 (omega (arith, below, from, to));
  };
}
  where
    some : (a b : List ℕ) → Some a ≡ Some b → a ≡ b
    some a b e = cc

    empty : added.here.file ≡ []
    empty = some added.here.file [] (sym added.here.there ∙ made.here)
