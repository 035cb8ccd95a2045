-- The tables of a board after one job is replaced.
use Rattle.std.proofs.Common.{◌≡◌, ℕ, zero, suc, ◌+◌, ◌-◌, ◌<◌, ◌≤◌, Bool, true, false, cond, Some, None, List, [], ◌∷◌, length, get_or, set, refl, sym, ap, ◌∙◌, subst, inl, inr, arith, get_or-set_other, get_or-set_same, length-set, replicate}
use Rattle.std.proofs.lemmas.Bool.{cases_eq}
use Rattle.std.specs.List.{count_by}
use Rattle.std.proofs.lemmas.List.Sums.{sum_by-set, sum_by-cons, count_by-le-length}
use Rattle.std.proofs.lemmas.List.Folds.{sum_by-replicate}
use Rattle.std.proofs.lemmas.List.{get_or-replicate, length-replicate}
use Rattle.job_terms.specs.declared.Standing.{Standing}
use Rattle.job_terms.specs.declared.Standing.TheVariants.{Open, Out, Done}
use Rattle.job_terms.specs.declared.Job.{Job}
use Rattle.job_terms.specs.declared.Counts.{Counts}
use Rattle.job_terms.specs.Board.{is_open, is_out, is_done, is_givable, no_job, fresh_job, first_in}
use Rattle.workboard.specs.Indexed.{IsOrder, IsCounted, IsIndexed, AreCounts}

-- the count after one job is replaced
pub count-set : (p : Job → Bool) (jobs : List Job) (k : ℕ) (job : Job) → k < length jobs
    → count_by p (set jobs k job) + cond (p (get_or jobs k no_job)) 1 0 ≡ count_by p jobs + cond (p job) 1 0
count-set p jobs k job lt = sum_by-set (λ x. cond (p x) 1 0) jobs k job no_job lt

-- a job that is counted makes the count positive
pub counts-one : (p : Job → Bool) (jobs : List Job) (k : ℕ) (job : Job) → k < length jobs → p job ≡ false
    → cond (p (get_or jobs k no_job)) 1 0 ≤ count_by p jobs
counts-one p jobs k job lt none =
    let zero_of : cond (p job) 1 0 ≡ 0 = ap {B = ℕ} (λ b. cond b 1 0) none in omega (
      arith,
      count-set p jobs k job lt,
      zero_of,
    )

pub indexed-put : (jobs : List Job) (order places : List ℕ) (firsts : List Bool) (counts now : Counts) (k : ℕ)
    (job : Job)
    → IsIndexed jobs order places firsts counts → k < length jobs → IsCounted job → AreCounts now (set jobs k job)
    → IsIndexed (set jobs k job) order places (set firsts (get_or places k 0) (is_givable job)) now
indexed-put jobs order places firsts counts now k job t lt counted are =
    let same = length-set jobs k job in record {
      few = omega (arith, same, t.few);
      whole = t.whole ∙ sym same;
      placed_all = t.placed_all ∙ sym same;
      flags = length-set firsts (get_or places k 0) (is_givable job) ∙ t.flags ∙ sym same;
      placed = λ i lt. t.placed i (omega (arith, same, lt));
      place_below = λ i lt. omega (arith, same, t.place_below i (omega (arith, same, lt)));
      job_below = λ i lt. omega (arith, same, t.job_below i (omega (arith, same, lt)));
      back = λ i lt. t.back i (omega (arith, same, lt));
      flagged = λ p lt. flagged p (omega (arith, same, lt));
      counts_of = are;
      counted = λ i lt. each i (omega (arith, same, lt));
    }
  where
    flagged : (p : ℕ) → p < length jobs → get_or (set firsts (get_or places k 0) (is_givable job)) p false
        ≡ is_givable (get_or (set jobs k job) (get_or order p 0) no_job)
    flagged p below = elim (cases_eq p (get_or places k 0)) [
      | inl e ↦ ap (λ i. get_or (set firsts (get_or places k 0) (is_givable job)) i false) e
          ∙ get_or-set_same firsts (get_or places k 0) (is_givable job) false (omega (
            arith,
            t.flags,
            t.place_below k
                lt,
          ))
          ∙ sym (ap is_givable (ap (λ i. get_or (set jobs k job) i no_job) (ap (λ i. get_or order i 0) e ∙ t.placed k
          lt)
          ∙ get_or-set_same jobs k job no_job lt))
      | inr ne ↦ get_or-set_other firsts (get_or places k 0) p (is_givable job) false ne ∙ t.flagged p below
          ∙ sym (ap is_givable (get_or-set_other jobs k (get_or order p 0) job no_job
          (λ h. ne (sym (t.back p below) ∙ ap (λ i. get_or places i 0) h))))
    ]

    each : (i : ℕ) → i < length jobs → IsCounted (get_or (set jobs k job) i no_job)
    each i below = elim (cases_eq i k) [
      | inl e ↦ subst IsCounted (sym (ap (λ j. get_or (set jobs k job) j no_job) e ∙ get_or-set_same jobs k job no_job
          lt)) counted
      | inr ne ↦ subst IsCounted (sym (get_or-set_other jobs k i job no_job ne)) (t.counted i below)
    ]

-- the first position whose flag is set has the first job in the order that passes the test
pub first-at : (test : ℕ → Bool) (xs : List ℕ) (p : ℕ) → p < length xs → test (get_or xs p 0) ≡ true
    → ((q : ℕ) → q < p → test (get_or xs q 0) ≡ false) → first_in test xs ≡ Some (get_or xs p 0)
first-at test [] p lt on before = absurd (omega (arith, lt))
first-at test (x ∷ xs) zero lt on before = ap (λ b. cond b (Some x) (first_in test xs)) on
first-at test (x ∷ xs) (suc p) lt on before =
    ap (λ b. cond b (Some x) (first_in test xs)) (before zero (omega arith))
    ∙ first-at test xs p (omega (arith, lt)) on (λ q le. before (suc q) (omega (arith, le)))

pub first-none : (test : ℕ → Bool) (xs : List ℕ) → ((q : ℕ) → q < length xs → test (get_or xs q 0) ≡ false)
    → first_in test xs ≡ None
first-none test [] before = refl
first-none test (x ∷ xs) before = ap (λ b. cond b (Some x) (first_in test xs)) (before zero (omega arith))
    ∙ first-none test xs (λ q le. before (suc q) (omega (arith, le)))

-- the new count from the old one, and its upper bound
pub count-moves : (p : Job → Bool) (jobs : List Job) (k : ℕ) (job : Job) → k < length jobs
    → (count_by p (set jobs k job) ≡ count_by p jobs + cond (p job) 1 0 - cond (p (get_or jobs k no_job)) 1 0)
    × (count_by p (set jobs k job) ≤ length jobs)
count-moves p jobs k job lt = (
  omega (arith, count-set p jobs k job lt),
  omega (
    arith,
    count_by-le-length p (set jobs k job),
    length-set jobs k
        job,
  ),
)

-- the three counts add up to the number of jobs
pub counts-whole : (jobs : List Job) → count_by (λ job. is_open job.standing) jobs + count_by (λ job. is_out
    job.standing) jobs
    + count_by (λ job. is_done job.standing) jobs ≡ length jobs
counts-whole [] = refl
counts-whole (job ∷ jobs) = omega (
  arith,
  counts-whole jobs,
  one job.standing,
  sum_by-cons (λ x. cond (is_open x.standing) 1 0) job jobs,
  sum_by-cons (λ x. cond (is_out x.standing) 1 0) job jobs,
  sum_by-cons (λ x. cond (is_done x.standing) 1 0) job jobs,
)
  where
    one : (s : Standing) → cond (is_open s) 1 0 + cond (is_out s) 1 0 + cond (is_done s) 1 0 ≡ 1
    one Open = refl
    one Out = refl
    one Done = refl

pub indexed-fresh : (n : ℕ) (order places : List ℕ) → IsOrder n order → length places ≡ n
    → ((p : ℕ) → p < n → get_or places (get_or order p 0) 0 ≡ p)
    → IsIndexed (replicate n fresh_job) order places (replicate n true) (record { idle = n; out = 0; done = 0 })
indexed-fresh n order places t whole back = let same = length-replicate n fresh_job in record {
  few = omega (arith, same, t.few);
  whole = t.whole ∙ sym same;
  placed_all = whole ∙ sym same;
  flags = length-replicate n true ∙ sym same;
  placed = λ k lt. let at = t.each k (omega (arith, same, lt)) in
      ap (λ i. get_or order (get_or places i 0) 0) (sym at.2) ∙ ap (λ i. get_or order i 0) (back at.0 at.1) ∙ at.2;
  place_below = λ k lt. let at = t.each k (omega (arith, same, lt)) in
      let e : get_or places k 0 ≡ at.0 = ap (λ i. get_or places i 0) (sym at.2) ∙ back at.0 at.1 in omega
      (arith, e, at.1, same);
  job_below = λ p lt. omega (arith, same, t.below p (omega (arith, same, lt)));
  back = λ p lt. back p (omega (arith, same, lt));
  flagged = λ p lt. get_or-replicate n p true false (omega (arith, same, lt))
      ∙ sym (ap is_givable (get_or-replicate n (get_or order p 0) fresh_job no_job
      (t.below p (omega (arith, same, lt)))));
  counts_of = record {
    idle = sym (sum_by-replicate (λ job. cond (is_open job.standing) 1 0) n fresh_job ∙ omega arith);
    out = sym (sum_by-replicate (λ job. cond (is_out job.standing) 1 0) n fresh_job ∙ omega arith);
    done = sym (sum_by-replicate (λ job. cond (is_done job.standing) 1 0) n fresh_job ∙ omega arith);
  };
  counted = λ k lt. subst IsCounted (sym (get_or-replicate n k fresh_job no_job (omega (arith, same, lt))))
      (record { faults = omega arith; out = λ h. absurd (cc) });
}
