-- What follows from how far the jobs of a board are.
use Rattle.std.proofs.Common.{◌≡◌, ℕ, zero, suc, ◌<◌, Bool, true, false, cond, List, [], ◌∷◌, length, get_or, refl, ap, arith}
use Rattle.std.specs.List.{count_by}
use Rattle.std.proofs.lemmas.Bool.Decides.{nat_tests}
use Rattle.std.proofs.lemmas.List.Sums.{count_by-le-length, sum_by-cons}
use Rattle.job_terms.specs.declared.Job.{Job}
use Rattle.job_terms.specs.Board.{Board, is_done, is_finished, no_job}
use Rattle.execution.specs.Marking.{done_of}

all_counted : (p : Job → Bool) (xs : List Job) → count_by p xs ≡ length xs → (k : ℕ) → k < length xs → p
    (get_or xs k no_job) ≡ true
all_counted p [] e k lt = absurd (omega (arith, lt))
all_counted p (x ∷ xs) e zero lt = go (p x) refl
  where
    go : (b : Bool) → p x ≡ b → p x ≡ true
    go true h = h
    go false h = absurd (let first : cond (p x) 1 0 ≡ 0 = ap {B = ℕ} (λ b. cond b 1 0) h in
        omega (arith, sum_by-cons (λ y. cond (p y) 1 0) x xs, first, e, count_by-le-length p xs))
all_counted p (x ∷ xs) e (suc k) lt = all_counted p xs (rest (p x) refl) k (omega (arith, lt))
  where
    rest : (b : Bool) → p x ≡ b → count_by p xs ≡ length xs
    rest true h = let first : cond (p x) 1 0 ≡ 1 = ap {B = ℕ} (λ b. cond b 1 0) h in
        omega (arith, sum_by-cons (λ y. cond (p y) 1 0) x xs, first, e)
    rest false h = absurd (let first : cond (p x) 1 0 ≡ 0 = ap {B = ℕ} (λ b. cond b 1 0) h in
        omega (arith, sum_by-cons (λ y. cond (p y) 1 0) x xs, first, e, count_by-le-length p xs))

-- a finished board's jobs are done
pub finished_done : (board : Board) → is_finished board ≡ true → (k : ℕ) → k < length board.jobs
    → done_of board k ≡ true
finished_done board e k lt = all_counted (λ job. is_done job.standing) board.jobs (grind (arith, nat_tests, e)) k lt
