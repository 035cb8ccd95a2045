-- Jobs whose marks are set together: each goes by the number of the first of them.
use Rattle.std.specs.Prelude.{◌≡◌, ℕ, ◌<◌, ◌≤◌, ◌==◌, ◌||◌, Bool, true, cond, not}
use Rattle.std.specs.List.{list_all, range_with_len}

-- it is one of them, or comes before it, and all between are of them
pub record IsFirst (group : ℕ → ℕ) (job : ℕ) : Type 0 where
  pub before : group job ≤ job
  pub between : (k : ℕ) → group job ≤ k → k ≤ job → group k ≡ group job

-- so it is for each of so many jobs
abbrev pub AreGroups : (jobs : ℕ) → (ℕ → ℕ) → Type 0
AreGroups jobs group = (job : ℕ) → job < jobs → IsFirst group job

-- whether all are done that are marked together with a job
abbrev pub are_done : (jobs : ℕ) → (ℕ → ℕ) → (ℕ → Bool) → ℕ → Bool
are_done jobs group done job = list_all (λ k. done k || not (group k == group job)) (range_with_len 0 jobs)

-- one job more is done
abbrev pub with_done : (ℕ → Bool) → ℕ → ℕ → Bool
with_done done job k = cond (k == job) true (done k)
