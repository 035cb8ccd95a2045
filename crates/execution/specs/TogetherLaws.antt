-- What follows from jobs whose marks are set together.
use Rattle.std.proofs.Common.{◌≡◌, ◌≢◌, ◌∙◌, ℕ, ◌<◌, ◌==◌, ◌||◌, Bool, true, false, get_or, refl, sym, ap, inl, inr, arith}
use Rattle.std.specs.Prelude.{not}
use Rattle.std.specs.List.{list_all, range_with_len}
use Rattle.std.proofs.lemmas.Bool.{cases_eq}
use Rattle.std.proofs.lemmas.Bool.Decides.{nat_tests}
use Rattle.std.proofs.lemmas.List.Elements.{All-from_get_or}
use Rattle.std.proofs.lemmas.List.Folds.{list_all_at}
use Rattle.std.proofs.lemmas.List.FromFn.{get_or-range_with_len, length-range_with_len}
use Rattle.std.proofs.lemmas.List.Sums.{list_all-from_AllPass}
use Rattle.execution.specs.Marking.{Marking, settled}
use Rattle.execution.specs.Together.{are_done, with_done}

module _ (jobs : ℕ) (group : ℕ → ℕ) (job : ℕ) where
  at : (k : ℕ) → k < jobs → get_or (range_with_len 0 jobs) k 0 ≡ k
  at k lt = get_or-range_with_len 0 jobs k 0 lt ∙ omega arith

  -- where one isn't done, not all are
  pub not_done : (done : ℕ → Bool) (k : ℕ) → k < jobs → group k ≡ group job → done k ≡ false
      → are_done jobs group done job ≡ false
  not_done done k lt same left = list_all_at (λ j. done j || not (group j == group job)) (range_with_len 0 jobs) k 0
      (omega (arith, lt, length-range_with_len 0 jobs))
      (ap (λ j. done j || not (group j == group job)) (at k lt)
      ∙ grind (arith, nat_tests, same, left))

  -- where all are, each is
  pub each_done : (done : ℕ → Bool) → are_done jobs group done job ≡ true → (k : ℕ) → k < jobs → group k ≡ group job
      → done k ≡ true
  each_done done all k lt same = go (done k) refl
    where
      go : (b : Bool) → done k ≡ b → done k ≡ true
      go true e = e
      go false e = absurd (cc (all, not_done done k lt same e))

  pub all_done : (done : ℕ → Bool) → ((k : ℕ) → k < jobs → group k ≡ group job → done k ≡ true)
      → are_done jobs group done job ≡ true
  all_done done each = list_all-from_AllPass test (range_with_len 0 jobs)
      (All-from_get_or (λ k. test k ≡ true) (range_with_len 0 jobs) 0 (λ i lt.
      let below : i < jobs = omega (arith, lt, length-range_with_len 0 jobs) in
      rw (at i below) (passes i below)))
    where
      test : ℕ → Bool
      test k = done k || not (group k == group job)

      passes : (k : ℕ) → k < jobs → (done k || not (group k == group job)) ≡ true
      passes k lt = elim (cases_eq (group k) (group job)) [
        | inl same ↦ grind (arith, nat_tests, each k lt same)
        | inr ne ↦ grind (arith, nat_tests, ne)
      ]

  -- only what is done of these counts
  pub alike_done : (done other : ℕ → Bool) → ((k : ℕ) → k < jobs → group k ≡ group job → done k ≡ other k)
      → are_done jobs group done job ≡ are_done jobs group other job
  alike_done done other same = go (are_done jobs group done job) (are_done jobs group other job) refl refl
    where
      go : (a b : Bool) → are_done jobs group done job ≡ a → are_done jobs group other job ≡ b
          → are_done jobs group done job ≡ are_done jobs group other job
      go true true e f = e ∙ sym f
      go false false e f = e ∙ sym f
      go true false e f = e ∙ sym (all_done other (λ k lt with. sym (same k lt with) ∙ each_done done e k lt with))
      go false true e f = all_done done (λ k lt with. same k lt with ∙ each_done other f k lt with) ∙ sym f

-- what is settled stays so as more is done
pub settled_more : (m : Marking) (fewer more : ℕ → Bool) → ((k : ℕ) → fewer k ≡ true → more k ≡ true) → (k : ℕ)
    → settled m fewer k ≡ true → settled m more k ≡ true
settled_more m fewer more on k is =
    all_done m.jobs m.group k more (λ j lt with. on j (each_done m.jobs m.group k fewer is j lt with))

-- what is settled is done
pub settled_done : (m : Marking) (done : ℕ → Bool) (job : ℕ) → job < m.jobs → settled m done job ≡ true
    → done job ≡ true
settled_done m done job there is = each_done m.jobs m.group job done is job there refl

-- a job is done that wasn't
module _ (m : Marking) (done : ℕ → Bool) (job : ℕ) (there : job < m.jobs) (left : done job ≡ false) where
  abbrev after : ℕ → Bool
  after = with_done done job

  -- which changes nothing for those that are marked with others
  pub others_settled : (k : ℕ) → m.group k ≢ m.group job → settled m after k ≡ settled m done k
  others_settled k other = alike_done m.jobs m.group k after done
      (λ j lt with. unlike j (λ e. other (sym (ap m.group (sym e) ∙ with))))
    where
      unlike : (j : ℕ) → j ≢ job → after j ≡ done j
      unlike j ne = grind (arith, nat_tests, ne)

  -- before it, none was settled that is marked together with it
  pub unsettled : (k : ℕ) → m.group k ≡ m.group job → settled m done k ≡ false
  unsettled k same = not_done m.jobs m.group k done job there (sym same) left

  -- those that are marked together are settled together
  alike : (k : ℕ) → m.group k ≡ m.group job → settled m after k ≡ settled m after job
  alike k same = ap (λ g. list_all (λ j. after j || not (m.group j == g)) (range_with_len 0 m.jobs)) same

  -- where it isn't the last of them nothing is settled by it
  pub still_settled : settled m after job ≡ false → (k : ℕ) → settled m after k ≡ settled m done k
  still_settled more k = elim (cases_eq (m.group k) (m.group job)) [
    | inl same ↦ alike k same ∙ more ∙ sym (unsettled k same)
    | inr ne ↦ others_settled k ne
  ]

  -- where it is, they all are
  pub all_settled : settled m after job ≡ true → (k : ℕ) → m.group k ≡ m.group job → settled m after k ≡ true
  all_settled all k same = alike k same ∙ all
