-- The jobs that are marked together, one after the other.
use Rattle.std.proofs.Common.{◌≡◌, ◌≢◌, ◌∙◌, ℕ, ◌<◌, ◌≤◌, Bool, true, inl, inr, arith}
use Rattle.std.proofs.lemmas.Bool.{cases_lt}
use Rattle.execution.specs.Together.{AreGroups, are_done}
use Rattle.execution.specs.TogetherLaws.{all_done}

-- each of them before this one is done
abbrev pub DoneSoFar : (group : ℕ → ℕ) → (ℕ → Bool) → (job other : ℕ) → Type 0
DoneSoFar group done job other = (k : ℕ) → group job ≤ k → k < other → done k ≡ true

-- behind the last of them all are
pub done-to-last : {jobs job other : ℕ} {group : ℕ → ℕ} {done : ℕ → Bool} → AreGroups jobs group → group job ≤ other
    → DoneSoFar group done job other → (other < jobs → group other ≢ group job)
    → are_done jobs group done job ≡ true
done-to-last {jobs} {job} {other} {group} {done} groups past so_far ends = all_done jobs group job done (λ k lt same.
    elim (cases_lt k other) [
      | inl before ↦ let first = groups k lt in so_far k (omega (arith, first.before, same)) before
      | inr behind ↦ let first = groups k lt in
          absurd (ends (omega (arith, behind, lt)) (first.between other (omega (arith, past, same)) behind ∙ same))
    ])
