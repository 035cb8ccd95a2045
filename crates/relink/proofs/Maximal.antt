-- Runs of kept sample frames contain whole stretches.
use Rattle.std.proofs.Common.{◌≡◌, ◌⊎◌, inl, inr, ℕ, ◌+◌, ◌-◌, ◌<◌, ◌≤◌, Bool, true, false, List, Some, arith}
use Rattle.std.specs.List.{slice_get}
use Rattle.std.proofs.lemmas.Bool.{cases_lt}
use Rattle.facts.specs.Lists.{holds_there}
use Rattle.sound_terms.specs.declared.piece.Run.{Run}
use Rattle.sound_terms.specs.Kept.{AreRuns, IsMaximal}

module _ (kept : ℕ → ℕ → Bool) (home : ℕ → ℕ) (runs : List Run) (are : AreRuns kept home runs) where
  pub maximal_at : (i : ℕ) (run : Run) → slice_get runs i ≡ Some run → IsMaximal kept run
  maximal_at i run there = holds_there (IsMaximal kept) runs i run are.maximal there

  -- If a run contains the start of a kept stretch, it contains all of it.
  pub goes_on_to : (run : Run) → IsMaximal kept run → (frame end : ℕ) → run.first ≤ frame
      → frame < run.first + run.length
      → ((f : ℕ) → frame ≤ f → f < end → kept run.file f ≡ true) → end ≤ run.first + run.length
  goes_on_to run is frame end from to all = by_end (cases_lt (run.first + run.length) end) where
    by_end : (run.first + run.length < end) ⊎ (end ≤ run.first + run.length) → end ≤ run.first + run.length
    by_end (inl past) =
        let own = all (run.first + run.length) (omega arith) past in
        let none : kept run.file (run.first + run.length) ≡ false = is.behind in
        cc
    by_end (inr within) = within

  pub comes_from : (run : Run) → IsMaximal kept run → (start : ℕ)
      → ((f : ℕ) → start ≤ f → f < run.first → kept run.file f ≡ true) → run.first ≤ start
  comes_from run is start all = by_start (cases_lt start run.first) where
    by_start : (start < run.first) ⊎ (run.first ≤ start) → run.first ≤ start
    by_start (inl before) =
        let own = all (run.first - 1) (omega arith) (omega arith) in
        let none : kept run.file (run.first - 1) ≡ false = is.before (omega arith) in
        cc
    by_start (inr within) = within
