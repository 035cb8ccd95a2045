-- Runs of kept sample frames are disjoint, and end before the end of the day.
use Rattle.std.proofs.Common.{◌≡◌, ◌⊎◌, inl, inr, ℕ, ◌+◌, ◌-◌, ◌<◌, ◌≤◌, Bool, true, false, List, Some, refl, arith, subst, All, length}
use Rattle.std.specs.Prelude.{◌==◌, ◌&&◌, nat_lt}
use Rattle.std.specs.List.{slice_get}
use Rattle.std.proofs.lemmas.Bool.{cases_lt}
use Rattle.std.proofs.lemmas.Bool.Decides.{nat_tests}
use Rattle.facts.specs.Lists.{holds_there}
use Rattle.sound_terms.specs.declared.piece.Home.{Home}
use Rattle.sound_terms.specs.declared.piece.Piece.{Piece}
use Rattle.sound_terms.specs.declared.piece.Run.{Run}
use Rattle.sound_terms.specs.HomeLaws.{addressable_in_day, kept_at_home, same_file}
use Rattle.sound_terms.specs.Homes.{AreHomes, addressable_by, kept_of, place_by}
use Rattle.sound_terms.specs.Kept.{AreRuns, IsMaximal, comes_before}
use Rattle.mediaset.specs.Runs.{AreApart, AreIndexable, EndsBefore, EndsInDay}

module _ (kept : ℕ → ℕ → Bool) (homes : List Home) (runs : List Run)
    (at_home : (file frame : ℕ) → kept file frame ≡ true → frame < addressable_by homes file)
    (are_homes : AreHomes homes) (are : AreRuns kept (place_by homes) runs) where
  maximal_at : (i : ℕ) (run : Run) → slice_get runs i ≡ Some run → IsMaximal kept run
  maximal_at i run there = holds_there (IsMaximal kept) runs i run are.maximal there

  -- The sample frames of a run are kept.
  run_kept : (run : Run) → IsMaximal kept run → (frame : ℕ) → run.first ≤ frame → frame < run.first + run.length
      → kept run.file frame ≡ true
  run_kept run is frame from to =
      let place : run.first + (frame - run.first) ≡ frame = omega arith in
      subst (λ (f : ℕ). kept run.file f ≡ true) place (is.inside (frame - run.first) (omega arith))

  first_kept : (run : Run) → IsMaximal kept run → kept run.file run.first ≡ true
  first_kept run is = run_kept run is run.first (omega arith) (omega (arith, is.some))

  ends_before : (a b : Run) → IsMaximal kept a → IsMaximal kept b → comes_before (place_by homes) a b ≡ true
      → EndsBefore (place_by homes) a b
  ends_before a b is_a is_b order = by_place (nat_lt (place_by homes a.file) (place_by homes b.file)) refl order where
    ends : a.file ≡ b.file → a.first < b.first → (b.first < a.first + a.length) ⊎ (a.first + a.length ≤ b.first)
        → a.first + a.length ≤ b.first
    ends same first (inl inside) =
        let own = run_kept a is_a (b.first - 1) (omega arith) (omega arith) in
        let none : kept a.file (b.first - 1) ≡ false = rw same (is_b.before (omega arith)) in
        cc
    ends same first (inr past) = past

    by_place : (before : Bool) → nat_lt (place_by homes a.file) (place_by homes b.file) ≡ before
        → comes_before (place_by homes) a b ≡ true → EndsBefore (place_by homes) a b
    by_place true e order = inl (grind (arith, nat_tests))
    by_place false e order =
        let rest : (place_by homes a.file == place_by homes b.file && nat_lt a.first b.first) ≡ true = rw e at order in
        let places : place_by homes a.file ≡ place_by homes b.file = grind (arith, nat_tests) in
        let first : a.first < b.first = grind (arith, nat_tests) in
        let same =
        same_file homes are_homes a.file b.file a.first b.first (at_home a.file a.first (first_kept a is_a))
        (at_home b.file b.first (first_kept b is_b)) places in
        inr (same, ends same first (cases_lt b.first (a.first + a.length)))

  pub runs_apart : AreApart (place_by homes) runs
  runs_apart = λ i j a b before here there.
      ends_before a b (maximal_at i a here) (maximal_at j b there) (are.order i j a b before here there)

  run_ends : (run : Run) → IsMaximal kept run → EndsInDay homes run
  run_ends run is =
      let last : ℕ = run.first + (run.length - 1) in
      let below : last < addressable_by homes run.file =
      at_home run.file last (is.inside (run.length - 1) (omega (arith, is.some))) in
      omega (arith, below, is.some, addressable_in_day homes are_homes run.file last below)

  pub runs_end_in_day : All (EndsInDay homes) runs
  runs_end_in_day = λ i d below. run_ends _ (are.maximal i d below)

-- The runs around groups, if there are few enough.
pub indexable : (groups : List (List Piece)) (homes : List Home) (handle : ℕ) (runs : List Run) → AreHomes homes
    → AreRuns (kept_of groups homes handle) (place_by homes) runs → length runs ≤ 32767
    → AreIndexable (record { homes = homes; runs = runs })
indexable groups homes handle runs are_homes are few =
    let home = kept_at_home groups homes handle in
    record {
      homes_ok = are_homes;
      few = few;
      apart = runs_apart (kept_of groups homes handle) homes runs home are_homes are;
      in_day = runs_end_in_day (kept_of groups homes handle) homes runs home are_homes are;
    }
