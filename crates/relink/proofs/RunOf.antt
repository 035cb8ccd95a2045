-- The run that contains a sample frame, by its position among disjoint runs.
use Rattle.std.proofs.Common.{◌≡◌, ◌⊎◌, inl, inr, ℕ, zero, suc, ◌+◌, ◌<◌, ◌≤◌, Bool, true, false, List, [], ◌∷◌, length, get_or, Some, refl, sym, ◌∙◌, arith}
use Rattle.std.specs.Prelude.{◌==◌, nat_lt}
use Rattle.std.specs.List.{slice_get}
use Rattle.std.specs.List.Sorted.{IsPartitionedBy, IsPartitionPoint}
use Rattle.std.proofs.lemmas.Bool.{cases_lt}
use Rattle.std.proofs.lemmas.Bool.Decides.{nat_tests}
use Rattle.std.proofs.lemmas.Option.{slice_get-get_or, slice_get_within, get_or_from_slice_get}
use Rattle.sound_terms.specs.declared.piece.Run.{Run}
use Rattle.sound_terms.specs.Kept.{HasFrame}
use Rattle.sound_terms.specs.Homes.{IsInRun}
use Rattle.list_terms.specs.Renewed.{is_in_run, run_number}
use Rattle.mediaset.specs.Runs.{AreApart, EndsBefore}
use Rattle.relink.specs.Begun.{is_begun}

-- A position in the runs, whose run contains the sample frame.
pub record IsRunAt (runs : List Run) (file frame place : ℕ) : Type 0 where
  pub run : Run
  pub there : slice_get runs place ≡ Some run
  pub has : HasFrame file frame run

pub run_of : (runs : List Run) (file frame : ℕ) → IsInRun runs file frame → (place : ℕ) × IsRunAt runs file frame place
run_of runs file frame is =
    let at = is.1 in (
      at.0,
      record {
        run = is.0;
        there = slice_get-get_or runs at.0 is.0 at.1 ∙ rw at.2 refl;
        has = is.2;
      },
    )

in_it : (file frame : ℕ) (run : Run) → HasFrame file frame run → is_in_run file frame run ≡ true
in_it file frame run has =
    let same : run.file ≡ file = has.same_file in
    let from : run.first ≤ frame = has.from in
    let to : frame < run.first + run.length = has.to in
    grind (arith, nat_tests)

not_in_it : (place : ℕ → ℕ) (file frame : ℕ) (a run : Run) → HasFrame file frame run → EndsBefore place a run
    → is_in_run file frame a ≡ false
not_in_it place file frame a run has (inl before) = by_file (a.file == file) refl where
  by_file : (same : Bool) → (a.file == file) ≡ same → is_in_run file frame a ≡ false
  by_file true e =
      let one : a.file ≡ file = grind (arith, nat_tests) in
      let other : run.file ≡ file = has.same_file in
      let less : place file < place file = rw (one, other) at before in
      absurd (omega (arith, less))
  by_file false e = rw e refl
not_in_it place file frame a run has (inr ends) =
    let from : run.first ≤ frame = has.from in
    let past : nat_lt frame (a.first + a.length) ≡ false = grind (arith, nat_tests, ends.1) in
    grind (arith, nat_tests)

run_number-at : (file frame number place : ℕ) (runs : List Run) (run : Run) → slice_get runs place ≡ Some run
    → HasFrame file frame run
    → ((i : ℕ) (a : Run) → i < place → slice_get runs i ≡ Some a → is_in_run file frame a ≡ false)
    → run_number number runs file frame ≡ number + place
run_number-at file frame number place [] run there has none = cc
run_number-at file frame number zero (r ∷ runs) run there has none =
    let same : r ≡ run = cc in
    let inside : is_in_run file frame r ≡ true = rw same (in_it file frame run has) in
    rw inside (omega arith)
run_number-at file frame number (suc place) (r ∷ runs) run there has none =
    let outside : is_in_run file frame r ≡ false = none 0 r (omega arith) refl in
    rw outside (run_number-at file frame (suc number) place runs run there has
    (λ i a below at. none (suc i) a (omega arith) at) ∙ omega arith)

-- The number of the run that contains the sample frame.
pub run_number_of : (home : ℕ → ℕ) (runs : List Run) (file frame place : ℕ) → AreApart home runs
    → IsRunAt runs file frame place
    → run_number 1 runs file frame ≡ 1 + place
run_number_of home runs file frame place apart is =
    run_number-at file frame 1 place runs is.run is.there is.has
    (λ i a below at. not_in_it home file frame a is.run is.has (apart i place a is.run below at is.there))

module _ (home : ℕ → ℕ) (runs : List Run) (file frame : ℕ) (apart : AreApart home runs) where
  abbrev pub begun : Run → Bool
  begun = is_begun home (home file) frame

  begun_before : (a b : Run) → EndsBefore home a b → begun b ≡ true → begun a ≡ true
  begun_before a b (inl before) is = grind (arith, nat_tests)
  begun_before a b (inr ends) is =
      let same : a.file ≡ b.file = ends.0 in
      let later : a.first ≤ b.first = omega (arith, ends.1) in
      rw same (grind (arith, nat_tests))

  pub parted : IsPartitionedBy begun runs
  parted = λ i j d below inside is. by_order i j d below inside is (cases_lt i j) where
    by_order : (i j : ℕ) (d : Run) → i ≤ j → j < length runs → begun (get_or runs j d) ≡ true → (i < j) ⊎ (j ≤ i)
        → begun (get_or runs i d) ≡ true
    by_order i j d below inside is (inl before) =
        begun_before (get_or runs i d) (get_or runs j d)
        (apart i j (get_or runs i d) (get_or runs j d) before (slice_get-get_or runs i d (omega arith))
        (slice_get-get_or runs j d inside)) is
    by_order i j d below inside is (inr behind) = let same : i ≡ j = omega arith in rw same is

  -- The partition point of the runs is the number of the run.
  pub counted : (place count : ℕ) → IsRunAt runs file frame place → count ≤ length runs
      → IsPartitionPoint (λ run. begun run ≡ true) (λ run. begun run ≡ false) runs count → count ≡ 1 + place
  counted place count is bound point =
      let inside = slice_get_within runs place is.run is.there in
      let here = get_or_from_slice_get runs place is.run is.run is.there in
      let same : is.run.file ≡ file = is.has.same_file in
      let from : is.run.first ≤ frame = is.has.from in
      let to : frame < is.run.first + is.run.length = is.has.to in
      let is_begun_here : begun is.run ≡ true = rw same (grind (arith, nat_tests)) in
      omega (
        arith,
        at_least inside here is_begun_here (cases_lt place count),
        at_most inside (cases_lt (suc place) count),
      ) where
        at_least : place < length runs → get_or runs place is.run ≡ is.run → begun is.run ≡ true
            → (place < count) ⊎ (count ≤ place) → suc place ≤ count
        at_least inside here begins (inl below) = omega arith
        at_least inside here begins (inr above) =
            let not_begun : begun is.run ≡ false = rw here at (point.1 place is.run above inside) in cc

        ends_before : (next : Run) → EndsBefore home is.run next → begun next ≡ false
        ends_before next (inl before) =
            let same : is.run.file ≡ file = is.has.same_file in
            let later : home file < home next.file = rw same at before in
            grind (arith, nat_tests)
        ends_before next (inr ends) =
            let to : frame < is.run.first + is.run.length = is.has.to in
            let same : next.file ≡ file = sym ends.0 ∙ is.has.same_file in
            let later : frame < next.first = omega (arith, ends.1) in
            rw same (grind (arith, nat_tests))

        at_most : place < length runs → (suc place < count) ⊎ (count ≤ suc place) → count ≤ suc place
        at_most inside (inl above) =
            let next = get_or runs (suc place) is.run in
            let begins : begun next ≡ true = point.0 (suc place) is.run (omega arith) above in
            let not_begun =
            ends_before next (apart place (suc place) is.run next (omega arith) is.there
            (slice_get-get_or runs (suc place) is.run (omega arith))) in
            cc
        at_most inside (inr below) = below
