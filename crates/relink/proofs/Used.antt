-- Every run is played by an entry.
use Rattle.std.proofs.Common.{◌≡◌, ◌⊎◌, inl, inr, ℕ, suc, ◌+◌, ◌<◌, ◌≤◌, Bool, true, List, [], ◌∷◌, length, get_or, None, Some, sym, subst, ◌∙◌, arith, All}
use Rattle.std.specs.Prelude.{◌==◌, nat_lt}
use Rattle.std.specs.List.{slice_get, Contains}
use Rattle.std.proofs.lemmas.Bool.{or_left, or_right}
use Rattle.std.proofs.lemmas.Bool.Decides.{nat_tests}
use Rattle.std.proofs.lemmas.List.Elements.{All-head, All-tail, All-contains, Contains-append_cases}
use Rattle.std.proofs.lemmas.List.Folds.{Any-from_list_any}
use Rattle.std.proofs.lemmas.Option.{slice_get_cases}
use Rattle.facts.specs.Tests.{and_right}
use Rattle.sound_terms.specs.declared.piece.Home.{Home}
use Rattle.sound_terms.specs.declared.piece.Piece.{Piece}
use Rattle.sound_terms.specs.declared.piece.Run.{Run}
use Rattle.sound_terms.specs.Groups.{IsGroup, pieces_of}
use Rattle.sound_terms.specs.Kept.{AreRuns, HasFrame, IsMaximal, is_near}
use Rattle.sound_terms.specs.HomeLaws.{kept_at_home}
use Rattle.sound_terms.specs.Homes.{AreHomes, addressable_by, kept_of, place_by}
use Rattle.sound_terms.specs.Entries.{length_of_group, placed_of}
use Rattle.list_terms.specs.Binding.{is_used}
use Rattle.list_terms.specs.Renewed.{numbered, run_event, run_number}
use Rattle.mediaset.specs.Runs.{AreApart}
use Rattle.relink.proofs.Maximal.{comes_from, goes_on_to, maximal_at}
use Rattle.relink.proofs.Placing.{ArePlayed, IsPlayed, near_kept, placed_lies}
use Rattle.relink.proofs.RunOf.{run_number_of}
use Rattle.relink.proofs.Stretching.{IsInside, all_inside}

module _ (groups : List (List Piece)) (homes : List Home) (handle : ℕ) (runs : List Run) (are_homes : AreHomes homes)
    (apart : AreApart (place_by homes) runs) (are : AreRuns (kept_of groups homes handle) (place_by homes) runs) where
  abbrev kept : ℕ → ℕ → Bool
  kept = kept_of groups homes handle

  -- A piece that begins in the run.
  record StartsIn (run : Run) (p : Piece) : Type 0 where
    has : Contains (pieces_of groups) p
    frame : HasFrame p.file p.frame run

  -- If a sample frame is kept because of a piece, it is in the run that contains the piece's first sample frame.
  starts_in : (run : Run) → IsMaximal kept run → (p : Piece) → Contains (pieces_of groups) p
      → is_near handle run.file run.first p ≡ true
      → p.frame < addressable_by homes p.file → StartsIn run p
  starts_in run is p has near at_home =
      let same : p.file ≡ run.file = grind (arith, nat_tests) in
      let some : 1 ≤ p.length = grind (arith, nat_tests) in
      let from : p.frame ≤ run.first + handle = grind (arith, nat_tests) in
      let to : run.first < p.frame + p.length + handle = grind (arith, nat_tests) in
      let long : 0 < run.length = is.some in
      let home = kept_at_home groups homes handle in
      let first : kept run.file (run.first + 0) ≡ true = is.inside 0 long in
      let counted : run.first + 0 ≡ run.first = omega arith in
      let first_home : run.first < addressable_by homes run.file = home run.file run.first (rw counted at first) in
      let keeps =
      λ (f : ℕ) (lies : p.frame ≤ f + handle) (ends : f < p.frame + p.length + handle)
      (below : f < addressable_by homes p.file).
      subst (λ (file : ℕ). kept file f ≡ true) same (near_kept groups homes handle p f has some lies ends below) in
      let own_home : run.first < addressable_by homes p.file = rw same first_home in
      record {
        has = has;
        frame = record {
          same_file = sym same;
          from = comes_from kept (place_by homes) runs are run is p.frame
              (λ f above below. keeps f (omega arith) (omega arith) (omega arith));
          to = omega (
            arith,
            goes_on_to kept (place_by homes) runs are run is run.first (p.frame + 1) (omega arith) (omega arith)
                (λ f above below. keeps f (omega arith) (omega arith) (omega arith)),
          );
        };
      }

  -- The entry of a group with such a piece plays the run.
  index_of_group : (k : ℕ) (run : Run) → slice_get runs k ≡ Some run → (p : Piece) → StartsIn run p
      → (q : Piece) (qs : List Piece)
      → IsGroup (q ∷ qs) → All (IsPlayed groups homes handle runs are_homes are) (q ∷ qs) → Contains (q ∷ qs) p
      → run_number 1 runs q.file q.frame ≡ 1 + k
  index_of_group k run there p starts q qs is all has =
      let lies = placed_lies groups homes handle runs are_homes are q qs is all in
      let inside : IsInside q (length_of_group (q ∷ qs)) p =
      All-contains (IsInside q (length_of_group (q ∷ qs))) (q ∷ qs) p (all_inside q qs is) has in
      let own = All-contains (IsPlayed groups homes handle runs are_homes are) (q ∷ qs) p all has in
      let first : lies.run.first ≤ q.frame = lies.from in
      let last : q.frame + length_of_group (q ∷ qs) ≤ lies.run.first + lies.run.length = lies.to in
      let some : 1 ≤ p.length = own.ok.some in
      let one =
      run_number_of (place_by homes) runs p.file p.frame k apart
      (record { run = run; there = there; has = starts.frame }) in
      let other = run_number_of (place_by homes) runs p.file p.frame lies.place apart (record {
        run = lies.run;
        there = lies.there;
        has = record {
          same_file = lies.same_file ∙ sym inside.same_file;
          from = omega (arith, inside.from);
          to = omega (arith, inside.to);
        };
      }) in
      let playing = run_number_of (place_by homes) runs q.file q.frame lies.place apart (record {
        run = lies.run;
        there = lies.there;
        has = record { same_file = lies.same_file; from = first; to = omega (arith, inside.from, inside.to) };
      }) in
      playing ∙ sym other ∙ one

  used_by : (k : ℕ) (run : Run) → slice_get runs k ≡ Some run → (p : Piece) → StartsIn run p
      → (number : ℕ) (gs : List (List Piece))
      → All (ArePlayed groups homes handle runs are_homes are) gs → Contains (pieces_of gs) p
      → is_used (numbered (run_event homes runs) number (placed_of gs)) (1 + k) ≡ true
  used_by k run there p starts number [] all has = absurd (omega (arith, has.1))
  used_by k run there p starts number ([] ∷ gs) all has =
      absurd (All-head (ArePlayed groups homes handle runs are_homes are) [] gs all).0
  used_by k run there p starts number ((q ∷ qs) ∷ gs) all has =
      by_side (λ later. used_by k run there p starts (suc number) gs
      (All-tail (ArePlayed groups homes handle runs are_homes are) (q ∷ qs) gs all) later)
      (Contains-append_cases (q ∷ qs) (pieces_of gs) p has) where
        by_side : (Contains (pieces_of gs) p
            → is_used (numbered (run_event homes runs) (suc number) (placed_of gs)) (1 + k) ≡ true)
            → Contains (q ∷ qs) p ⊎ Contains (pieces_of gs) p
            → is_used (numbered (run_event homes runs) number (placed_of ((q ∷ qs) ∷ gs))) (1 + k) ≡ true
        by_side rest (inl here) =
            let group = All-head (ArePlayed groups homes handle runs are_homes are) (q ∷ qs) gs all in
            let index = index_of_group k run there p starts q qs group.0 group.1 here in
            let found : (run_number 1 runs q.file q.frame == 1 + k) ≡ true = grind (arith, nat_tests) in
            or_left (run_number 1 runs q.file q.frame == 1 + k) _ found
        by_side rest (inr later) = or_right (run_number 1 runs q.file q.frame == 1 + k) _ (rest later)

  -- The piece because of which the first sample frame of a run is kept.
  reason : (run : Run) → IsMaximal kept run
      → (p : Piece) × Contains (pieces_of groups) p × (is_near handle run.file run.first p ≡ true)
  reason run is =
      let counted : run.first + 0 ≡ run.first = omega arith in
      let first : kept run.file (run.first + 0) ≡ true = is.inside 0 is.some in
      let any =
      Any-from_list_any (is_near handle run.file run.first) (pieces_of groups)
      (and_right (nat_lt run.first (addressable_by homes run.file)) _
      (subst (λ (f : ℕ). kept run.file f ≡ true) counted first)) in
      (any.1, (any.0, any.2, any.3), any.4)

  pub all_used_by : ((p : Piece) → Contains (pieces_of groups) p → p.frame < addressable_by homes p.file)
      → All (ArePlayed groups homes handle runs are_homes are) groups
      → (k : ℕ) → k < length runs → is_used (numbered (run_event homes runs) 1 (placed_of groups)) (1 + k) ≡ true
  all_used_by at_home all k below = of_run (slice_get_cases runs k).1 where
    of_run : ((run : Run) × (k < length runs) × (slice_get runs k ≡ Some run) × (get_or runs k run ≡ run))
        ⊎ ((length runs ≤ k) × (slice_get runs k ≡ None))
        → is_used (numbered (run_event homes runs) 1 (placed_of groups)) (1 + k) ≡ true
    of_run (inl (run, inside, e, same)) =
        let is = maximal_at kept (place_by homes) runs are k run e in
        let why = reason run is in
        used_by k run e why.0 (starts_in run is why.0 why.1 why.2 (at_home why.0 why.1)) 1 groups all why.1
    of_run (inr past) = absurd (omega (arith, past.0))
