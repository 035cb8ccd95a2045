-- The new indexes and entries are valid in a project.
use Rattle.std.proofs.Common.{◌≡◌, ℕ, suc, ◌+◌, ◌-◌, ◌<◌, ◌≤◌, true, false, List, [], ◌∷◌, length, refl, arith, All}
use Rattle.std.specs.Prelude.{◌==◌, ◌&&◌, nat_le, map, codes}
use Rattle.std.specs.List.{list_all, AllByRecursion, IsDistinct}
use Rattle.std.proofs.lemmas.Bool.Decides.{nat_tests}
use Rattle.std.proofs.lemmas.List.Elements.{All-head, All-tail}
use Rattle.std.proofs.lemmas.Map.Keys.{IsDistinct-cons}
use Rattle.std.proofs.lemmas.Option.{slice_get_within}
use Rattle.sampletime.specs.TimeCode.{day}
use Rattle.sound_terms.specs.declared.piece.Home.{Home}
use Rattle.sound_terms.specs.declared.piece.Placed.{Placed}
use Rattle.sound_terms.specs.declared.piece.Run.{Run}
use Rattle.sound_terms.specs.Homes.{base_by, place_by}
use Rattle.list_terms.specs.MediaNames.{media_place}
use Rattle.list_terms.specs.Tokens.{token_at}
use Rattle.list_terms.specs.WholeProject.{AreDistinct, AreEvents, AreSources, has_whole_texts, is_event, is_number, is_one_token, is_source}
use Rattle.list_terms.specs.Renewed.{numbered, run_base, run_event, run_number, run_source}
use Rattle.mediaset.specs.Runs.{AreApart, EndsInDay}
use Rattle.relink.specs.Linked.{IsLinkable}
use Rattle.relink.proofs.MediaUrls.{url_quotable}
use Rattle.relink.proofs.RunOf.{run_number_of}

none_distinct : IsDistinct (λ a b. a == b) []
unfolding IsDistinct
none_distinct = tt

-- The identifier is one token.
uid_ok : is_one_token (codes "_") ≡ true
unfolding token_at
uid_ok = refl

-- Numbered elements have distinct numbers.
module _ {X Y : Type 0} (made : ℕ → X → Y) (number_of : Y → ℕ) (told : (n : ℕ) (x : X) → number_of (made n x) ≡ n) where
  later_numbers : (low number : ℕ) (xs : List X) → low < number
      → AllByRecursion (λ n. (low == n) ≡ false) (map number_of (numbered made number xs))
  later_numbers low number [] below = tt
  later_numbers low number (x ∷ xs) below = (
    (let same = told number x in rw same (grind (arith, nat_tests))),
    later_numbers low (suc number) xs (omega arith),
  )

  pub numbers_distinct : (number : ℕ) (xs : List X) → AreDistinct (map number_of (numbered made number xs))
  numbers_distinct number [] = none_distinct
  numbers_distinct number (x ∷ xs) =
      IsDistinct-cons (λ a b. a == b) (number_of (made number x)) (map number_of (numbered made (suc number) xs))
      (rw (told number x) (later_numbers number (suc number) xs (omega arith))) (numbers_distinct (suc number) xs)

module _ (homes : List Home) where
  source_ok : (number : ℕ) (run : Run) → 1 ≤ number → number ≤ 32767 → EndsInDay homes run
      → is_source (run_source homes number run) ≡ true
  source_ok number run some few ends =
      let place = media_place number (omega arith) in
      let start : nat_le (run_base homes run) day ≡ true = grind (arith, nat_tests) in
      let long : nat_le run.length day ≡ true = grind (arith, nat_tests) in
      let low : nat_le 1 number ≡ true = grind (arith, nat_tests) in
      let high : nat_le number 32767 ≡ true = grind (arith, nat_tests) in
      rw (place, start, long, low, high) refl

  sources_ok : (number : ℕ) (runs : List Run) → 1 ≤ number → number + length runs ≤ 32768 → All (EndsInDay homes) runs
      → list_all is_source (numbered (run_source homes) number runs) ≡ true
  sources_ok number [] some few ends = refl
  sources_ok number (run ∷ runs) some few ends =
      rw (source_ok number run some (omega arith) (All-head (EndsInDay homes) run runs ends))
      (sources_ok (suc number) runs (omega arith) (omega arith) (All-tail (EndsInDay homes) run runs ends))

  -- The texts of the indexes are valid in a line.
  texts_ok : (number : ℕ) (runs : List Run) → number + length runs ≤ 32768
      → list_all has_whole_texts (numbered (run_source homes) number runs) ≡ true
  texts_ok number [] few = refl
  texts_ok number (run ∷ runs) few =
      let url = url_quotable number (omega arith) in
      rw (url, uid_ok) (texts_ok (suc number) runs (omega arith))

  pub are_sources : (runs : List Run) → length runs ≤ 32767 → All (EndsInDay homes) runs
      → AreSources (numbered (run_source homes) 1 runs)
  are_sources runs few ends = record {
    numbered = record {
      each = sources_ok 1 runs (omega arith) (omega arith) ends;
      distinct = numbers_distinct (run_source homes) (λ source. source.number) (λ n run. refl) 1 runs;
    };
    texts = texts_ok 1 runs (omega arith);
  }

  -- The number of the run that an entry plays.
  pub number_there : (runs : List Run) → AreApart (place_by homes) runs → (placed : Placed)
      → (is : IsLinkable homes runs placed)
      → run_number 1 runs placed.file placed.frame ≡ 1 + is.1.place
  number_there runs apart placed is =
      run_number_of (place_by homes) runs placed.file placed.frame is.1.place apart
      (record {
        run = is.1.run;
        there = is.1.there;
        has = record { same_file = is.1.same_file; from = is.1.from; to = omega (arith, is.1.to, is.0.some) };
      })

  module _ (runs : List Run) (few_runs : length runs ≤ 32767) (apart : AreApart (place_by homes) runs) where
    event_ok : (number : ℕ) (placed : Placed) → 1 ≤ number → number ≤ 32767 → IsLinkable homes runs placed
        → is_event (run_event homes runs number placed) ≡ true
    event_ok number placed some few is =
        let index = number_there runs apart placed is in
        let within = slice_get_within runs is.1.place is.1.run is.1.there in
        let wide : 1 ≤ placed.width = is.0.wide in
        let a : (nat_le 1 number && nat_le number 32767) ≡ true = grind (arith, nat_tests) in
        let b : is_number (run_number 1 runs placed.file placed.frame) ≡ true = rw index (grind (arith, nat_tests)) in
        let c : (nat_le 1 placed.first
        && (nat_le placed.first ((placed.first + placed.width) - 1)
        && nat_le ((placed.first + placed.width) - 1) 64))
        ≡ true = grind (arith, nat_tests, is.0.source_from_one, is.0.source_to_64) in
        let d : (nat_le 1 placed.dest
        && (nat_le placed.dest ((placed.dest + placed.width) - 1) && nat_le ((placed.dest + placed.width) - 1) 64))
        ≡ true = grind (arith, nat_tests, is.0.dest_from_one, is.0.dest_to_64) in
        let e : (((placed.first + placed.width) - 1) - placed.first == ((placed.dest + placed.width) - 1) - placed.dest)
        ≡ true = grind (arith, nat_tests) in
        let f : nat_le (base_by homes placed.file + placed.frame) day ≡ true =
        grind (arith, nat_tests, is.0.source_in_day) in
        let g : nat_le placed.start day ≡ true = grind (arith, nat_tests, is.0.in_day) in
        let h : nat_le (placed.start + placed.length) day ≡ true = grind (arith, nat_tests, is.0.in_day) in
        let i : nat_le placed.rise day ≡ true = grind (arith, nat_tests, is.0.in_day, is.0.fades) in
        let j : nat_le placed.fall day ≡ true = grind (arith, nat_tests, is.0.in_day, is.0.fades) in
        rw (a, b, c, d, e, f, g, h, i, j) refl

    events_ok : (number : ℕ) (groups : List Placed) → 1 ≤ number → number + length groups ≤ 32768
        → All (IsLinkable homes runs) groups
        → list_all is_event (numbered (run_event homes runs) number groups) ≡ true
    events_ok number [] some few all = refl
    events_ok number (placed ∷ groups) some few all =
        rw (event_ok number placed some (omega arith) (All-head (IsLinkable homes runs) placed groups all))
        (events_ok (suc number) groups (omega arith) (omega arith) (All-tail (IsLinkable homes runs) placed groups all))

    pub are_events : (groups : List Placed) → length groups ≤ 32767 → All (IsLinkable homes runs) groups
        → AreEvents (numbered (run_event homes runs) 1 groups)
    are_events groups few all = record {
      each = events_ok 1 groups (omega arith) (omega arith) all;
      distinct = numbers_distinct (run_event homes runs) (λ event. event.number) (λ n placed. refl) 1 groups;
    }
