-- The new entries play the same samples as the groups did from their sources.
use Rattle.std.proofs.Common.{◌≡◌, ℕ, zero, suc, ◌+◌, ◌-◌, ◌≤◌, true, false, List, [], ◌∷◌, Some, refl, sym, ap, ◌∙◌, arith, All, IsTrue}
use Rattle.std.specs.Prelude.{ℤ, ◌==◌, nat_lt, nat_le}
use Rattle.std.specs.List.{slice_get, list_all}
use Rattle.std.proofs.lemmas.Bool.{and_parts}
use Rattle.std.proofs.lemmas.Bool.Decides.{nat_tests}
use Rattle.std.proofs.lemmas.List.Elements.{All-head, All-tail}
use Rattle.sound_terms.specs.declared.piece.Home.{Home}
use Rattle.sound_terms.specs.declared.piece.Piece.{Piece}
use Rattle.sound_terms.specs.declared.piece.Placed.{Placed}
use Rattle.sound_terms.specs.declared.piece.Run.{Run}
use Rattle.sound_terms.specs.Mix.{Reading, contribution_of, fade_fraction, index_of, mix_at, share_of}
use Rattle.sound_terms.specs.Groups.{IsGroup, are_whole, is_whole, mix_of, pieces_of, sum_of}
use Rattle.sound_terms.specs.GroupLaws.{sum_of-append}
use Rattle.sound_terms.specs.Homes.{base_by, place_by}
use Rattle.sound_terms.specs.Entries.{placed_by, placed_of, placed_part}
use Rattle.sound_terms.specs.Media.{CopiesRuns}
use Rattle.list_terms.specs.Renewed.{numbered, run_base, run_event, run_index, run_indexes}
use Rattle.mediaset.specs.Runs.{AreApart}
use Rattle.relink.specs.Linked.{IsLinkable}
use Rattle.sound_terms.specs.PlacedLaws.{group_sum, same_under}
use Rattle.relink.proofs.NewLists.{number_there}

-- The index with a number.
index_behind : (homes : List Home) (number k : ℕ) (runs : List Run) (run : Run) → slice_get runs k ≡ Some run
    → index_of (numbered (run_index homes) number runs) (number + k) ≡ Some (run_index homes (number + k) run)
index_behind homes number k [] run there = cc
index_behind homes number zero (r ∷ runs) run there =
    let same : r ≡ run = cc in
    let counted : number + 0 ≡ number = omega arith in
    let found : (number == number) ≡ true = grind (arith, nat_tests) in
    rw (counted, found, same) refl
index_behind homes number (suc k) (r ∷ runs) run there =
    let other : (number == number + suc k) ≡ false = grind (arith, nat_tests) in
    let counted : number + suc k ≡ suc number + k = omega arith in
    rw other (ap (λ (n : ℕ). index_of (numbered (run_index homes) (suc number) runs) n) counted
    ∙ index_behind homes (suc number) k runs run there ∙ ap (λ (n : ℕ). Some (run_index homes n run)) (sym counted))

pub index_there : (homes : List Home) (runs : List Run) (k : ℕ) (run : Run) → slice_get runs k ≡ Some run
    → index_of (run_indexes homes runs) (1 + k) ≡ Some (run_index homes (1 + k) run)
index_there homes runs k run there = index_behind homes 1 k runs run there

module _ (homes : List Home) (runs : List Run) (apart : AreApart (place_by homes) runs) (given copied : Reading)
    (copies : CopiesRuns given runs copied) (channel time : ℕ) where
  -- An entry contributes the same as its group.
  one_event : (number : ℕ) (placed : Placed) → IsLinkable homes runs placed
      → contribution_of copied (run_indexes homes runs) (run_event homes runs number placed) channel time
      ≡ placed_part given placed channel time
  one_event number placed is =
      let index = number_there homes runs apart placed is in
      let found = index_there homes runs is.1.place is.1.run is.1.there in
      let wide : 1 ≤ placed.width = is.0.wide in
      let from : is.1.run.first ≤ placed.frame = is.1.from in
      let to : placed.frame + placed.length ≤ is.1.run.first + is.1.run.length = is.1.to in
      let base : ℕ = base_by homes placed.file in
      let file : is.1.run.file ≡ placed.file = is.1.same_file in
      let last : nat_le channel ((placed.dest + placed.width) - 1) ≡ nat_lt channel (placed.dest + placed.width) =
      grind (arith, nat_tests) in
      let long : (placed.start + placed.length) - placed.start ≡ placed.length = omega arith in
      let medium : (1 + is.1.place) - 1 ≡ is.1.place = omega arith in
      let bases : run_base homes is.1.run ≡ base + is.1.run.first =
      ap (λ (f : ℕ). base_by homes f + is.1.run.first) file in
      rw (index, found, last, long, medium, bases)
      (same_under (nat_le placed.dest channel) (nat_lt channel (placed.dest + placed.width))
      placed.start placed.length time _ _
      (λ begun inside.
      let at : ℕ = ((base + placed.frame) - (base + is.1.run.first)) + (time - placed.start) in
      let frame : is.1.run.first + at ≡ placed.frame + (time - placed.start) = omega arith in
      let sample = copies is.1.place (placed.first + (channel - placed.dest)) at is.1.run is.1.there (omega arith) in
      ap (λ (x : ℤ). share_of x (fade_fraction placed.rise placed.fall placed.length (time - placed.start)))
      (sample ∙ ap (λ (f : ℕ). given f (placed.first + (channel - placed.dest)) (is.1.run.first + at)) file
      ∙ ap (λ (f : ℕ). given placed.file (placed.first + (channel - placed.dest)) f) frame)))

  all_events : (number : ℕ) (gs : List (List Piece)) → All IsGroup gs → are_whole gs ≡ true
      → All (IsLinkable homes runs) (placed_of gs)
      → mix_at copied (run_indexes homes runs) (numbered (run_event homes runs) number (placed_of gs)) channel time
      ≡ sum_of given (pieces_of gs) channel time
  all_events number [] are_groups whole all = refl
  all_events number ([] ∷ gs) are_groups whole all = absurd (All-head IsGroup [] gs are_groups)
  all_events number ((p ∷ ps) ∷ gs) are_groups whole all =
      let split = and_parts (list_all is_whole (p ∷ ps)) (are_whole gs) whole in
      let placed = placed_by p (p ∷ ps) in
      let here = one_event number placed (All-head (IsLinkable homes runs) placed (placed_of gs) all)
      ∙ group_sum given p ps channel time (All-head IsGroup (p ∷ ps) gs are_groups) split.0 in
      let rest =
      all_events (suc number) gs (All-tail IsGroup (p ∷ ps) gs are_groups) split.1
      (All-tail (IsLinkable homes runs) placed (placed_of gs) all) in
      let append = sum_of-append given (p ∷ ps) (pieces_of gs) channel time in
      rw (here, rest) (sym append)

  pub relinked : (groups : List (List Piece)) → All IsGroup groups → IsTrue (are_whole groups)
      → All (IsLinkable homes runs) (placed_of groups)
      → mix_at copied (run_indexes homes runs) (numbered (run_event homes runs) 1 (placed_of groups)) channel time
      ≡ mix_of given groups channel time
  relinked groups are_groups whole all = all_events 1 groups are_groups whole all
