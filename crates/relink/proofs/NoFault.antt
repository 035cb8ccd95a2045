-- The new entries have no fault.
use Rattle.std.proofs.Common.{◌≡◌, ℕ, suc, ◌+◌, ◌-◌, ◌≤◌, true, false, List, [], ◌∷◌, None, Some, refl, sym, ap, arith, All}
use Rattle.std.specs.Prelude.{nat_lt}
use Rattle.std.specs.List.{slice_get}
use Rattle.std.proofs.lemmas.Bool.Decides.{nat_tests}
use Rattle.std.proofs.lemmas.List.Elements.{All-head, All-tail}
use Rattle.sound_terms.specs.declared.piece.Home.{Home}
use Rattle.sound_terms.specs.declared.piece.Placed.{Placed}
use Rattle.sound_terms.specs.declared.piece.Run.{Run}
use Rattle.sound_terms.specs.Homes.{base_by, place_by}
use Rattle.list_terms.specs.Accepted.{entry_fault, event_fault}
use Rattle.list_terms.specs.Binding.{Binding, OpenedFile}
use Rattle.list_terms.specs.Renewed.{numbered, run_base, run_event, run_indexes}
use Rattle.mediaset.specs.Runs.{AreApart}
use Rattle.relink.specs.Linked.{IsLinkable}
use Rattle.relink.proofs.NewLists.{number_there}
use Rattle.relink.proofs.Relinked.{index_there}

-- The files of the runs have the channels that a group plays.
abbrev pub HasChannelsFor : List Run → List OpenedFile → Placed → Type 0
HasChannelsFor runs files e = (k : ℕ) (run : Run) → slice_get runs k ≡ Some run → e.file ≡ run.file
    → (file : OpenedFile) × (slice_get files k ≡ Some file) × (e.first + e.width ≤ file.facts.channels + 1)

module _ (homes : List Home) (runs : List Run) (apart : AreApart (place_by homes) runs) (binding : Binding)
    (bound : binding.indexes ≡ run_indexes homes runs) where
  no_entry_fault : (number : ℕ) (placed : Placed) → IsLinkable homes runs placed
      → HasChannelsFor runs binding.files placed
      → entry_fault binding (run_event homes runs number placed) ≡ None
  no_entry_fault number placed is channels =
      let index = number_there homes runs apart placed is in
      let found = index_there homes runs is.1.place is.1.run is.1.there in
      let file : is.1.run.file ≡ placed.file = is.1.same_file in
      let medium : (1 + is.1.place) - 1 ≡ is.1.place = omega arith in
      let opened = channels is.1.place is.1.run is.1.there (sym file) in
      let base : ℕ = base_by homes placed.file in
      let bases : run_base homes is.1.run ≡ base + is.1.run.first =
      ap (λ (f : ℕ). base_by homes f + is.1.run.first) file in
      let wide : placed.first + placed.width ≤ opened.0.facts.channels + 1 = opened.2 in
      let from : is.1.run.first ≤ placed.frame = is.1.from in
      let to : placed.frame + placed.length ≤ is.1.run.first + is.1.run.length = is.1.to in
      let fades : placed.rise + placed.fall ≤ placed.length = is.0.fades in
      let some : 1 ≤ placed.length = is.0.some in
      let a : nat_lt (placed.start + placed.length) placed.start ≡ false = grind (arith, nat_tests) in
      let b : nat_lt ((placed.start + placed.length) - placed.start) (placed.rise + placed.fall) ≡ false =
      grind (arith, nat_tests) in
      let c : nat_lt opened.0.facts.channels ((placed.first + placed.width) - 1) ≡ false = grind (arith, nat_tests) in
      let d : nat_lt placed.start (placed.start + placed.length) ≡ true = grind (arith, nat_tests) in
      let e : nat_lt (base + placed.frame) (base + is.1.run.first) ≡ false = grind (arith, nat_tests) in
      let f : nat_lt is.1.run.length (((base + placed.frame) - (base + is.1.run.first)) +
      ((placed.start + placed.length) - placed.start)) ≡ false =
      grind (arith, nat_tests) in
      rw (bound, index, found, medium, opened.1, bases, a, b, c, d, e, f) refl

  pub no_event_fault : (number : ℕ) (groups : List Placed) → All (IsLinkable homes runs) groups
      → All (HasChannelsFor runs binding.files) groups
      → event_fault binding (numbered (run_event homes runs) number groups) ≡ None
  no_event_fault number [] all channels = refl
  no_event_fault number (placed ∷ groups) all channels =
      let here =
      no_entry_fault number placed (All-head (IsLinkable homes runs) placed groups all)
      (All-head (HasChannelsFor runs binding.files) placed groups channels) in
      rw here (no_event_fault (suc number) groups (All-tail (IsLinkable homes runs) placed groups all)
      (All-tail (HasChannelsFor runs binding.files) placed groups channels))
