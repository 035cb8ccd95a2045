-- Laws of the groups of entries, one after another, and of groups ordered by start time.
use Rattle.std.proofs.Common.{◌≡◌, ◌∙◌, ℕ, ◌+◌, true, List, [], ◌∷◌, ◌++◌, All, refl, sym, ap, subst, arith, append_assoc, append-nil, length-append}
use Rattle.std.specs.Prelude.{◌+ℤ◌}
use Rattle.std.specs.List.{list_all}
use Rattle.std.proofs.lemmas.Bool.{and_from}
use Rattle.std.proofs.lemmas.Int.{ints}
use Rattle.std.proofs.lemmas.List.Folds.{list_all-append}
use Rattle.std.proofs.lemmas.List.Elements.{All-append, All-cons, All-nil}
use Rattle.facts.specs.Lists.{all_behind, all_front}
use Rattle.sound_terms.specs.declared.Event.{Event}
use Rattle.sound_terms.specs.declared.BoundIndex.{BoundIndex}
use Rattle.sound_terms.specs.declared.piece.Piece.{Piece}
use Rattle.sound_terms.specs.Mix.{Reading, contribution_of, index_of, mix_at}
use Rattle.sound_terms.specs.GroupLaws.{all_pieces, sum_of-append}
use Rattle.sound_terms.specs.Groups.{are_whole, holding, in_start_order, is_whole, pieces_of, sum_of}
use Rattle.sound_terms.specs.OrderLaws.{all_in_order, total, total_in_order}
use Rattle.sound_terms.specs.Passes.{as_group}
use Rattle.sound_terms.specs.Entries.{groups_in_turn, parts_by}
use Rattle.list_terms.specs.Binding.{Binding}
use Rattle.list_terms.specs.BoundHomes.{homes_of}
use Rattle.list_terms.specs.Heard.{sounds_of}
use Rattle.interval.specs.AtHome.{IsAtHome}
use Rattle.interval.specs.EntrySound.{SoundAs, SoundsAs}
use Rattle.interval.proofs.PartsLie.{holding-append}

groups_in_turn-push : (indexes : List BoundIndex) (events : List Event) (event : Event)
    → groups_in_turn indexes (events ++ event ∷ [])
    ≡ groups_in_turn indexes events ++ as_group (parts_by (index_of indexes event.index) event)
groups_in_turn-push indexes [] event = append-nil (as_group (parts_by (index_of indexes event.index) event))
groups_in_turn-push indexes (first ∷ events) event =
    ap (λ rest. as_group (parts_by (index_of indexes first.index) first) ++ rest)
    (groups_in_turn-push indexes events event)
    ∙ sym (append_assoc (as_group (parts_by (index_of indexes first.index) first)) (groups_in_turn indexes events)
    (as_group (parts_by (index_of indexes event.index) event)))

mix_at-push : (r : Reading) (indexes : List BoundIndex) (events : List Event) (event : Event) (channel time : ℕ)
    → mix_at r indexes (events ++ event ∷ []) channel time
    ≡ mix_at r indexes events channel time +ℤ contribution_of r indexes event channel time
mix_at-push r indexes [] event channel time = omega (arith, ints)
mix_at-push r indexes (first ∷ events) event channel time = let rest =
    mix_at-push r indexes events event channel time in omega (arith, ints, rest)

pieces_of-append : (a b : List (List Piece)) → pieces_of (a ++ b) ≡ pieces_of a ++ pieces_of b
pieces_of-append [] b = refl
pieces_of-append (group ∷ groups) b =
    ap (λ rest. group ++ rest) (pieces_of-append groups b) ∙ sym (append_assoc group (pieces_of groups) (pieces_of b))

pieces_of-alone : (parts : List Piece) → pieces_of (as_group parts) ≡ parts
pieces_of-alone [] = refl
pieces_of-alone (p ∷ ps) = append-nil (p ∷ ps)

are_whole-append : (a b : List (List Piece)) → are_whole a ≡ true → are_whole b ≡ true → are_whole (a ++ b) ≡ true
are_whole-append a b first second =
    rw (list_all-append (λ (group : List Piece). list_all is_whole group) a b)
    (and_from (are_whole a) (are_whole b) first second)

alone_whole : (parts : List Piece) → list_all is_whole parts ≡ true → are_whole (as_group parts) ≡ true
alone_whole [] whole = refl
alone_whole (p ∷ ps) whole = rw whole refl

-- No entry, no group.
pub silence : (binding : Binding) → SoundAs binding [] []
silence binding = record {
  turn = refl;
  mix = λ reading channel time. refl;
  whole = refl;
  lie = All-nil (IsAtHome (sounds_of binding) (homes_of binding));
  few = λ time. omega arith;
}

-- One more entry.
pub one_more : (binding : Binding) (events : List Event) (event : Event) (groups new : List (List Piece))
    → SoundAs binding events groups
    → SoundsAs binding event (parts_by (index_of binding.indexes event.index) event)
    → new ≡ groups ++ as_group (parts_by (index_of binding.indexes event.index) event)
    → SoundAs binding (events ++ event ∷ []) new
one_more binding events event groups new so_far own pushed =
    let parts = parts_by (index_of binding.indexes event.index) event in
    let pieces : pieces_of new ≡ pieces_of groups ++ parts =
    ap pieces_of pushed ∙ pieces_of-append groups (as_group parts)
    ∙ ap (λ more. pieces_of groups ++ more) (pieces_of-alone parts) in
    record {
      turn = pushed ∙ ap (λ g. g ++ as_group parts) so_far.turn
          ∙ sym (groups_in_turn-push binding.indexes events event);
      mix = λ reading channel time.
          ap (λ ps. sum_of reading ps channel time) pieces ∙ sum_of-append reading (pieces_of groups) parts channel time
          ∙ rw (so_far.mix reading channel time, own.mix reading channel time) refl
          ∙ sym (mix_at-push reading binding.indexes events event channel time);
      whole = ap are_whole pushed ∙ are_whole-append groups (as_group parts) so_far.whole (alone_whole parts own.whole);
      lie = subst (All (IsAtHome (sounds_of binding) (homes_of binding))) (sym pieces)
          (All-append (IsAtHome (sounds_of binding) (homes_of binding)) (pieces_of groups) parts so_far.lie own.lies);
      few = λ time.
          let held = ap (holding time) pieces ∙ holding-append time (pieces_of groups) parts in
          let before = so_far.few time in
          let once = own.once time in
          let longer = length-append events (event ∷ []) in
          omega (arith, held, before, once, longer);
    }

-- A property of all pieces is a property of the pieces of each group.
of_each : (P : Piece → Type 0) (groups : List (List Piece)) → All P (pieces_of groups) → All (All P) groups
of_each P [] all = All-nil (All P)
of_each P (group ∷ groups) all =
    All-cons (All P) group groups (all_front P group (pieces_of groups) all)
    (of_each P groups (all_behind P group (pieces_of groups) all))

pub lie_in_order : (P : Piece → Type 0) (groups : List (List Piece)) → All P (pieces_of groups)
    → All P (pieces_of (in_start_order groups))
lie_in_order P groups all =
    all_pieces P (in_start_order groups) (all_in_order (All P) groups (of_each P groups all))

-- The number of pieces at a time is the sum over the groups.
held_total : (time : ℕ) (groups : List (List Piece))
    → holding time (pieces_of groups) ≡ total ◌+◌ 0 (holding time) groups
held_total time [] = refl
held_total time (group ∷ groups) =
    holding-append time group (pieces_of groups) ∙ ap (λ n. holding time group + n) (held_total time groups)

pub holding_in_order : (time : ℕ) (groups : List (List Piece))
    → holding time (pieces_of (in_start_order groups)) ≡ holding time (pieces_of groups)
holding_in_order time groups =
    held_total time (in_start_order groups)
    ∙ total_in_order ◌+◌ 0 (holding time) (λ a b c. omega arith) groups
    ∙ sym (held_total time groups)
