-- Splitting groups into pieces keeps their sum.
use Rattle.std.proofs.Common.{◌≡◌, ◌∙◌, ℕ, List, [], ◌∷◌, ◌++◌, refl, sym, ap, arith, All}
use Rattle.std.specs.Prelude.{⊤}
use Rattle.std.specs.List.{flat_map, list_all, list_any}
use Rattle.std.proofs.Math.Bool.{and-true, or-false}
use Rattle.std.proofs.lemmas.Int.{ints}
use Rattle.std.proofs.lemmas.List.Elements.{All-cons, All-head, All-nil, All-tail}
use Rattle.std.proofs.lemmas.List.Folds.{list_all-append, list_any-append}
use Rattle.facts.specs.Lists.{all_of_parts}
use Rattle.sound_terms.specs.declared.piece.Piece.{Piece}
use Rattle.sound_terms.specs.Mix.{Reading}
use Rattle.sound_terms.specs.Groups.{IsGroup, IsPiece, are_whole, is_read, is_whole, mix_of, pieces_of, reads, sum_of}
use Rattle.passes.specs.Alone.{each_alone}

alone-append : (a b : List Piece) → each_alone (a ++ b) ≡ each_alone a ++ each_alone b
alone-append [] b = refl
alone-append (p ∷ ps) b = ap (λ rest. (p ∷ []) ∷ rest) (alone-append ps b)

-- one group for each piece of all groups
pub all_alone : (groups : List (List Piece)) → flat_map each_alone groups ≡ each_alone (pieces_of groups)
all_alone [] = refl
all_alone (group ∷ groups) =
    ap (λ rest. each_alone group ++ rest) (all_alone groups) ∙ sym (alone-append group (pieces_of groups))

mix_alone : (r : Reading) (pieces : List Piece) (channel time : ℕ)
    → mix_of r (each_alone pieces) channel time ≡ sum_of r pieces channel time
mix_alone r [] channel time = refl
mix_alone r (p ∷ ps) channel time = omega (arith, ints, mix_alone r ps channel time)

pub mix_split : (r : Reading) (groups : List (List Piece)) (channel time : ℕ)
    → mix_of r (flat_map each_alone groups) channel time ≡ mix_of r groups channel time
mix_split r groups channel time = rw (all_alone groups) (mix_alone r (pieces_of groups) channel time)

reads_alone : (file channel frame : ℕ) (pieces : List Piece)
    → reads (each_alone pieces) file channel frame ≡ list_any (λ p. is_read p file channel frame) pieces
reads_alone file channel frame [] = refl
reads_alone file channel frame (p ∷ ps) =
    rw (or-false (is_read p file channel frame), reads_alone file channel frame ps) refl

pub reads_split : (groups : List (List Piece)) (file channel frame : ℕ)
    → reads (flat_map each_alone groups) file channel frame ≡ reads groups file channel frame
reads_split [] file channel frame = refl
reads_split (group ∷ groups) file channel frame =
    rw (
      list_any-append (λ (g : List Piece). list_any (λ p. is_read p file channel frame) g) (each_alone group)
          (flat_map each_alone groups),
      reads_alone file channel frame group,
      reads_split groups file channel frame,
    ) refl

whole_alone : (pieces : List Piece) → are_whole (each_alone pieces) ≡ list_all is_whole pieces
whole_alone [] = refl
whole_alone (p ∷ ps) = rw (and-true (is_whole p), whole_alone ps) refl

pub whole_split : (groups : List (List Piece)) → are_whole (flat_map each_alone groups) ≡ are_whole groups
whole_split [] = refl
whole_split (group ∷ groups) =
    rw (
      list_all-append (λ (g : List Piece). list_all is_whole g) (each_alone group) (flat_map each_alone groups),
      whole_alone group,
      whole_split groups,
    ) refl

alone_are : (pieces : List Piece) → All IsGroup (each_alone pieces)
alone_are [] = All-nil IsGroup
alone_are (p ∷ ps) = All-cons IsGroup (p ∷ []) (each_alone ps) tt (alone_are ps)

alone_hold : (pieces : List Piece) → All IsPiece pieces → All (All IsPiece) (each_alone pieces)
alone_hold [] all = All-nil (All IsPiece)
alone_hold (p ∷ ps) all =
    All-cons (All IsPiece) (p ∷ []) (each_alone ps)
    (All-cons IsPiece p [] (All-head IsPiece p ps all) (All-nil IsPiece))
    (alone_hold ps (All-tail IsPiece p ps all))

pub split_are : (groups : List (List Piece)) → All IsGroup (flat_map each_alone groups)
split_are groups =
    all_of_parts (λ group. ⊤) IsGroup each_alone (λ group any. alone_are group) groups (λ i d below. tt)

pub split_hold : (groups : List (List Piece)) → All (All IsPiece) groups
    → All (All IsPiece) (flat_map each_alone groups)
split_hold = all_of_parts (All IsPiece) (All IsPiece) each_alone alone_hold
