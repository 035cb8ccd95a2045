-- The standard passes keep exactly the pieces that aren't silent.
use Rattle.std.proofs.Common.{◌≡◌, ◌∙◌, ℕ, Bool, true, false, List, [], ◌∷◌, length, refl, ap, arith, All}
use Rattle.std.specs.Prelude.{◌&&◌, ◌||◌, not, nat_le, ⊤}
use Rattle.std.specs.List.{list_any}
use Rattle.std.proofs.Math.Bool.{or-false}
use Rattle.std.proofs.lemmas.Bool.Decides.{nat_tests}
use Rattle.std.proofs.lemmas.List.Elements.{All-cons, All-head, All-nil, All-tail}
use Rattle.facts.specs.Tests.{or_exchange}
use Rattle.sound_terms.specs.declared.piece.Piece.{Piece}
use Rattle.sound_terms.specs.Mix.{Reading}
use Rattle.sound_terms.specs.Groups.{is_read, pieces_of, reads}
use Rattle.sound_terms.specs.OrderLaws.{all_in_order, total, total_in_order}
use Rattle.sound_terms.specs.Passes.{is_called, join_cuts, silences, split_fades, standard_groups, without_silent}
use Rattle.passes.specs.Alone.{each_alone}
use Rattle.passes.specs.PlayedLaws.{reads_joined, reads_regrouped}
use Rattle.passes.specs.Silent.{is_silent_in}
use Rattle.passes.specs.Standard.{reads_sounding}

-- a group of one piece
abbrev IsAlone : List Piece → Type 0
IsAlone [] = ⊥
IsAlone (p ∷ []) = ⊤
IsAlone (p ∷ q ∷ ps) = ⊥

all_alone : (pieces : List Piece) → All IsAlone (each_alone pieces)
all_alone [] = All-nil IsAlone
all_alone (p ∷ ps) = All-cons IsAlone (p ∷ []) (each_alone ps) tt (all_alone ps)

called_one : (b : Bool) (silent : List Bool) → is_called 1 (b ∷ silent) ≡ b
called_one true silent =
    let enough : nat_le 1 (length (true ∷ silent)) ≡ true = grind (arith, nat_tests) in rw enough refl
called_one false silent =
    let enough : nat_le 1 (length (false ∷ silent)) ≡ true = grind (arith, nat_tests) in rw enough refl

module _ (r : Reading) (file channel frame : ℕ) where
  abbrev sounds_by : List Piece → Bool
  sounds_by group = list_any (λ p. is_read p file channel frame && not (is_silent_in r p)) group

  -- a group of one silent piece is dropped
  left_one : (p : Piece) (groups : List (List Piece)) (silent : List Bool) (b : Bool) → is_silent_in r p ≡ b
      → reads (without_silent groups silent) file channel frame ≡ total ◌||◌ false sounds_by groups
      → reads (without_silent ((p ∷ []) ∷ groups) (b ∷ silent)) file channel frame
      ≡ (sounds_by (p ∷ []) || total ◌||◌ false sounds_by groups)
  left_one p groups silent b is rest = by_kind b is (is_read p file channel frame) refl where
    by_kind : (b : Bool) → is_silent_in r p ≡ b → (read : Bool) → is_read p file channel frame ≡ read
        → reads (without_silent ((p ∷ []) ∷ groups) (b ∷ silent)) file channel frame
        ≡ (sounds_by (p ∷ []) || total ◌||◌ false sounds_by groups)
    by_kind true is true e = rw (called_one true silent, is, e) rest
    by_kind true is false e = rw (called_one true silent, e) rest
    by_kind false is true e = rw (called_one false silent, is, e) refl
    by_kind false is false e = rw (called_one false silent, e) rest

  left_alone : (groups : List (List Piece)) → All IsAlone groups
      → reads (without_silent groups (silences r groups)) file channel frame ≡ total ◌||◌ false sounds_by groups
  left_alone [] all = refl
  left_alone (group ∷ groups) all =
      by_group group (All-head IsAlone group groups all) (left_alone groups (All-tail IsAlone group groups all)) where
        by_group : (own : List Piece) → IsAlone own
            → reads (without_silent groups (silences r groups)) file channel frame ≡ total ◌||◌ false sounds_by groups
            → reads (without_silent (own ∷ groups) (silences r (own ∷ groups))) file channel frame
            ≡ (sounds_by own || total ◌||◌ false sounds_by groups)
        by_group [] alone rest = absurd alone
        by_group (p ∷ []) alone rest = left_one p groups (silences r groups) (is_silent_in r p) refl rest
        by_group (p ∷ q ∷ ps) alone rest = absurd alone

  any_alone : (pieces : List Piece) → total ◌||◌ false sounds_by (each_alone pieces) ≡ sounds_by pieces
  any_alone [] = refl
  any_alone (p ∷ ps) =
      rw (or-false (is_read p file channel frame && not (is_silent_in r p)))
      (ap (λ rest. (is_read p file channel frame && not (is_silent_in r p)) || rest) (any_alone ps))

  pub plays_what_sounds : (groups : List (List Piece))
      → reads (standard_groups r groups) file channel frame ≡ reads_sounding r groups file channel frame
  plays_what_sounds groups =
      let split = split_fades groups in
      let left = without_silent split (silences r split) in
      reads_regrouped file channel frame (join_cuts left) ∙ reads_joined file channel frame left
      ∙ left_alone split (all_in_order IsAlone (each_alone (pieces_of groups)) (all_alone (pieces_of groups)))
      ∙ total_in_order ◌||◌ false sounds_by or_exchange (each_alone (pieces_of groups))
      ∙ any_alone (pieces_of groups)
