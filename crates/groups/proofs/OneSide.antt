-- Each group is on one side of the time after a cut.
use Rattle.std.proofs.Common.{◌≡◌, inl, inr, ℕ, ◌+◌, ◌-◌, ◌<◌, ◌≤◌, Bool, true, false, List, [], ◌∷◌, refl, arith, All}
use Rattle.std.specs.Prelude.{nat_le, ⊤}
use Rattle.std.specs.List.{flat_map}
use Rattle.std.proofs.lemmas.Bool.Decides.{nat_tests}
use Rattle.std.proofs.lemmas.List.Elements.{All-append, All-cons, All-nil}
use Rattle.sound_terms.specs.declared.piece.Piece.{Piece}
use Rattle.sound_terms.specs.OrderLaws.{all_in_order}
use Rattle.sound_terms.specs.Passes.{cut_group, cut_groups, piece_before, piece_behind}
use Rattle.groups.specs.Apart.{IsApart}
use Rattle.groups.proofs.CutPieces.{all_sides}

one : {X : Type 0} (P : X → Type 0) (x : X) → P x → All P (x ∷ [])
one P x has = All-cons P x [] has (All-nil P)

abbrev Before : ℕ → Piece → Type 0
Before time p = p.start + p.length ≤ time

abbrev Behind : ℕ → Piece → Type 0
Behind time p = time ≤ p.start

piece_is_before : (time : ℕ) (p : Piece) → All (Before time) (piece_before time p)
piece_is_before time p = by_ends (nat_le time p.start) (nat_le (p.start + p.length) time) refl refl where
  by_ends : (a b : Bool) → nat_le time p.start ≡ a → nat_le (p.start + p.length) time ≡ b
      → All (Before time) (piece_before time p)
  by_ends true b e f = rw e (All-nil (Before time))
  by_ends false true e f = rw (e, f) (one (Before time) p (grind (arith, nat_tests)))
  by_ends false false e f =
      let low : p.start < time = grind (arith, nat_tests) in
      rw (e, f) (one (Before time) (record p { length = time - p.start }) (omega arith))

piece_is_behind : (time : ℕ) (p : Piece) → All (Behind time) (piece_behind time p)
piece_is_behind time p = by_ends (nat_le time p.start) (nat_le (p.start + p.length) time) refl refl where
  by_ends : (a b : Bool) → nat_le time p.start ≡ a → nat_le (p.start + p.length) time ≡ b
      → All (Behind time) (piece_behind time p)
  by_ends true b e f = rw e (one (Behind time) p (grind (arith, nat_tests)))
  by_ends false true e f = rw (e, f) (All-nil (Behind time))
  by_ends false false e f = rw (e, f) (one (Behind time) _ (omega arith))

front_is_before : (time : ℕ) (pieces : List Piece) → All (Before time) (flat_map (piece_before time) pieces)
front_is_before time [] = All-nil (Before time)
front_is_before time (p ∷ ps) = All-append (Before time) _ _ (piece_is_before time p) (front_is_before time ps)

back_is_behind : (time : ℕ) (pieces : List Piece) → All (Behind time) (flat_map (piece_behind time) pieces)
back_is_behind time [] = All-nil (Behind time)
back_is_behind time (p ∷ ps) = All-append (Behind time) _ _ (piece_is_behind time p) (back_is_behind time ps)

sides_are_apart : (time : ℕ) (groups : List (List Piece)) → All (IsApart time) (flat_map (cut_group time) groups)
sides_are_apart time groups =
    all_sides time (λ group. ⊤) (IsApart time) (λ group any. (
      (λ some. inl (front_is_before time group)),
      (λ some. inr (back_is_behind time group)),
    )) groups (λ i d below. tt)

pub cut_is_apart : (time : ℕ) (groups : List (List Piece)) → All (IsApart time) (cut_groups time groups)
cut_is_apart time groups = all_in_order (IsApart time) (flat_map (cut_group time) groups) (sides_are_apart time groups)
