-- Totals over all groups don't depend on how a pass adds them to its output.
use Rattle.std.proofs.Common.{◌≡◌, ◌∙◌, Bool, true, false, List, [], ◌∷◌, ◌++◌, refl, ap}
use Rattle.std.specs.Prelude.{Option, None, Some, if◌then◌else◌}
use Rattle.std.specs.List.{fold}
use Rattle.std.proofs.lemmas.List.{append-nil}
use Rattle.sound_terms.specs.declared.piece.Piece.{Piece}
use Rattle.sound_terms.specs.OrderLaws.{total}
use Rattle.sound_terms.specs.Passes.{chosen, extended, is_flat, is_followed_by, join_cuts, lengthened}
use Rattle.sound_terms.specs.Passes.{put_grouped, put_joined, put_to_first, regroup}

module _ {A : Type 0} (add : A → A → A) (none : A) (value : List Piece → A) where
  abbrev pub given : List (List Piece) → A
  given = total add none value

  -- joining `own` to a group adds the value of `own` to the value of the group
  abbrev pub Joins : (List Piece → Option (List Piece)) → List Piece → Type 0
  Joins takes own = (group joined : List Piece) → takes group ≡ Some joined → (rest : A) → add (value joined) rest
      ≡ add (value own) (add (value group) rest)

  module _ (exchange : (a b c : A) → add a (add b c) ≡ add b (add a c)) where
    total_put : (takes : List Piece → Option (List Piece)) (own : List Piece) → Joins takes own
        → (groups : List (List Piece))
        → given (put_to_first takes own groups) ≡ add (value own) (given groups)
    total_put takes own joins [] = refl
    total_put takes own joins (group ∷ groups) = by_take (takes group) refl (total_put takes own joins groups) where
      by_take : (taken : Option (List Piece)) → takes group ≡ taken
          → given (put_to_first takes own groups) ≡ add (value own) (given groups)
          → given (chosen taken group (put_to_first takes own groups) groups)
          ≡ add (value own) (add (value group) (given groups))
      by_take None e put = ap (add (value group)) put ∙ exchange (value group) (value own) (given groups)
      by_take (Some joined) e put = joins group joined e (given groups)

    total_push : (own : List Piece) (groups : List (List Piece))
        → given (groups ++ own ∷ []) ≡ add (value own) (given groups)
    total_push own [] = refl
    total_push own (group ∷ groups) = ap (add (value group)) (total_push own groups)
        ∙ exchange (value group) (value own) (given groups)

    module _ (put : List (List Piece) → List Piece → List (List Piece))
        (adds : (out : List (List Piece)) (own : List Piece) → given (put out own) ≡ add (value own) (given out)) where
      total_behind : (rest out : List (List Piece)) (own : List Piece)
          → given (rest ++ put out own) ≡ add (value own) (given (rest ++ out))
      total_behind [] out own = adds out own
      total_behind (group ∷ rest) out own =
          ap (add (value group)) (total_behind rest out own) ∙ exchange (value group) (value own) (given (rest ++ out))

      total_fold : (rest out : List (List Piece)) → given (fold put out rest) ≡ given (rest ++ out)
      total_fold [] out = refl
      total_fold (own ∷ rest) out = total_fold rest (put out own) ∙ total_behind rest out own

    put_joined_adds : ((own : Piece) → Joins (lengthened own) (own ∷ []))
        → (out : List (List Piece)) (own : List Piece) → given (put_joined out own) ≡ add (value own) (given out)
    put_joined_adds joins out [] = total_push [] out
    put_joined_adds joins out (p ∷ []) = by_shape (is_flat p.shape) where
      by_shape : (flat : Bool)
          → given (if flat then put_to_first (lengthened p) (p ∷ []) out else out ++ (p ∷ []) ∷ [])
          ≡ add (value (p ∷ [])) (given out)
      by_shape true = total_put (lengthened p) (p ∷ []) (joins p) out
      by_shape false = total_push (p ∷ []) out
    put_joined_adds joins out (p ∷ q ∷ ps) = total_push (p ∷ q ∷ ps) out

    pub total_joined : ((own : Piece) → Joins (lengthened own) (own ∷ [])) → (groups : List (List Piece))
        → given (join_cuts groups) ≡ given groups
    total_joined joins groups = total_fold put_joined (put_joined_adds joins) groups [] ∙ ap given (append-nil groups)

    pub total_regrouped : ((own : List Piece) → Joins (extended own) own) → (groups : List (List Piece))
        → given (regroup groups) ≡ given groups
    total_regrouped joins groups =
        total_fold put_grouped (λ out own. total_put (extended own) own (joins own) out) groups []
        ∙ ap given (append-nil groups)

-- a property of appending to any group holds for `extended`
pub by_extended : (P : List Piece → List Piece → Type 0) (later : List Piece)
    → ((group : List Piece) → is_followed_by group later ≡ true → P group (group ++ later))
    → (group joined : List Piece) → extended later group ≡ Some joined → P group joined
by_extended P later holds group joined e = by_test (is_followed_by group later) refl e where
  by_test : (b : Bool) → is_followed_by group later ≡ b → (if b then Some (group ++ later) else None) ≡ Some joined
      → P group joined
  by_test true follows is = let same : joined ≡ group ++ later = cc in rw same (holds group follows)
  by_test false follows is = cc
