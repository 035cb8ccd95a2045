-- A pass that adds groups one by one keeps them valid and in order of start time.
use Rattle.std.proofs.Common.{◌≡◌, ℕ, ◌≤◌, Bool, true, false, List, [], ◌∷◌, ◌++◌, refl, arith, All}
use Rattle.std.specs.Prelude.{Option, None, Some, if◌then◌else◌}
use Rattle.std.specs.List.{fold}
use Rattle.std.proofs.lemmas.List.{append-nil, append_assoc}
use Rattle.std.proofs.lemmas.List.Elements.{All-cons, All-head, All-nil, All-push, All-tail}
use Rattle.sound_terms.specs.declared.piece.Piece.{Piece}
use Rattle.sound_terms.specs.Groups.{AreGroups, IsGroup, IsPiece, RiseFrom, start_of}
use Rattle.sound_terms.specs.Passes.{chosen, is_flat, join_cuts, lengthened, put_joined, put_to_first}
use Rattle.sound_terms.specs.LongerLaws.{by_longer, longer_is_piece}

abbrev pub Put : Type 0
Put = List (List Piece) → List Piece → List (List Piece)

module _ (P : List Piece → Type 0) where
  -- joining keeps a property of a group
  abbrev pub Keeps : (List Piece → Option (List Piece)) → Type 0
  Keeps takes = (group joined : List Piece) → takes group ≡ Some joined → P group → P joined

  pub all_put : (takes : List Piece → Option (List Piece)) (own : List Piece) → Keeps takes → P own
      → (groups : List (List Piece)) → All P groups → All P (put_to_first takes own groups)
  all_put takes own keeps is [] all = All-cons P own [] is (All-nil P)
  all_put takes own keeps is (group ∷ groups) all =
      by_take (takes group) refl (all_put takes own keeps is groups (All-tail P group groups all)) where
        by_take : (taken : Option (List Piece)) → takes group ≡ taken → All P (put_to_first takes own groups)
            → All P (chosen taken group (put_to_first takes own groups) groups)
        by_take None e put = All-cons P group _ (All-head P group groups all) put
        by_take (Some joined) e put = All-cons P joined groups (keeps group joined e (All-head P group groups all))
            (All-tail P group groups all)

  pub all_fold : (put : Put) → ((out : List (List Piece)) (own : List Piece) → All P out → P own → All P (put out own))
      → (rest out : List (List Piece)) → All P out → All P rest → All P (fold put out rest)
  all_fold put keeps [] out all left = all
  all_fold put keeps (own ∷ rest) out all left =
      all_fold put keeps rest (put out own) (keeps out own all (All-head P own rest left)) (All-tail P own rest left)

  all_put_joined : ((p : Piece) → P (p ∷ []) → Keeps (lengthened p)) → (out : List (List Piece)) (own : List Piece)
      → All P out → P own → All P (put_joined out own)
  all_put_joined keeps out [] all is = All-push P out [] all is
  all_put_joined keeps out (p ∷ []) all is = by_shape (is_flat p.shape) where
    by_shape : (flat : Bool) → All P (if flat then put_to_first (lengthened p) (p ∷ []) out else out ++ (p ∷ []) ∷ [])
    by_shape true = all_put (lengthened p) (p ∷ []) (keeps p is) is out all
    by_shape false = All-push P out (p ∷ []) all is
  all_put_joined keeps out (p ∷ q ∷ ps) all is = All-push P out (p ∷ q ∷ ps) all is

pub rise_more : (low high : ℕ) (groups : List (List Piece)) → low ≤ high → RiseFrom high groups → RiseFrom low groups
rise_more low high [] le rise = tt
rise_more low high (group ∷ groups) le rise = (omega arith, rise.1)

rise_without : (low : ℕ) (groups behind : List (List Piece)) (own : List Piece) → RiseFrom low (groups ++ own ∷ behind)
    → RiseFrom low (groups ++ behind)
rise_without low [] behind own rise = rise_more low (start_of own) behind rise.0 rise.1
rise_without low (group ∷ groups) behind own rise = (rise.0, rise_without (start_of group) groups behind own rise.1)

-- joining doesn't change the start of a group
abbrev pub KeepsStart : (List Piece → Option (List Piece)) → Type 0
KeepsStart takes = (group joined : List Piece) → takes group ≡ Some joined → start_of joined ≡ start_of group

-- adding a group keeps the order, including the groups that are still waiting
abbrev pub KeepsOrder : Put → Type 0
KeepsOrder put = (low : ℕ) (out behind : List (List Piece)) (own : List Piece) → RiseFrom low (out ++ own ∷ behind)
    → RiseFrom low (put out own ++ behind)

pub rise_put : (takes : List Piece → Option (List Piece)) → KeepsStart takes
    → (low : ℕ) (out behind : List (List Piece)) (own : List Piece)
    → RiseFrom low (out ++ own ∷ behind) → RiseFrom low (put_to_first takes own out ++ behind)
rise_put takes same low [] behind own rise = rise
rise_put takes same low (group ∷ groups) behind own rise = by_take (takes group) refl
    (rise_put takes same (start_of group) groups behind own rise.1) where
      by_take : (taken : Option (List Piece)) → takes group ≡ taken
          → RiseFrom (start_of group) (put_to_first takes own groups ++ behind)
          → RiseFrom low (chosen taken group (put_to_first takes own groups) groups ++ behind)
      by_take None e put = (rise.0, put)
      by_take (Some joined) e put =
          let start = same group joined e in
          let rest = rise_without (start_of group) groups behind own rise.1 in
          rw start (rise.0, rest)

rise_push : (low : ℕ) (out behind : List (List Piece)) (own : List Piece) → RiseFrom low (out ++ own ∷ behind)
    → RiseFrom low ((out ++ own ∷ []) ++ behind)
rise_push low out behind own rise = rw append_assoc rise

pub rise_fold : (put : Put) → KeepsOrder put → (rest out : List (List Piece)) → RiseFrom 0 (out ++ rest)
    → RiseFrom 0 (fold put out rest)
rise_fold put keeps [] out rise = rw append-nil at rise
rise_fold put keeps (own ∷ rest) out rise = rise_fold put keeps rest (put out own) (keeps 0 out rest own rise)

rise_put_joined : KeepsOrder put_joined
rise_put_joined low out behind [] rise = rise_push low out behind [] rise
rise_put_joined low out behind (p ∷ []) rise = by_shape (is_flat p.shape) where
  by_shape : (flat : Bool)
      → RiseFrom low ((if flat then put_to_first (lengthened p) (p ∷ []) out else out ++ (p ∷ []) ∷ []) ++ behind)
  by_shape true = rise_put (lengthened p) (by_longer (λ group joined. start_of joined ≡ start_of group) p
      (λ q on. refl)) low out behind (p ∷ []) rise
  by_shape false = rise_push low out behind (p ∷ []) rise
rise_put_joined low out behind (p ∷ q ∷ ps) rise = rise_push low out behind (p ∷ q ∷ ps) rise

longer_holds : (later : Piece) → All IsPiece (later ∷ []) → Keeps (All IsPiece) (lengthened later)
longer_holds later ok = by_longer (λ group joined. All IsPiece group → All IsPiece joined) later
    (λ p on all. All-cons IsPiece _ [] (longer_is_piece p later on (all 0 p (omega arith)) (ok 0 later (omega arith)))
    (All-nil IsPiece))

pub joined_are : (groups : List (List Piece)) → AreGroups groups → AreGroups (join_cuts groups)
joined_are groups are = record {
  groups_ok = all_fold IsGroup put_joined
      (all_put_joined IsGroup (λ p is. by_longer (λ group joined. IsGroup group → IsGroup joined) p (λ q on whole. tt)))
      groups [] (All-nil IsGroup) are.groups_ok;
  pieces_ok = all_fold (All IsPiece) put_joined (all_put_joined (All IsPiece) longer_holds) groups []
      (All-nil (All IsPiece)) are.pieces_ok;
  in_order = rise_fold put_joined rise_put_joined groups [] are.in_order;
}
