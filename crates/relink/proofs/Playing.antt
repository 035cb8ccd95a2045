-- The pieces of groups in order, and the consequences for the runs around them.
use Rattle.std.proofs.Common.{ℕ, List, [], ◌∷◌, get_or, All}
use Rattle.std.specs.List.{Contains}
use Rattle.std.proofs.lemmas.List.Elements.{All-head, All-tail, All-cons, All-nil, All-contains, Contains-append_left, Contains-append_right, Contains-get_or}
use Rattle.sound_terms.specs.declared.piece.Home.{Home}
use Rattle.sound_terms.specs.declared.piece.Piece.{Piece}
use Rattle.sound_terms.specs.declared.piece.Run.{Run}
use Rattle.sound_terms.specs.Groups.{AreGroups, IsGroup, IsPiece, pieces_of}
use Rattle.sound_terms.specs.Kept.{AreRuns}
use Rattle.sound_terms.specs.Homes.{AreHomes, LiesAtHome, kept_of, place_by}
use Rattle.relink.proofs.Placing.{ArePlayed}

module _ (groups : List (List Piece)) (homes : List Home) (handle : ℕ) (runs : List Run) (are_homes : AreHomes homes)
    (are : AreRuns (kept_of groups homes handle) (place_by homes) runs)
    (at_home : All (LiesAtHome homes) (pieces_of groups)) where
  each_played : (gs : List (List Piece)) → All IsGroup gs → All (All IsPiece) gs
      → ((x : Piece) → Contains (pieces_of gs) x → Contains (pieces_of groups) x)
      → All (ArePlayed groups homes handle runs are_homes are) gs
  each_played [] are_groups are_pieces inside = All-nil (ArePlayed groups homes handle runs are_homes are)
  each_played (group ∷ gs) are_groups are_pieces inside =
      All-cons (ArePlayed groups homes handle runs are_homes are) group gs (
        All-head IsGroup group gs are_groups,
        (λ i d below.
            let has =
            inside (get_or group i d) (Contains-append_left group (pieces_of gs) (get_or group i d)
            (Contains-get_or group i d below)) in
            record {
              has = has;
              ok = All-head (All IsPiece) group gs are_pieces i d below;
              at_home = All-contains (LiesAtHome homes) (pieces_of groups) (get_or group i d) at_home has;
            }),
      )
      (each_played gs (All-tail IsGroup group gs are_groups) (All-tail (All IsPiece) group gs are_pieces)
      (λ x has. inside x (Contains-append_right group (pieces_of gs) x has)))

  pub all_played : AreGroups groups → All (ArePlayed groups homes handle runs are_homes are) groups
  all_played is = each_played groups is.groups_ok is.pieces_ok (λ x has. has)
