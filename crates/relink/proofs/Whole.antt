-- The laws of the consolidated list as a whole.
use Rattle.std.proofs.Common.{◌≡◌, ℕ, ◌+◌, ◌<◌, ◌≤◌, List, None, length, arith, All, IsTrue, true}
use Rattle.std.proofs.lemmas.List.Elements.{All-contains, All-head}
use Rattle.sound_terms.specs.declared.piece.Home.{Home}
use Rattle.sound_terms.specs.declared.piece.Piece.{Piece}
use Rattle.sound_terms.specs.declared.piece.Run.{Run}
use Rattle.sound_terms.specs.Mix.{Reading, mix_at}
use Rattle.sound_terms.specs.Groups.{AreGroups, IsPiece, are_whole, mix_of, pieces_of}
use Rattle.sound_terms.specs.GroupLaws.{all_pieces}
use Rattle.sound_terms.specs.Kept.{AreRuns}
use Rattle.sound_terms.specs.Homes.{AreHomes, LiesAtHome, kept_of, place_by}
use Rattle.sound_terms.specs.Entries.{placed_of}
use Rattle.sound_terms.specs.Media.{CopiesRuns}
use Rattle.list_terms.specs.Accepted.{event_fault}
use Rattle.list_terms.specs.Binding.{Binding, is_used}
use Rattle.list_terms.specs.Renewed.{numbered, run_event, run_indexes}
use Rattle.mediaset.specs.Runs.{AreApart}
use Rattle.relink.specs.Linked.{HaveChannels, IsLinkable}
use Rattle.relink.proofs.NoFault.{HasChannelsFor, no_event_fault}
use Rattle.relink.proofs.Placing.{ArePlayed, IsPlayed, all_linkable, all_placed}
use Rattle.relink.proofs.Playing.{all_played}
use Rattle.relink.proofs.Relinked.{relinked}
use Rattle.relink.proofs.Used.{all_used_by}

module _ (groups : List (List Piece)) (homes : List Home) (handle : ℕ) (runs : List Run) (are_homes : AreHomes homes)
    (apart : AreApart (place_by homes) runs)
    (are : AreRuns (kept_of groups homes handle) (place_by homes) runs)
    (at_home : All (LiesAtHome homes) (pieces_of groups)) (is : AreGroups groups) where
  played : All (ArePlayed groups homes handle runs are_homes are) groups
  played = all_played groups homes handle runs are_homes are at_home is

  pub linkable : All (IsLinkable homes runs) (placed_of groups)
  linkable = all_linkable groups homes handle runs are_homes are groups played

  pub same_mix : IsTrue (are_whole groups) → (given copied : Reading) → CopiesRuns given runs copied
      → (channel time : ℕ)
      → mix_at copied (run_indexes homes runs) (numbered (run_event homes runs) 1 (placed_of groups)) channel time
      ≡ mix_of given groups channel time
  same_mix whole given copied copies channel time =
      relinked homes runs apart given copied copies channel time groups is.groups_ok whole linkable

  pub no_fault : (binding : Binding) → binding.indexes ≡ run_indexes homes runs
      → HaveChannels (pieces_of groups) runs binding.files
      → event_fault binding (numbered (run_event homes runs) 1 (placed_of groups)) ≡ None
  no_fault binding bound has =
      no_event_fault homes runs apart binding bound 1 (placed_of groups) linkable
      (all_placed groups homes handle runs are_homes are (HasChannelsFor runs binding.files)
      (λ p ps is_group all. λ k run there same.
      let file = has k run there in
      let own = All-head (IsPlayed groups homes handle runs are_homes are) p ps all in (
        file.0,
        file.1,
        All-contains (λ (q : Piece). q.file ≡ run.file → q.first + q.width ≤ file.0.facts.channels + 1)
            (pieces_of groups) p file.2 own.has same,
      ))
      groups played)

  pub all_used : (k : ℕ) → k < length runs
      → is_used (numbered (run_event homes runs) 1 (placed_of groups)) (1 + k) ≡ true
  all_used k below =
      all_used_by groups homes handle runs are_homes apart are
      (λ p has.
      let home : LiesAtHome homes p = All-contains (LiesAtHome homes) (pieces_of groups) p at_home has in
      let ok : IsPiece p = All-contains IsPiece (pieces_of groups) p (all_pieces IsPiece groups is.pieces_ok) has in
      omega (arith, home, ok.some))
      played k below
