-- Pieces that read no more than others did lie where those lay.
use Rattle.std.proofs.Common.{◌≡◌, ◌∙◌, ℕ, ◌+◌, ◌-◌, ◌≤◌, Bool, true, List, All, IsTrue, sym, arith, get_or}
use Rattle.std.specs.List.{list_any}
use Rattle.std.proofs.lemmas.Bool.Decides.{nat_tests}
use Rattle.std.proofs.lemmas.List.Folds.{Any-from_list_any, list_any_at}
use Rattle.sound_terms.specs.declared.piece.Home.{Home}
use Rattle.sound_terms.specs.declared.piece.Piece.{Piece}
use Rattle.sound_terms.specs.Groups.{IsPiece, is_read, pieces_of, reads}
use Rattle.sound_terms.specs.GroupLaws.{all_pieces, reads_pieces}
use Rattle.sound_terms.specs.Homes.{addressable_by}
use Rattle.sound_terms.specs.Media.{LiesInFile}
use Rattle.sound_terms.specs.Sounds.{SoundFacts}
use Rattle.interval.specs.AtHome.{IsAtHome}

-- an element that passes has what holds of all
pub one_of : {X : Type 0} (test : X → Bool) (P : X → Type 0) (xs : List X) → list_any test xs ≡ true → All P xs
    → (x : X) × (test x ≡ true) × P x
one_of test P xs some all =
    let at = Any-from_list_any test xs some in (at.1, at.4, rw at.3 at (all at.0 at.1 at.2))

module _ (sounds : List SoundFacts) (homes : List Home) where
  -- a piece whose last sample another reads lies where that one does
  read_by : (p q : Piece) → IsPiece p → IsAtHome sounds homes q
      → is_read q p.file ((p.first + p.width) - 1) ((p.frame + p.length) - 1) ≡ true
      → IsAtHome sounds homes p
  read_by p q is home read =
      let same : q.file ≡ p.file = grind (arith, nat_tests, read) in
      let within : LiesInFile sounds p.file q.first q.width q.frame q.length = rw same at home.of_file in
      let addressed : q.frame + q.length ≤ addressable_by homes p.file = rw same at home.at_home in
      record {
        of_file = record {
          facts = within.facts;
          there = within.there;
          channels = grind (arith, nat_tests, read, within.channels, is.wide);
          frames = grind (arith, nat_tests, read, within.frames, is.some);
        };
        at_home = grind (arith, nat_tests, read, addressed, is.some);
      }

  -- groups that read no more than others lie where those do
  pub still_at_home : (old new : List (List Piece)) → All (All IsPiece) new
      → ((file channel frame : ℕ) → IsTrue (reads new file channel frame) → IsTrue (reads old file channel frame))
      → All (IsAtHome sounds homes) (pieces_of old) → All (IsAtHome sounds homes) (pieces_of new)
  still_at_home old new pieces no_more home k d below =
      let p = get_or (pieces_of new) k d in
      let is : IsPiece p = all_pieces IsPiece new pieces k d below in
      let channel : ℕ = (p.first + p.width) - 1 in
      let frame : ℕ = (p.frame + p.length) - 1 in
      let test = λ (q : Piece). is_read q p.file channel frame in
      let own : test p ≡ true = grind (arith, nat_tests, is.wide, is.some) in
      let read = list_any_at test (pieces_of new) k d below own in
      let given =
      sym (reads_pieces old p.file channel frame)
      ∙ no_more p.file channel frame (reads_pieces new p.file channel frame ∙ read) in
      let q = one_of test (IsAtHome sounds homes) (pieces_of old) given home in
      read_by p q.0 is q.2 q.1
