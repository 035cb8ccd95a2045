-- The bounds of a group's entry, and the run that contains all of the group's sample frames.
use Rattle.std.proofs.Common.{◌≡◌, ℕ, suc, ◌+◌, ◌-◌, ◌<◌, ◌≤◌, true, List, [], ◌∷◌, length, refl, ap, arith, All}
use Rattle.std.specs.Prelude.{nat_lt}
use Rattle.std.specs.List.{Contains}
use Rattle.std.proofs.lemmas.Bool.Decides.{nat_tests}
use Rattle.std.proofs.lemmas.List.Elements.{All-head, All-tail, All-cons, All-nil}
use Rattle.std.proofs.lemmas.List.Folds.{list_any_at}
use Rattle.sound_terms.specs.declared.piece.Home.{Home}
use Rattle.sound_terms.specs.declared.piece.Piece.{Piece}
use Rattle.sound_terms.specs.declared.piece.Placed.{Placed}
use Rattle.sound_terms.specs.declared.piece.Run.{Run}
use Rattle.sound_terms.specs.Groups.{IsGroup, IsPiece, pieces_of}
use Rattle.sound_terms.specs.GroupLaws.{ends_in_day, fades_within, length_more}
use Rattle.sound_terms.specs.HomeLaws.{addressable_in_day, kept_at_home}
use Rattle.sound_terms.specs.Kept.{AreRuns, is_near}
use Rattle.sound_terms.specs.Homes.{AreHomes, LiesAtHome, addressable_by, kept_of, place_by}
use Rattle.sound_terms.specs.Entries.{length_of_group, placed_by, placed_of}
use Rattle.relink.specs.Linked.{IsLinkable, IsPlaced, LiesInRun}
use Rattle.relink.proofs.Maximal.{goes_on_to, maximal_at}
use Rattle.relink.proofs.RunOf.{run_of}
use Rattle.relink.proofs.Stretching.{OnFrames, on_frames}

-- A sample frame within the handle of a piece is kept if it can be addressed.
pub near_kept : (groups : List (List Piece)) (homes : List Home) (handle : ℕ) (p : Piece) (frame : ℕ)
    → Contains (pieces_of groups) p
    → 1 ≤ p.length → p.frame ≤ frame + handle → frame < p.frame + p.length + handle
    → frame < addressable_by homes p.file
    → kept_of groups homes handle p.file frame ≡ true
near_kept groups homes handle p frame has some from to below =
    let near : is_near handle p.file frame p ≡ true = grind (arith, nat_tests) in
    let any = list_any_at (is_near handle p.file frame) (pieces_of groups) has.0 p has.1 (rw has.2 near) in
    let inside : nat_lt frame (addressable_by homes p.file) ≡ true = grind (arith, nat_tests) in
    rw (inside, any) refl

module _ (groups : List (List Piece)) (homes : List Home) (handle : ℕ) (runs : List Run) (are_homes : AreHomes homes)
    (are : AreRuns (kept_of groups homes handle) (place_by homes) runs) where
  -- A piece of these groups, within the reach of its file's home index.
  pub record IsPlayed (p : Piece) : Type 0 where
    pub has : Contains (pieces_of groups) p
    pub ok : IsPiece p
    pub at_home : LiesAtHome homes p

  pub played_kept : (p : Piece) → IsPlayed p → OnFrames (λ file frame. kept_of groups homes handle file frame ≡ true) p
  played_kept p is = λ f from to.
      let home : p.frame + p.length ≤ addressable_by homes p.file = is.at_home in
      near_kept groups homes handle p f is.has is.ok.some (omega arith) (omega arith) (omega (arith, home))

  pub group_kept : (p : Piece) (ps : List Piece) → IsGroup (p ∷ ps) → All IsPlayed (p ∷ ps)
      → (f : ℕ) → p.frame ≤ f → f < p.frame + length_of_group (p ∷ ps) → kept_of groups homes handle p.file f ≡ true
  group_kept p ps is all =
      on_frames (λ file frame. kept_of groups homes handle file frame ≡ true) p ps is
      (λ i d below. played_kept _ (all i d below))

  group_length : (p : Piece) (ps : List Piece) → IsPlayed p → 1 ≤ length_of_group (p ∷ ps)
  group_length p ps is = rw (length_more p ps) (omega (arith, is.ok.some))

  pub placed_lies : (p : Piece) (ps : List Piece) → IsGroup (p ∷ ps) → All IsPlayed (p ∷ ps)
      → LiesInRun runs (placed_by p (p ∷ ps))
  placed_lies p ps is all =
      let first : IsPlayed p = All-head IsPlayed p ps all in
      let some = group_length p ps first in
      let kept = group_kept p ps is all in
      let found =
      run_of runs p.file p.frame (are.all p.file p.frame (kept p.frame (omega arith) (omega (arith, some)))) in
      let at = found.1 in
      let same : at.run.file ≡ p.file = at.has.same_file in
      let maximal =
      maximal_at (kept_of groups homes handle) (place_by homes) runs are found.0 at.run at.there in
      record {
        place = found.0;
        run = at.run;
        there = at.there;
        same_file = same;
        from = at.has.from;
        to = goes_on_to (kept_of groups homes handle) (place_by homes) runs are at.run maximal p.frame
            (p.frame + length_of_group (p ∷ ps)) at.has.from at.has.to (λ f from to. rw same (kept f from to));
      }

  pub placed_ok : (p : Piece) (ps : List Piece) → IsGroup (p ∷ ps) → All IsPlayed (p ∷ ps)
      → IsPlaced homes (placed_by p (p ∷ ps))
  placed_ok p ps is all =
      let first : IsPlayed p = All-head IsPlayed p ps all in
      let some = group_length p ps first in
      let whole : ℕ = length_of_group (p ∷ ps) in
      let last : p.frame + (whole - 1) < addressable_by homes p.file =
      kept_at_home groups homes handle p.file (p.frame + (whole - 1))
      (group_kept p ps is all (p.frame + (whole - 1)) (omega arith) (omega (arith, some))) in
      let inside = addressable_in_day homes are_homes p.file (p.frame + (whole - 1)) last in
      record {
        wide = first.ok.wide;
        source_from_one = first.ok.source_from_one;
        source_to_64 = first.ok.source_to_64;
        dest_from_one = first.ok.dest_from_one;
        dest_to_64 = first.ok.dest_to_64;
        some = some;
        in_day = ends_in_day (p ∷ ps) is (λ i d below. (all i d below).ok);
        fades = fades_within (p ∷ ps);
        source_in_day = omega (arith, some, last, inside);
      }

  -- Groups of such pieces.
  abbrev pub ArePlayed : List Piece → Type 0
  ArePlayed group = IsGroup group × All IsPlayed group

  -- A property that holds for each such group holds for all of them.
  pub all_placed : (P : Placed → Type 0)
      → ((p : Piece) (ps : List Piece) → IsGroup (p ∷ ps) → All IsPlayed (p ∷ ps) → P (placed_by p (p ∷ ps)))
      → (gs : List (List Piece)) → All ArePlayed gs → All P (placed_of gs)
  all_placed P each [] all = All-nil P
  all_placed P each ([] ∷ gs) all = absurd (All-head ArePlayed [] gs all).0
  all_placed P each ((p ∷ ps) ∷ gs) all =
      let here = All-head ArePlayed (p ∷ ps) gs all in
      All-cons P (placed_by p (p ∷ ps)) (placed_of gs) (each p ps here.0 here.1)
      (all_placed P each gs (All-tail ArePlayed (p ∷ ps) gs all))

  pub all_linkable : (gs : List (List Piece)) → All ArePlayed gs → All (IsLinkable homes runs) (placed_of gs)
  all_linkable gs all =
      all_placed (IsLinkable homes runs) (λ p ps is played. (placed_ok p ps is played, placed_lies p ps is played))
      gs all

-- Every group has one entry.
pub length-placed_of : (gs : List (List Piece)) → All IsGroup gs → length (placed_of gs) ≡ length gs
length-placed_of [] all = refl
length-placed_of ([] ∷ gs) all = absurd (All-head IsGroup [] gs all)
length-placed_of ((p ∷ ps) ∷ gs) all = ap suc (length-placed_of gs (All-tail IsGroup (p ∷ ps) gs all))
