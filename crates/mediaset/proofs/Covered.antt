-- All sample frames that the groups read are in the runs.
use Rattle.std.proofs.Common.{◌≡◌, ℕ, ◌+◌, ◌<◌, ◌≤◌, Bool, true, false, List, [], ◌∷◌, refl, sym, ap, ◌∙◌, arith}
use Rattle.std.specs.Prelude.{◌&&◌, ◌||◌, nat_lt}
use Rattle.std.specs.List.{All, list_any}
use Rattle.std.proofs.lemmas.Bool.Decides.{nat_tests}
use Rattle.std.proofs.lemmas.List.Elements.{All-head, All-tail}
use Rattle.sound_terms.specs.declared.piece.Home.{Home}
use Rattle.sound_terms.specs.declared.piece.Piece.{Piece}
use Rattle.sound_terms.specs.declared.piece.Run.{Run}
use Rattle.sound_terms.specs.Groups.{is_read, pieces_of, reads}
use Rattle.sound_terms.specs.GroupLaws.{reads_pieces}
use Rattle.sound_terms.specs.Homes.{IsInRun, LiesAtHome, addressable_by, kept_of, place_by}
use Rattle.sound_terms.specs.Kept.{AreRuns, is_near}

read_is_kept : (homes : List Home) (handle : ℕ) (pieces : List Piece) (file channel frame : ℕ)
    → All (LiesAtHome homes) pieces
    → list_any (λ p. is_read p file channel frame) pieces ≡ true
    → (nat_lt frame (addressable_by homes file) && list_any (is_near handle file frame) pieces) ≡ true
read_is_kept homes handle [] file channel frame home read = cc
read_is_kept homes handle (p ∷ ps) file channel frame home read =
    by_first (is_read p file channel frame) refl read
    (read_is_kept homes handle ps file channel frame (All-tail (LiesAtHome homes) p ps home))
  where
    own : LiesAtHome homes p
    own = All-head (LiesAtHome homes) p ps home

    either : (c a b : Bool) → (c && b) ≡ true → (c && (a || b)) ≡ true
    either true true b is = refl
    either true false b is = is
    either false a b is = is

    by_first : (test : Bool) → is_read p file channel frame ≡ test
        → (test || list_any (λ p. is_read p file channel frame) ps) ≡ true
        → (list_any (λ p. is_read p file channel frame) ps ≡ true
        → (nat_lt frame (addressable_by homes file) && list_any (is_near handle file frame) ps) ≡ true)
        → (nat_lt frame (addressable_by homes file)
        && (is_near handle file frame p || list_any (is_near handle file frame) ps)) ≡ true
    by_first true test some later =
        let same : p.file ≡ file = grind (arith, nat_tests, test) in
        let from : p.frame ≤ frame = grind (arith, nat_tests, test) in
        let to : frame < p.frame + p.length = grind (arith, nat_tests, test) in
        let at : addressable_by homes p.file ≡ addressable_by homes file = ap (addressable_by homes) same in
        let within : nat_lt frame (addressable_by homes file) ≡ true = let h = own in
        grind (arith, nat_tests, to, at, h) in
        let near : is_near handle file frame p ≡ true = grind (arith, nat_tests, same, from, to) in
        rw (within, near) refl
    by_first false test some later =
        either (nat_lt frame (addressable_by homes file)) (is_near handle file frame p) _ (later some)

pub covered : (homes : List Home) (handle : ℕ) (groups : List (List Piece)) (runs : List Run)
    → AreRuns (kept_of groups homes handle) (place_by homes) runs
    → All (LiesAtHome homes) (pieces_of groups) → (file channel frame : ℕ) → reads groups file channel frame ≡ true
    → IsInRun runs file frame
covered homes handle groups runs are home file channel frame read =
    are.all file frame (read_is_kept homes handle (pieces_of groups) file channel frame home
    (sym (reads_pieces groups file channel frame) ∙ read))
