-- Silent pieces add nothing, so they may be dropped.
use Rattle.std.proofs.Common.{◌≡◌, ◌∙◌, ℕ, ◌-◌, ◌*◌, ◌/◌, ◌<◌, Bool, true, false, List, [], ◌∷◌, ◌++◌, length, take, drop, IsTrue, refl, ap, arith, All}
use Rattle.std.specs.Prelude.{pos, ◌&&◌, ◌||◌, nat_le, ⊤}
use Rattle.std.specs.List.{list_all}
use Rattle.std.proofs.Math.Nat.{zero-div}
use Rattle.std.proofs.lemmas.Bool.{and_parts, or_right}
use Rattle.std.proofs.lemmas.Bool.Decides.{nat_tests}
use Rattle.std.proofs.lemmas.Int.{ints}
use Rattle.std.proofs.lemmas.List.Elements.{All-cons, All-tail}
use Rattle.sound_terms.specs.declared.piece.Piece.{Piece}
use Rattle.sound_terms.specs.Mix.{Reading, share_of}
use Rattle.sound_terms.specs.Groups.{Agrees, AreGroups, IsGroup, IsPiece, IsSilent, RiseFrom, SameMix, are_whole, fraction_of, is_under, is_whole, mix_of, part_of, pieces_of, reads, start_of, sum_of}
use Rattle.sound_terms.specs.Passes.{is_called, without_silent}
use Rattle.sound_terms.specs.GroupLaws.{sum_of-append}
use Rattle.passes.proofs.Kept.{rise_more}

no_share : (fraction : ℕ × ℕ) → share_of (pos 0) fraction ≡ pos 0
no_share fraction =
    let none : 0 * fraction.0 ≡ 0 = omega arith in
    ap pos (ap (λ x. x / fraction.1) none ∙ zero-div fraction.1)

-- a silent piece adds nothing
silent_part : (r : Reading) (p : Piece) (channel time : ℕ) → IsSilent r p → part_of r p channel time ≡ pos 0
silent_part r p channel time silent = by_place (is_under p channel time) refl where
  by_place : (b : Bool) → is_under p channel time ≡ b → part_of r p channel time ≡ pos 0
  by_place true e =
      let wide : channel - p.dest < p.width = grind (arith, nat_tests) in
      let inside : time - p.start < p.length = grind (arith, nat_tests) in
      rw (e, silent (channel - p.dest) (time - p.start) wide inside) (no_share (fraction_of p.shape (time - p.start)))
  by_place false e = rw e refl

abbrev AllSilent : Reading → List Piece → Type 0
AllSilent r [] = ⊤
AllSilent r (p ∷ ps) = IsSilent r p × AllSilent r ps

silent_sum : (r : Reading) (pieces : List Piece) (channel time : ℕ) → AllSilent r pieces
    → sum_of r pieces channel time ≡ pos 0
silent_sum r [] channel time silent = refl
silent_sum r (p ∷ ps) channel time silent =
    rw (silent_part r p channel time silent.0, silent_sum r ps channel time silent.1) refl

-- pieces marked silent are silent if the reading agrees with the flags
called_silent : (r : Reading) (group rest : List Piece) (silent : List Bool) → Agrees r (group ++ rest) silent
    → is_called (length group) silent ≡ true → AllSilent r group
called_silent r [] rest silent agrees called = tt
called_silent r (p ∷ ps) rest [] agrees called =
    let short : nat_le (length (p ∷ ps)) 0 ≡ false = grind (arith, nat_tests) in
    let parts = and_parts (nat_le (length (p ∷ ps)) 0) _ called in cc
called_silent r (p ∷ ps) rest (b ∷ silent) agrees called =
    let parts =
    and_parts (nat_le (length (p ∷ ps)) (length (b ∷ silent)))
    (list_all (λ x. x) (take (length (p ∷ ps)) (b ∷ silent))) called in
    let calls = and_parts b (list_all (λ x. x) (take (length ps) silent)) parts.1 in
    let enough : nat_le (length ps) (length silent) ≡ true = grind (arith, nat_tests) in
    let rest_called : is_called (length ps) silent ≡ true = rw enough calls.1 in
    (agrees.0 calls.0, called_silent r ps rest silent agrees.1 rest_called)

agrees_behind : (r : Reading) (group rest : List Piece) (silent : List Bool) → Agrees r (group ++ rest) silent
    → Agrees r rest (drop (length group) silent)
agrees_behind r [] rest silent agrees = agrees
agrees_behind r (p ∷ ps) [] [] agrees = tt
agrees_behind r (p ∷ ps) (q ∷ qs) [] agrees = tt
agrees_behind r (p ∷ ps) rest (b ∷ silent) agrees = agrees_behind r ps rest silent agrees.1

-- the remaining groups have the same sum
pub same_mix : (groups : List (List Piece)) (silent : List Bool) → SameMix groups silent (without_silent groups silent)
same_mix [] silent r agrees channel time = refl
same_mix (group ∷ groups) silent r agrees channel time =
    by_call (is_called (length group) silent) refl
    (same_mix groups (drop (length group) silent) r (agrees_behind r group (pieces_of groups) silent agrees)
    channel time) where
      by_call : (b : Bool) → is_called (length group) silent ≡ b
          → mix_of r (without_silent groups (drop (length group) silent)) channel time ≡ mix_of r groups channel time
          → mix_of r (without_silent (group ∷ groups) silent) channel time ≡ mix_of r (group ∷ groups) channel time
      by_call true e rest =
          let all = sum_of-append r group (pieces_of groups) channel time in
          let nothing = silent_sum r group channel time (called_silent r group (pieces_of groups) silent agrees e) in
          rw e (omega (arith, ints, all, nothing, rest))
      by_call false e rest =
          let all = sum_of-append r group (pieces_of groups) channel time in
          let left =
          sum_of-append r group (pieces_of (without_silent groups (drop (length group) silent))) channel time in
          rw e (omega (arith, ints, all, left, rest))

or_more : (a b c : Bool) → (b ≡ true → c ≡ true) → (a || b) ≡ true → (a || c) ≡ true
or_more true b c more e = refl
or_more false b c more e = more e

and_more : (a b c : Bool) → (b ≡ true → c ≡ true) → (a && b) ≡ true → (a && c) ≡ true
and_more true b c more e = more e
and_more false b c more e = cc

-- the remaining groups read no additional samples
pub reads_no_more : (groups : List (List Piece)) (silent : List Bool) (file channel frame : ℕ)
    → IsTrue (reads (without_silent groups silent) file channel frame) → IsTrue (reads groups file channel frame)
reads_no_more [] silent file channel frame read = read
reads_no_more (group ∷ groups) silent file channel frame read =
    by_call (is_called (length group) silent) refl
    (reads_no_more groups (drop (length group) silent) file channel frame) where
      by_call : (b : Bool) → is_called (length group) silent ≡ b
          → (IsTrue (reads (without_silent groups (drop (length group) silent)) file channel frame)
          → IsTrue (reads groups file channel frame))
          → IsTrue (reads (group ∷ groups) file channel frame)
      by_call true e rest =
          let there : reads (without_silent groups (drop (length group) silent)) file channel frame ≡ true =
          rw e at read in
          or_right _ (reads groups file channel frame) (rest there)
      by_call false e rest = or_more _ _ (reads groups file channel frame) rest (rw e at read)

pub keeps_whole : (groups : List (List Piece)) (silent : List Bool) → IsTrue (are_whole groups)
    → IsTrue (are_whole (without_silent groups silent))
keeps_whole [] silent whole = whole
keeps_whole (group ∷ groups) silent whole =
    by_call (is_called (length group) silent) refl (keeps_whole groups (drop (length group) silent)) where
      by_call : (b : Bool) → is_called (length group) silent ≡ b
          → (IsTrue (are_whole groups) → IsTrue (are_whole (without_silent groups (drop (length group) silent))))
          → IsTrue (are_whole (without_silent (group ∷ groups) silent))
      by_call true e rest = rw e (rest (and_parts (list_all is_whole group) (are_whole groups) whole).1)
      by_call false e rest = rw e (and_more (list_all is_whole group) (are_whole groups) _ rest whole)

all_left : (P : List Piece → Type 0) (groups : List (List Piece)) (silent : List Bool) → All P groups
    → All P (without_silent groups silent)
all_left P [] silent all = all
all_left P (group ∷ groups) silent all =
    by_call (is_called (length group) silent) refl
    (all_left P groups (drop (length group) silent) (All-tail P group groups all)) where
      by_call : (b : Bool) → is_called (length group) silent ≡ b
          → All P (without_silent groups (drop (length group) silent))
          → All P (without_silent (group ∷ groups) silent)
      by_call true e rest = rw e rest
      by_call false e rest = rw e (All-cons P group _ (all 0 group (omega arith)) rest)

rise_left : (low : ℕ) (groups : List (List Piece)) (silent : List Bool) → RiseFrom low groups
    → RiseFrom low (without_silent groups silent)
rise_left low [] silent rise = tt
rise_left low (group ∷ groups) silent rise =
    by_call (is_called (length group) silent) refl
    (rise_left (start_of group) groups (drop (length group) silent) rise.1) where
      by_call : (b : Bool) → is_called (length group) silent ≡ b
          → RiseFrom (start_of group) (without_silent groups (drop (length group) silent))
          → RiseFrom low (without_silent (group ∷ groups) silent)
      by_call true e rest = rw e (rise_more low (start_of group) _ rise.0 rest)
      by_call false e rest = rw e (rise.0, rest)

pub are_groups : (groups : List (List Piece)) (silent : List Bool) → AreGroups groups
    → AreGroups (without_silent groups silent)
are_groups groups silent are = record {
  groups_ok = all_left IsGroup groups silent are.groups_ok;
  pieces_ok = all_left (All IsPiece) groups silent are.pieces_ok;
  in_order = rise_left 0 groups silent are.in_order;
}
