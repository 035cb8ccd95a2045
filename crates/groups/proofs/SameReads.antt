-- Cutting a group doesn't change the source samples that it reads.
use Rattle.std.proofs.Common.{◌≡◌, ℕ, ◌+◌, ◌-◌, ◌≤◌, Bool, true, false, List, [], ◌∷◌, refl, ◌∙◌, arith}
use Rattle.std.specs.Prelude.{◌||◌, ◌==◌, nat_le, nat_lt}
use Rattle.std.specs.List.{flat_map}
use Rattle.std.proofs.Math.Bool.{or-false, or-true}
use Rattle.std.proofs.lemmas.Bool.Decides.{nat_tests}
use Rattle.std.proofs.lemmas.List.Folds.{list_any-append}
use Rattle.facts.specs.Stretches.{either_joined}
use Rattle.sound_terms.specs.declared.piece.Piece.{Piece}
use Rattle.sound_terms.specs.Groups.{is_read, reads}
use Rattle.sound_terms.specs.OrderLaws.{read_by, reads_in_order}
use Rattle.sound_terms.specs.Passes.{as_group, cut_group, cut_groups, piece_before, piece_behind}

module _ (file channel frame : ℕ) where
  abbrev read : List Piece → Bool
  read = read_by file channel frame

  piece_cut : (cut : ℕ) (p : Piece)
      → (read (piece_before cut p) || read (piece_behind cut p)) ≡ is_read p file channel frame
  piece_cut cut p = by_ends (nat_le cut p.start) (nat_le (p.start + p.length) cut) refl refl where
    by_ends : (a b : Bool) → nat_le cut p.start ≡ a → nat_le (p.start + p.length) cut ≡ b
        → (read (piece_before cut p) || read (piece_behind cut p)) ≡ is_read p file channel frame
    by_ends true b e f = rw e (or-false (is_read p file channel frame))
    by_ends false true e f = rw (e, f) (or-false _ ∙ or-false (is_read p file channel frame))
    by_ends false false e f =
        let short : cut - p.start ≤ p.length = grind (arith, nat_tests) in
        let whole : cut - p.start + (p.length - (cut - p.start)) ≡ p.length = omega arith in
        let both =
        either_joined (p.file == file) (nat_le p.first channel) (nat_lt channel (p.first + p.width)) p.frame
        (cut - p.start) (p.length - (cut - p.start)) frame in
        rw (e, f) (rw (or-false, or-false) (rw whole at both))

  exchanged : (a b c d : Bool) → ((a || b) || (c || d)) ≡ ((a || c) || (b || d))
  exchanged true b c d = refl
  exchanged false b true d = or-true b
  exchanged false b false d = refl

  sides_cut : (cut : ℕ) (pieces : List Piece)
      → (read (flat_map (piece_before cut) pieces) || read (flat_map (piece_behind cut) pieces)) ≡ read pieces
  sides_cut cut [] = refl
  sides_cut cut (p ∷ ps) =
      let test = λ (q : Piece). is_read q file channel frame in
      rw (
        list_any-append test (piece_before cut p) (flat_map (piece_before cut) ps),
        list_any-append test (piece_behind cut p) (flat_map (piece_behind cut) ps),
      )
      (exchanged (read (piece_before cut p)) (read (flat_map (piece_before cut) ps))
      (read (piece_behind cut p)) (read (flat_map (piece_behind cut) ps))
      ∙ rw (piece_cut cut p, sides_cut cut ps) refl)

  read_as_group : (pieces : List Piece) → reads (as_group pieces) file channel frame ≡ read pieces
  read_as_group [] = refl
  read_as_group (p ∷ ps) = or-false (read (p ∷ ps))

  groups_cut : (cut : ℕ) (groups : List (List Piece))
      → reads (flat_map (cut_group cut) groups) file channel frame ≡ reads groups file channel frame
  groups_cut cut [] = refl
  groups_cut cut (group ∷ groups) =
      let front = flat_map (piece_before cut) group in
      let back = flat_map (piece_behind cut) group in
      rw (
        list_any-append read (cut_group cut group) (flat_map (cut_group cut) groups),
        list_any-append read (as_group front) (as_group back),
      )
      (rw (read_as_group front, read_as_group back, sides_cut cut group, groups_cut cut groups) refl)

pub reads_cut : (cut : ℕ) (groups : List (List Piece)) (file channel frame : ℕ)
    → reads (cut_groups cut groups) file channel frame ≡ reads groups file channel frame
reads_cut cut groups file channel frame =
    reads_in_order file channel frame (flat_map (cut_group cut) groups) ∙ groups_cut file channel frame cut groups
