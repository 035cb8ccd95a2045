-- Joining two packed groups.
use Rattle.std.proofs.Common.{◌≡◌, ℕ, ◌+◌, ◌<◌, ◌≤◌, Bool, true, false, List, [], ◌∷◌, ◌++◌, IsTrue, refl, arith}
use Rattle.std.specs.Prelude.{nat_lt}
use Rattle.std.proofs.lemmas.Bool.Decides.{nat_tests}
use Rattle.std.proofs.lemmas.List.{append_assoc, append-nil}
use Rattle.sound_terms.specs.declared.piece.Piece.{Piece}
use Rattle.sound_terms.specs.declared.piece.Shape.{Shape}
use Rattle.sound_terms.specs.declared.piece.Shape.TheVariants.{Flat, Rise, Fall}
use Rattle.sound_terms.specs.Groups.{rank_of}
use Rattle.sound_terms.specs.Passes.{is_followed_by}
use Rattle.groups.specs.Packed.{fall_in, flat_in, part_in, piece_in, pieces_in, rise_in}
use Rattle.groups.specs.declared.packed.Packed.{Packed}

-- a group continues a piece: the piece is no fade-out, the group has no fade-in, and no flat part after a flat piece
record GoesOn (p : Piece) (later : Packed) : Type 0 where
  pub start : later.start ≡ p.start + p.length
  pub frame : later.frame ≡ p.frame + p.length
  pub file : later.file ≡ p.file
  pub first : later.first ≡ p.first
  pub dest : later.dest ≡ p.dest
  pub width : later.width ≡ p.width
  pub no_rise : later.rise.length ≡ 0
  pub no_middle : 1 ≤ rank_of p.shape → later.middle ≡ 0
  pub not_behind_a_fall : rank_of p.shape ≤ 1

goes_on : (p : Piece) (later : Packed) → IsTrue (is_followed_by (p ∷ []) (pieces_in later)) → GoesOn p later
goes_on p later =
    by_parts (nat_lt 0 later.rise.length) (nat_lt 0 later.middle) (nat_lt 0 later.fall.length) refl refl refl where
      by_parts : (rise middle fall : Bool) → nat_lt 0 later.rise.length ≡ rise → nat_lt 0 later.middle ≡ middle
          → nat_lt 0 later.fall.length ≡ fall → IsTrue (is_followed_by (p ∷ []) (pieces_in later)) → GoesOn p later
      by_parts true middle fall r m f follows =
          let on = rw r at follows in
          absurd (grind (arith, nat_tests, on))
      by_parts false true fall r m f follows =
          let on = rw (r, m) at follows in
          let none : later.rise.length ≡ 0 = grind (arith, nat_tests) in
          record {
            start = grind (arith, nat_tests, on, none);
            frame = grind (arith, nat_tests, on, none);
            file = grind (arith, nat_tests, on);
            first = grind (arith, nat_tests, on);
            dest = grind (arith, nat_tests, on);
            width = grind (arith, nat_tests, on);
            no_rise = none;
            no_middle = λ high. absurd (grind (arith, nat_tests, on, high));
            not_behind_a_fall = grind (arith, nat_tests, on);
          }
      by_parts false false true r m f follows =
          let on = rw (r, m, f) at follows in
          let none : later.rise.length ≡ 0 = grind (arith, nat_tests) in
          let flat : later.middle ≡ 0 = grind (arith, nat_tests) in
          record {
            start = grind (arith, nat_tests, on, none, flat);
            frame = grind (arith, nat_tests, on, none, flat);
            file = grind (arith, nat_tests, on);
            first = grind (arith, nat_tests, on);
            dest = grind (arith, nat_tests, on);
            width = grind (arith, nat_tests, on);
            no_rise = none;
            no_middle = λ high. flat;
            not_behind_a_fall = grind (arith, nat_tests, on);
          }
      by_parts false false false r m f follows =
          let none : false ≡ true = rw (r, m, f) at follows in
          absurd (grind (arith, nat_tests, none))

-- whether a list may follow a group depends only on the group's last piece
behind : (front : List Piece) (p : Piece) (later : List Piece)
    → is_followed_by (front ++ p ∷ []) later ≡ is_followed_by (p ∷ []) later
behind [] p later = refl
behind (q ∷ []) p later = refl
behind (q ∷ next ∷ front) p later = behind (next ∷ front) p later

-- a group continues another, which has no fade-out; at most one of them has a flat part
record Follows (group later : Packed) : Type 0 where
  pub start : later.start ≡ group.start + (group.rise.length + group.middle)
  pub frame : later.frame ≡ group.frame + (group.rise.length + group.middle)
  pub file : later.file ≡ group.file
  pub first : later.first ≡ group.first
  pub dest : later.dest ≡ group.dest
  pub width : later.width ≡ group.width
  pub no_fall : group.fall.length ≡ 0
  pub no_rise : later.rise.length ≡ 0
  pub one_middle : 0 < group.middle → later.middle ≡ 0

from_last : (group later : Packed) (at length : ℕ) (shape : Shape) → at + length ≡ group.rise.length + group.middle
    → group.fall.length ≡ 0 → (0 < group.middle → 1 ≤ rank_of shape) → GoesOn (piece_in group at length shape) later
    → Follows group later
from_last group later at length shape whole none flat next = record {
  start = omega (arith, next.start, whole);
  frame = omega (arith, next.frame, whole);
  file = next.file;
  first = next.first;
  dest = next.dest;
  width = next.width;
  no_fall = none;
  no_rise = next.no_rise;
  one_middle = λ some. next.no_middle (flat some);
}

follows : (group later : Packed) → IsTrue (is_followed_by (pieces_in group) (pieces_in later)) → Follows group later
follows group later =
    by_parts (nat_lt 0 group.rise.length) (nat_lt 0 group.middle) (nat_lt 0 group.fall.length) refl refl refl where
      by_parts : (rise middle fall : Bool) → nat_lt 0 group.rise.length ≡ rise → nat_lt 0 group.middle ≡ middle
          → nat_lt 0 group.fall.length ≡ fall → IsTrue (is_followed_by (pieces_in group) (pieces_in later))
          → Follows group later
      by_parts rise middle true r m f on =
          let first = part_in group 0 group.rise.length (Rise group.rise.offset group.rise.den) in
          let second = part_in group group.rise.length group.middle Flat in
          let last = rw (
            f,
            ← append_assoc first second (fall_in group ∷ []),
            behind (first ++ second) (fall_in group) (pieces_in later),
          ) at on in
          absurd (grind (arith, (goes_on (fall_in group) later last).not_behind_a_fall))
      by_parts rise true false r m f on =
          let first = part_in group 0 group.rise.length (Rise group.rise.offset group.rise.den) in
          let last = rw (m, f, behind first (flat_in group) (pieces_in later)) at on in
          let none : group.fall.length ≡ 0 = grind (arith, nat_tests) in
          from_last group later group.rise.length group.middle Flat refl none (λ some. omega arith)
          (goes_on (flat_in group) later last)
      by_parts true false false r m f on =
          let none : group.fall.length ≡ 0 = grind (arith, nat_tests) in
          let flat : group.middle ≡ 0 = grind (arith, nat_tests) in
          from_last group later 0 group.rise.length (Rise group.rise.offset group.rise.den) (omega (arith, flat)) none
          (λ some. absurd (omega (arith, some, flat))) (goes_on (rise_in group) later (rw (r, m, f) at on))
      by_parts false false false r m f on =
          let none : false ≡ true = rw (r, m, f) at on in absurd (grind (arith, nat_tests, none))

-- two packed groups joined
abbrev pub joined : Packed → Packed → Packed
joined group later = record group { middle = group.middle + later.middle; fall = later.fall }

flat_joined : (group later : Packed) → Follows group later
    → part_in (joined group later) group.rise.length (group.middle + later.middle) Flat
    ≡ part_in group group.rise.length group.middle Flat ++ part_in later later.rise.length later.middle Flat
flat_joined group later on = by_middle (nat_lt 0 group.middle) (nat_lt 0 later.middle) refl refl where
  by_middle : (own other : Bool) → nat_lt 0 group.middle ≡ own → nat_lt 0 later.middle ≡ other
      → part_in (joined group later) group.rise.length (group.middle + later.middle) Flat
      ≡ part_in group group.rise.length group.middle Flat ++ part_in later later.rise.length later.middle Flat
  by_middle true other e f =
      let none : later.middle ≡ 0 = on.one_middle (grind (arith, nat_tests)) in
      let same : group.middle + later.middle ≡ group.middle = omega (arith, none) in
      rw (same, none, e) refl
  by_middle false true e f =
      let none : group.middle ≡ 0 = grind (arith, nat_tests) in
      let same : group.middle + later.middle ≡ later.middle = omega (arith, none) in
      let start : group.start + group.rise.length ≡ later.start + later.rise.length = omega (arith, on.start, on.no_rise, none) in
      let frame : group.frame + group.rise.length ≡ later.frame + later.rise.length = omega (arith, on.frame, on.no_rise, none) in
      rw (same, e, f, start, frame, on.file, on.first, on.dest, on.width) refl
  by_middle false false e f =
      let none : group.middle ≡ 0 = grind (arith, nat_tests) in
      let same : group.middle + later.middle ≡ later.middle = omega (arith, none) in
      rw (same, e, f) refl

fall_joined : (group later : Packed) (shape : Shape) → Follows group later
    → part_in (joined group later) (group.rise.length + (group.middle + later.middle)) later.fall.length shape
    ≡ part_in later (later.rise.length + later.middle) later.fall.length shape
fall_joined group later shape on =
    let start : group.start + (group.rise.length + (group.middle + later.middle))
    ≡ later.start + (later.rise.length + later.middle) = omega (arith, on.start, on.no_rise) in
    let frame : group.frame + (group.rise.length + (group.middle + later.middle))
    ≡ later.frame + (later.rise.length + later.middle) = omega (arith, on.frame, on.no_rise) in
    rw (start, frame, on.file, on.first, on.dest, on.width) refl

without_empty : (rise flat fall other more last : List Piece) → fall ≡ [] → other ≡ []
    → rise ++ ((flat ++ more) ++ last) ≡ (rise ++ (flat ++ fall)) ++ (other ++ (more ++ last))
without_empty rise flat fall other more last e f =
    rw (e, f) (rw (append-nil flat, append_assoc flat more last, append_assoc rise flat (more ++ last)) refl)

pub pieces_joined : (group later : Packed) → IsTrue (is_followed_by (pieces_in group) (pieces_in later))
    → pieces_in (joined group later) ≡ pieces_in group ++ pieces_in later
pieces_joined group later on =
    let next = follows group later on in
    let own_rise = part_in group 0 group.rise.length (Rise group.rise.offset group.rise.den) in
    let own_fall =
    part_in group (group.rise.length + group.middle) group.fall.length (Fall group.fall.offset group.fall.den) in
    let rise = part_in later 0 later.rise.length (Rise later.rise.offset later.rise.den) in
    let fall =
    part_in later (later.rise.length + later.middle) later.fall.length (Fall later.fall.offset later.fall.den) in
    let no_fall : own_fall ≡ [] = rw next.no_fall refl in
    let no_rise : rise ≡ [] = rw next.no_rise refl in
    rw (flat_joined group later next, fall_joined group later (Fall later.fall.offset later.fall.den) next)
    (without_empty own_rise (part_in group group.rise.length group.middle Flat) own_fall rise
    (part_in later later.rise.length later.middle Flat) fall no_fall no_rise)
