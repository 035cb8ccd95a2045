-- Cutting a group doesn't change the samples that it adds.
use Rattle.std.proofs.Common.{◌≡◌, ℕ, ◌+◌, ◌-◌, ◌<◌, ◌≤◌, Bool, true, false, List, [], ◌∷◌, ◌++◌, refl, ◌∙◌, arith}
use Rattle.std.specs.Prelude.{ℤ, pos, ◌+ℤ◌, ◌&&◌, if◌then◌else◌, nat_le, nat_lt}
use Rattle.std.specs.List.{flat_map}
use Rattle.std.proofs.lemmas.Bool.Decides.{nat_tests}
use Rattle.std.proofs.lemmas.Int.{ints}
use Rattle.facts.specs.Stretches.{sums_joined}
use Rattle.sound_terms.specs.declared.piece.Piece.{Piece}
use Rattle.sound_terms.specs.Mix.{Reading, share_of}
use Rattle.sound_terms.specs.Groups.{fraction_of, mix_of, part_of, pieces_of, sum_of}
use Rattle.sound_terms.specs.GroupLaws.{fraction_behind, sum_of-append}
use Rattle.sound_terms.specs.OrderLaws.{mix_in_order}
use Rattle.sound_terms.specs.Passes.{as_group, cut_group, cut_groups, piece_before, piece_behind, shape_behind}

abbrev front_of : ℕ → Piece → Piece
front_of cut p = record p { length = cut - p.start }

abbrev back_of : ℕ → Piece → Piece
back_of cut p = record p {
  start = cut;
  length = p.length - (cut - p.start);
  frame = p.frame + (cut - p.start);
  shape = shape_behind (cut - p.start) p.shape;
}

-- at any time only one side of a cut stretch is active, and it adds the samples of the whole
two_parts : (a b : Bool) (start cut length time : ℕ) (x y : ℤ) → start < cut → cut < start + length
    → (cut ≤ time → y ≡ x)
    → (if a && (b && (nat_le start time && nat_lt time (start + (cut - start)))) then x else pos 0)
    +ℤ (if a && (b && (nat_le cut time && nat_lt time (cut + (length - (cut - start))))) then y else pos 0)
    ≡ (if a && (b && (nat_le start time && nat_lt time (start + length))) then x else pos 0)
two_parts a b start cut length time x y low high same =
    let at : start + (cut - start) ≡ cut = omega arith in
    let whole : cut - start + (length - (cut - start)) ≡ length = omega arith in
    let joined =
    sums_joined start (cut - start) (length - (cut - start)) time x y x (λ from to. refl)
    (λ from to. same (omega (arith, from))) a b in
    rw at (rw (whole, at) at joined)

-- both sides of a piece that is cut add the samples of the piece
part_cut : (r : Reading) (cut : ℕ) (p : Piece) (channel time : ℕ) → p.start < cut → cut < p.start + p.length
    → part_of r (front_of cut p) channel time +ℤ part_of r (back_of cut p) channel time ≡ part_of r p channel time
part_cut r cut p channel time low high =
    two_parts (nat_le p.dest channel) (nat_lt channel (p.dest + p.width))
    p.start cut p.length time _ _ low high same where
      same : cut ≤ time → share_of (r p.file (p.first + (channel - p.dest)) (p.frame + (cut - p.start) + (time - cut)))
          (fraction_of (shape_behind (cut - p.start) p.shape) (time - cut))
          ≡ share_of (r p.file (p.first + (channel - p.dest)) (p.frame + (time - p.start)))
          (fraction_of p.shape (time - p.start))
      same behind =
          let frames : p.frame + (cut - p.start) + (time - cut) ≡ p.frame + (time - p.start) = omega arith in
          let samples : (cut - p.start) + (time - cut) ≡ time - p.start = omega arith in
          rw (frames, fraction_behind p.shape (cut - p.start) (time - cut), samples) refl

-- the parts of any piece before and after the cut add the samples of the piece
piece_cut : (r : Reading) (cut : ℕ) (p : Piece) (channel time : ℕ)
    → sum_of r (piece_before cut p) channel time +ℤ sum_of r (piece_behind cut p) channel time
    ≡ part_of r p channel time
piece_cut r cut p channel time = by_ends (nat_le cut p.start) (nat_le (p.start + p.length) cut) refl refl where
  by_ends : (a b : Bool) → nat_le cut p.start ≡ a → nat_le (p.start + p.length) cut ≡ b
      → sum_of r (piece_before cut p) channel time +ℤ sum_of r (piece_behind cut p) channel time
      ≡ part_of r p channel time
  by_ends true b e f = rw e (omega (arith, ints))
  by_ends false true e f = rw (e, f) (omega (arith, ints))
  by_ends false false e f =
      let low : p.start < cut = grind (arith, nat_tests) in
      let high : cut < p.start + p.length = grind (arith, nat_tests) in
      rw (e, f) (omega (arith, ints, part_cut r cut p channel time low high))

sum_as_group : (r : Reading) (pieces : List Piece) (channel time : ℕ)
    → mix_of r (as_group pieces) channel time ≡ sum_of r pieces channel time
sum_as_group r [] channel time = refl
sum_as_group r (p ∷ ps) channel time =
    let e = sum_of-append r (p ∷ ps) [] channel time in omega (arith, ints, e)

sides_cut : (r : Reading) (cut : ℕ) (pieces : List Piece) (channel time : ℕ)
    → sum_of r (flat_map (piece_before cut) pieces) channel time
    +ℤ sum_of r (flat_map (piece_behind cut) pieces) channel time
    ≡ sum_of r pieces channel time
sides_cut r cut [] channel time = refl
sides_cut r cut (p ∷ ps) channel time =
    let front = sum_of-append r (piece_before cut p) (flat_map (piece_before cut) ps) channel time in
    let back = sum_of-append r (piece_behind cut p) (flat_map (piece_behind cut) ps) channel time in
    omega (arith, ints, front, back, piece_cut r cut p channel time, sides_cut r cut ps channel time)

pub mix_of-append : (r : Reading) (a b : List (List Piece)) (channel time : ℕ)
    → mix_of r (a ++ b) channel time ≡ mix_of r a channel time +ℤ mix_of r b channel time
mix_of-append r [] b channel time = omega (arith, ints)
mix_of-append r (group ∷ groups) b channel time =
    let all = sum_of-append r group (pieces_of (groups ++ b)) channel time in
    let first = sum_of-append r group (pieces_of groups) channel time in
    omega (arith, ints, all, first, mix_of-append r groups b channel time)

sum_cut : (r : Reading) (cut : ℕ) (groups : List (List Piece)) (channel time : ℕ)
    → mix_of r (flat_map (cut_group cut) groups) channel time ≡ mix_of r groups channel time
sum_cut r cut [] channel time = refl
sum_cut r cut (group ∷ groups) channel time =
    let front = flat_map (piece_before cut) group in
    let back = flat_map (piece_behind cut) group in
    let all = mix_of-append r (cut_group cut group) (flat_map (cut_group cut) groups) channel time in
    let both = mix_of-append r (as_group front) (as_group back) channel time in
    let first = sum_as_group r front channel time in
    let second = sum_as_group r back channel time in
    let given = sum_of-append r group (pieces_of groups) channel time in
    omega (
      arith,
      ints,
      all,
      both,
      first,
      second,
      given,
      sides_cut r cut group channel time,
      sum_cut r cut groups channel time,
    )

pub mix_cut : (r : Reading) (cut : ℕ) (groups : List (List Piece)) (channel time : ℕ)
    → mix_of r (cut_groups cut groups) channel time ≡ mix_of r groups channel time
mix_cut r cut groups channel time =
    mix_in_order r channel time (flat_map (cut_group cut) groups) ∙ sum_cut r cut groups channel time
