-- Laws of groups of pieces: sums, parts, shapes and lengths.
use Rattle.std.specs.Prelude.{◌≡◌, ℕ, ◌+◌, ◌≤◌, Bool, ◌||◌, List, [], ◌∷◌, ◌++◌, ◌+ℤ◌, All, IsTrue, refl}
use Rattle.std.specs.List.{list_any, sum_by}
use Rattle.std.proofs.Common.{ap, ◌∙◌, sym, arith}
use Rattle.std.proofs.lemmas.Bool.Decides.{nat_tests}
use Rattle.std.proofs.lemmas.Int.{ints}
use Rattle.std.proofs.lemmas.List.Elements.{All-head, All-tail}
use Rattle.std.proofs.lemmas.List.Folds.{list_any-append}
use Rattle.std.proofs.lemmas.List.Sums.{sum_by-cons}
use Rattle.sampletime.specs.TimeCode.{day}
use Rattle.facts.specs.Lists.{all_of_parts}
use Rattle.sound_terms.specs.declared.piece.Piece.{Piece}
use Rattle.sound_terms.specs.declared.piece.Shape.{Shape}
use Rattle.sound_terms.specs.declared.piece.Shape.TheVariants.{Flat, Rise, Fall}
use Rattle.sound_terms.specs.Groups.{IsGroup, IsPiece, IsRamp, continues, fraction_of, is_read, pieces_of, reads, start_of, sum_of}
use Rattle.sound_terms.specs.Mix.{Reading}
use Rattle.sound_terms.specs.Passes.{is_followed_by, shape_behind}
use Rattle.sound_terms.specs.Entries.{falling_in, length_of_group, rising_in}

-- the sum of joined lists of pieces is the sum of both
pub sum_of-append :
    (r : Reading) (a b : List Piece) (channel time : ℕ)
    → sum_of r (a ++ b) channel time ≡ sum_of r a channel time +ℤ sum_of r b channel time
sum_of-append r [] b channel time = omega (arith, ints)
sum_of-append r (p ∷ ps) b channel time = omega (arith, ints, sum_of-append r ps b channel time)

-- a property of the pieces of each group holds for all pieces
pub all_pieces : (P : Piece → Type 0) (groups : List (List Piece)) → All (All P) groups → All P (pieces_of groups)
all_pieces P groups all = all_of_parts (All P) P (λ group. group) (λ group each. each) groups all

-- reading a sample frame depends only on the pieces, not on their grouping
pub reads_pieces :
    (groups : List (List Piece)) (file channel frame : ℕ)
    → reads groups file channel frame ≡ list_any (λ p. is_read p file channel frame) (pieces_of groups)
reads_pieces [] file channel frame = refl
reads_pieces (group ∷ groups) file channel frame =
    ap (λ (b : Bool). list_any (λ p. is_read p file channel frame) group || b) (reads_pieces groups file channel frame)
    ∙ sym (list_any-append (λ p. is_read p file channel frame) group (pieces_of groups))

-- two groups, the second of which may follow the first, form one group
pub IsGroup-append :
    (a b : List Piece) → IsGroup a → IsGroup b → IsTrue (is_followed_by a b) → IsGroup (a ++ b)
IsGroup-append [] b front back follows = absurd front
IsGroup-append (p ∷ []) [] front back follows = absurd back
IsGroup-append (p ∷ []) (q ∷ qs) front back follows = (follows, back)
IsGroup-append (p ∷ next ∷ ps) b front back follows =
    (front.0, IsGroup-append (next ∷ ps) b front.1 back follows)

-- the later piece starts where the earlier one ends, in time and in the file, on the same channels
pub record GoesOn (p later : Piece) : Type 0 where
  pub start : later.start ≡ p.start + p.length
  pub frame : later.frame ≡ p.frame + p.length
  pub file : later.file ≡ p.file
  pub first : later.first ≡ p.first
  pub dest : later.dest ≡ p.dest
  pub width : later.width ≡ p.width

pub goes_on : (p later : Piece) → IsTrue (continues p later) → GoesOn p later
goes_on p later on = record {
  start = grind (arith, nat_tests);
  frame = grind (arith, nat_tests);
  file = grind (arith, nat_tests);
  first = grind (arith, nat_tests);
  dest = grind (arith, nat_tests);
  width = grind (arith, nat_tests);
}

-- the shape of the rest of a piece continues the shape of the piece
pub fraction_behind :
    (shape : Shape) (cut i : ℕ) → fraction_of (shape_behind cut shape) i ≡ fraction_of shape (cut + i)
fraction_behind Flat cut i = refl
fraction_behind (Rise offset den) cut i = let e : offset + cut + i ≡ offset + (cut + i) = omega arith in rw e refl
fraction_behind (Fall offset den) cut i = let e : offset + cut + i ≡ offset + (cut + i) = omega arith in rw e refl

-- part of a valid ramp is a valid ramp
pub ramp_within :
    (shape : Shape) (cut n whole : ℕ) → cut + n ≤ whole → IsRamp shape whole → IsRamp (shape_behind cut shape) n
ramp_within Flat cut n whole inside ramp = tt
ramp_within (Rise offset den) cut n whole inside ramp = (omega arith, ramp.1)
ramp_within (Fall offset den) cut n whole inside ramp = (omega arith, ramp.1)

-- each piece adds its length to the length of a group
pub length_more : (p : Piece) (ps : List Piece) → length_of_group (p ∷ ps) ≡ p.length + length_of_group ps
length_more p ps = sum_by-cons (λ (q : Piece). q.length) p ps

-- the pieces of a group are contiguous, so the group ends within the day if its last piece does
pub ends_in_day :
    (group : List Piece) → IsGroup group → All IsPiece group → start_of group + length_of_group group ≤ day
ends_in_day [] is all = absurd is
ends_in_day (p ∷ []) is all = rw (length_more p []) (omega (arith, (All-head IsPiece p [] all).in_day))
ends_in_day (p ∷ q ∷ qs) is all =
    let next : q.start ≡ p.start + p.length = grind (arith, nat_tests, is.0) in
    let rest : q.start + length_of_group (q ∷ qs) ≤ day = ends_in_day (q ∷ qs) is.1 (All-tail IsPiece p (q ∷ qs) all) in
    rw (length_more p (q ∷ qs)) (omega (arith, next, rest))

faded : (p : Piece) → rising_in p + falling_in p ≤ p.length
faded p = by_shape p.shape where
  by_shape : (shape : Shape)
      → rising_in (record p { shape = shape }) + falling_in (record p { shape = shape }) ≤ p.length
  by_shape Flat = omega arith
  by_shape (Rise offset den) = omega arith
  by_shape (Fall offset den) = omega arith

-- the fades of a group are no longer than the group
pub fades_within : (group : List Piece) → sum_by rising_in group + sum_by falling_in group ≤ length_of_group group
fades_within [] = omega arith
fades_within (p ∷ ps) =
    rw (sum_by-cons rising_in p ps, sum_by-cons falling_in p ps, length_more p ps)
    (omega (arith, faded p, fades_within ps))
