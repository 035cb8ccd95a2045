-- Both sides of a cut group are groups of valid pieces.
use Rattle.std.proofs.Common.{◌≡◌, ◌≢◌, ℕ, ◌+◌, ◌-◌, ◌<◌, ◌≤◌, Bool, true, false, List, [], ◌∷◌, IsTrue, refl, arith, All}
use Rattle.std.specs.Prelude.{nat_le}
use Rattle.std.specs.List.{flat_map}
use Rattle.std.proofs.lemmas.Bool.Decides.{nat_tests}
use Rattle.std.proofs.lemmas.List.Elements.{All-append, All-cons, All-head, All-nil, All-tail}
use Rattle.facts.specs.Lists.{all_of_parts}
use Rattle.sound_terms.specs.declared.piece.Piece.{Piece}
use Rattle.sound_terms.specs.declared.piece.Shape.{Shape}
use Rattle.sound_terms.specs.declared.piece.Shape.TheVariants.{Flat, Rise, Fall}
use Rattle.sound_terms.specs.Groups.{IsGroup, IsPiece, IsRamp, may_follow, rank_of}
use Rattle.sound_terms.specs.GroupLaws.{ramp_within}
use Rattle.sound_terms.specs.Passes.{as_group, cut_group, piece_before, piece_behind, shape_behind}

abbrev pub front : ℕ → List Piece → List Piece
front time group = flat_map (piece_before time) group

abbrev pub back : ℕ → List Piece → List Piece
back time group = flat_map (piece_behind time) group

ramp_shorter : (shape : Shape) (n m : ℕ) → m ≤ n → IsRamp shape n → IsRamp shape m
ramp_shorter Flat n m le ramp = tt
ramp_shorter (Rise offset den) n m le ramp = (omega arith, ramp.1)
ramp_shorter (Fall offset den) n m le ramp = (omega arith, ramp.1)

rank_behind : (shape : Shape) (cut : ℕ) → rank_of (shape_behind cut shape) ≡ rank_of shape
rank_behind Flat cut = refl
rank_behind (Rise offset den) cut = refl
rank_behind (Fall offset den) cut = refl

-- start of the next piece of a group
next_start : (p q : Piece) → IsTrue (may_follow p q) → q.start ≡ p.start + p.length
next_start p q follows = grind (arith, nat_tests)

-- a non-empty part of a valid piece is valid
stretch_is_piece : (p : Piece) (start frame length : ℕ) (shape : Shape) → IsPiece p → 1 ≤ length
    → start + length ≤ p.start + p.length → frame + length ≤ p.frame + p.length → IsRamp shape length
    → IsPiece (record p { start = start; length = length; frame = frame; shape = shape })
stretch_is_piece p start frame length shape ok some ends frames ramp = record {
  wide = ok.wide;
  source_from_one = ok.source_from_one;
  source_to_64 = ok.source_to_64;
  dest_from_one = ok.dest_from_one;
  dest_to_64 = ok.dest_to_64;
  some = omega arith;
  in_day = omega (arith, ok.in_day);
  source_in_day = omega (arith, ok.source_in_day);
  ramp = ramp;
}

-- the part of a valid piece before a time is valid
before_is_piece : (time : ℕ) (p : Piece) → IsPiece p → All IsPiece (piece_before time p)
before_is_piece time p ok = by_ends (nat_le time p.start) (nat_le (p.start + p.length) time) refl refl where
  by_ends : (none whole : Bool) → nat_le time p.start ≡ none → nat_le (p.start + p.length) time ≡ whole
      → All IsPiece (piece_before time p)
  by_ends true whole e f = rw e (All-nil IsPiece)
  by_ends false true e f = rw (e, f) (All-cons IsPiece p [] ok (All-nil IsPiece))
  by_ends false false e f =
      let low : p.start < time = grind (arith, nat_tests) in
      let high : time < p.start + p.length = grind (arith, nat_tests) in
      rw (e, f) (All-cons IsPiece _ [] (stretch_is_piece p p.start p.frame (time - p.start) p.shape ok
      (omega arith) (omega arith) (omega arith) (ramp_shorter p.shape p.length (time - p.start) (omega arith) ok.ramp))
      (All-nil IsPiece))

behind_is_piece : (time : ℕ) (p : Piece) → IsPiece p → All IsPiece (piece_behind time p)
behind_is_piece time p ok = by_ends (nat_le time p.start) (nat_le (p.start + p.length) time) refl refl where
  by_ends : (whole none : Bool) → nat_le time p.start ≡ whole → nat_le (p.start + p.length) time ≡ none
      → All IsPiece (piece_behind time p)
  by_ends true none e f = rw e (All-cons IsPiece p [] ok (All-nil IsPiece))
  by_ends false true e f = rw (e, f) (All-nil IsPiece)
  by_ends false false e f =
      let low : p.start < time = grind (arith, nat_tests) in
      let high : time < p.start + p.length = grind (arith, nat_tests) in
      let left = p.length - (time - p.start) in
      rw (e, f) (All-cons IsPiece _ [] (stretch_is_piece p time (p.frame + (time - p.start)) left
      (shape_behind (time - p.start) p.shape) ok (omega arith) (omega arith) (omega arith)
      (ramp_within p.shape (time - p.start) left p.length (omega arith) ok.ramp))
      (All-nil IsPiece))

pub front_pieces : (time : ℕ) (group : List Piece) → All IsPiece group → All IsPiece (front time group)
front_pieces time [] all = All-nil IsPiece
front_pieces time (p ∷ ps) all =
    All-append IsPiece _ _ (before_is_piece time p (All-head IsPiece p ps all))
    (front_pieces time ps (All-tail IsPiece p ps all))

pub back_pieces : (time : ℕ) (group : List Piece) → All IsPiece group → All IsPiece (back time group)
back_pieces time [] all = All-nil IsPiece
back_pieces time (p ∷ ps) all =
    All-append IsPiece _ _ (behind_is_piece time p (All-head IsPiece p ps all))
    (back_pieces time ps (All-tail IsPiece p ps all))

-- a group that starts at or after the time has nothing before it
none_before : (time : ℕ) (p : Piece) (ps : List Piece) → IsGroup (p ∷ ps) → time ≤ p.start → front time (p ∷ ps) ≡ []
none_before time p [] group le = let e : nat_le time p.start ≡ true = grind (arith, nat_tests) in rw e refl
none_before time p (q ∷ qs) group le =
    let e : nat_le time p.start ≡ true = grind (arith, nat_tests) in
    let next = next_start p q group.0 in
    rw e (none_before time q qs group.1 (omega arith))

-- a group that starts at or after the time is entirely after it
all_behind : (time : ℕ) (p : Piece) (ps : List Piece) → IsGroup (p ∷ ps) → time ≤ p.start → back time (p ∷ ps) ≡ p ∷ ps
all_behind time p [] group le = let e : nat_le time p.start ≡ true = grind (arith, nat_tests) in rw e refl
all_behind time p (q ∷ qs) group le =
    let e : nat_le time p.start ≡ true = grind (arith, nat_tests) in
    let next = next_start p q group.0 in
    let rest = all_behind time q qs group.1 (omega arith) in
    rw e (rw rest refl)

-- the part of the next pieces before the time may follow the first piece
front_follows : (time : ℕ) (p q : Piece) (qs : List Piece) → IsTrue (may_follow p q) → IsGroup (q ∷ qs)
    → (front time (q ∷ qs) ≢ [] → IsGroup (front time (q ∷ qs))) → IsGroup (p ∷ front time (q ∷ qs))
front_follows time p q qs follows group behind =
    by_ends (nat_le time q.start) (nat_le (q.start + q.length) time) refl refl where
      by_ends : (none whole : Bool) → nat_le time q.start ≡ none → nat_le (q.start + q.length) time ≡ whole
          → IsGroup (p ∷ front time (q ∷ qs))
      by_ends true whole e f =
          let nothing = none_before time q qs group (grind (arith, nat_tests)) in
          rw nothing tt
      by_ends false true e f =
          let is : front time (q ∷ qs) ≡ q ∷ front time qs = rw (e, f) refl in
          rw is (follows, rw is at (behind (λ none. cc)))
      by_ends false false e f =
          let is : front time (q ∷ qs) ≡ record q { length = time - q.start } ∷ front time qs = rw (e, f) refl in
          rw is (follows, rw is at (behind (λ none. cc)))

pub front_group : (time : ℕ) (group : List Piece) → IsGroup group → front time group ≢ [] → IsGroup (front time group)
front_group time [] group some = absurd group
front_group time (p ∷ []) group some = by_ends (nat_le time p.start) (nat_le (p.start + p.length) time) refl refl where
  by_ends : (none whole : Bool) → nat_le time p.start ≡ none → nat_le (p.start + p.length) time ≡ whole
      → IsGroup (front time (p ∷ []))
  by_ends true whole e f = let nothing : front time (p ∷ []) ≡ [] = rw e refl in absurd (some nothing)
  by_ends false true e f = rw (e, f) tt
  by_ends false false e f = rw (e, f) tt
front_group time (p ∷ q ∷ qs) group some =
    by_ends (nat_le time p.start) (nat_le (p.start + p.length) time) refl refl (front_group time (q ∷ qs) group.1) where
      by_ends : (none whole : Bool) → nat_le time p.start ≡ none → nat_le (p.start + p.length) time ≡ whole
          → (front time (q ∷ qs) ≢ [] → IsGroup (front time (q ∷ qs))) → IsGroup (front time (p ∷ q ∷ qs))
      by_ends true whole e f behind =
          let nothing = none_before time p (q ∷ qs) group (grind (arith, nat_tests)) in
          absurd (some nothing)
      by_ends false true e f behind = rw (e, f) (front_follows time p q qs group.0 group.1 behind)
      by_ends false false e f behind =
          let next = next_start p q group.0 in
          let late : time ≤ q.start = grind (arith, nat_tests) in
          let nothing = none_before time q qs group.1 late in
          rw (e, f) (rw nothing tt)

-- the part of a piece after the cut is followed by the same pieces as the whole piece
cut_goes_on : (time : ℕ) (p q : Piece) → p.start < time → time < p.start + p.length → IsTrue (may_follow p q)
    → IsTrue (may_follow (record p {
      start = time;
      length = p.length - (time - p.start);
      frame = p.frame + (time - p.start);
      shape = shape_behind (time - p.start) p.shape;
    }) q)
cut_goes_on time p q low high follows =
    let ends : time + (p.length - (time - p.start)) ≡ p.start + p.length = omega arith in
    let frames : p.frame + (time - p.start) + (p.length - (time - p.start)) ≡ p.frame + p.length = omega arith in
    let rank = rank_behind p.shape (time - p.start) in
    rw (ends, frames, rank) follows

pub back_group : (time : ℕ) (group : List Piece) → IsGroup group → back time group ≢ [] → IsGroup (back time group)
back_group time [] group some = absurd group
back_group time (p ∷ []) group some = by_ends (nat_le time p.start) (nat_le (p.start + p.length) time) refl refl where
  by_ends : (whole none : Bool) → nat_le time p.start ≡ whole → nat_le (p.start + p.length) time ≡ none
      → IsGroup (back time (p ∷ []))
  by_ends true none e f = rw e tt
  by_ends false true e f = let nothing : back time (p ∷ []) ≡ [] = rw (e, f) refl in absurd (some nothing)
  by_ends false false e f = rw (e, f) tt
back_group time (p ∷ q ∷ qs) group some =
    by_ends (nat_le time p.start) (nat_le (p.start + p.length) time) refl refl (back_group time (q ∷ qs) group.1) where
      by_ends : (whole none : Bool) → nat_le time p.start ≡ whole → nat_le (p.start + p.length) time ≡ none
          → (back time (q ∷ qs) ≢ [] → IsGroup (back time (q ∷ qs))) → IsGroup (back time (p ∷ q ∷ qs))
      by_ends true none e f behind = rw (all_behind time p (q ∷ qs) group (grind (arith, nat_tests))) group
      by_ends false true e f behind =
          let is : back time (p ∷ q ∷ qs) ≡ back time (q ∷ qs) = rw (e, f) refl in
          rw is (behind (λ none. some (rw is none)))
      by_ends false false e f behind =
          let next = next_start p q group.0 in
          let low : p.start < time = grind (arith, nat_tests) in
          let high : time < p.start + p.length = grind (arith, nat_tests) in
          let rest = all_behind time q qs group.1 (omega arith) in
          rw (e, f) (rw rest (cut_goes_on time p q low high group.0, group.1))

-- a property of a non-empty list holds for the group made from it
of_group : (P : List Piece → Type 0) (pieces : List Piece) → (pieces ≢ [] → P pieces) → All P (as_group pieces)
of_group P [] is = All-nil P
of_group P (p ∷ ps) is = All-cons P (p ∷ ps) [] (is (λ none. cc)) (All-nil P)

-- a property of both sides of each group holds for all groups after the cut
pub all_sides : (time : ℕ) (P Q : List Piece → Type 0)
    → ((group : List Piece) → P group → (front time group ≢ [] → Q (front time group))
    × (back time group ≢ [] → Q (back time group)))
    → (groups : List (List Piece)) → All P groups → All Q (flat_map (cut_group time) groups)
all_sides time P Q sides =
    all_of_parts P Q (cut_group time) (λ group is.
    let both = sides group is in
    All-append Q (as_group (front time group)) (as_group (back time group)) (of_group Q (front time group) both.0)
    (of_group Q (back time group) both.1))

pub cut_are_groups : (time : ℕ) (groups : List (List Piece)) → All IsGroup groups
    → All IsGroup (flat_map (cut_group time) groups)
cut_are_groups time =
    all_sides time IsGroup IsGroup (λ group is. (front_group time group is, back_group time group is))

pub cut_hold_pieces : (time : ℕ) (groups : List (List Piece)) → All (All IsPiece) groups
    → All (All IsPiece) (flat_map (cut_group time) groups)
cut_hold_pieces time =
    all_sides time (All IsPiece) (All IsPiece) (λ group all. (
      (λ some. front_pieces time group all),
      (λ some. back_pieces time group all),
    ))
