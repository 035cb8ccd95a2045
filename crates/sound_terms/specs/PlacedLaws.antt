-- Laws of groups as events: the event of a group with whole ramps adds the same values as the group.
use Rattle.std.proofs.Common.{◌≡◌, ℕ, ◌+◌, ◌-◌, ◌<◌, ◌≤◌, Bool, true, false, List, [], ◌∷◌, refl, sym, ap, ◌∙◌, arith, All, IsTrue}
use Rattle.std.specs.Prelude.{ℤ, pos, ◌+ℤ◌, ◌&&◌, if◌then◌else◌, nat_lt, nat_le, map}
use Rattle.std.specs.List.{sum_by, list_all}
use Rattle.std.proofs.lemmas.Bool.{and_parts}
use Rattle.std.proofs.lemmas.Bool.Decides.{nat_tests}
use Rattle.std.proofs.lemmas.Int.{ints}
use Rattle.std.proofs.lemmas.List.Elements.{All-head, All-tail}
use Rattle.std.proofs.lemmas.List.Sums.{sum_by-cons}
use Rattle.facts.specs.Stretches.{sums_joined}
use Rattle.sound_terms.specs.declared.piece.Piece.{Piece}
use Rattle.sound_terms.specs.declared.piece.Shape.{Shape}
use Rattle.sound_terms.specs.declared.piece.Shape.TheVariants.{Flat, Rise, Fall}
use Rattle.sound_terms.specs.Mix.{Reading, fade_fraction, share_of}
use Rattle.sound_terms.specs.Groups.{IsGroup, are_whole, continues, fraction_of, is_whole, is_whole_shape, may_follow, part_of, rank_of, sum_of}
use Rattle.sound_terms.specs.GroupLaws.{GoesOn, goes_on, length_more}
use Rattle.sound_terms.specs.Entries.{falling_in, length_of_group, placed_by, placed_of, placed_part, rising_in}

pub ranks_rise : (p q : Piece) → IsTrue (may_follow p q) → rank_of p.shape < rank_of q.shape
ranks_rise p q follows = grind (arith, nat_tests)

-- a piece that may follow another starts where the other ends
pub follows_on : (p q : Piece) → IsTrue (may_follow p q) → GoesOn p q
follows_on p q follows = goes_on p q (and_parts (continues p q) (nat_lt (rank_of p.shape) (rank_of q.shape)) follows).0

-- number of samples of a group in a fade-in
abbrev rising : List Piece → ℕ
rising group = sum_by rising_in group

-- number of samples of a group in a fade-out
abbrev falling : List Piece → ℕ
falling group = sum_by falling_in group

rising_more : (p : Piece) (ps : List Piece) → rising (p ∷ ps) ≡ rising_in p + rising ps
rising_more p ps = sum_by-cons rising_in p ps

falling_more : (p : Piece) (ps : List Piece) → falling (p ∷ ps) ≡ falling_in p + falling ps
falling_more p ps = sum_by-cons falling_in p ps

no_rise_of : (p : Piece) (shape : Shape) → 1 ≤ rank_of shape → rising_in (record p { shape = shape }) ≡ 0
no_rise_of p Flat above = refl
no_rise_of p (Rise offset den) above = absurd (omega (arith, above))
no_rise_of p (Fall offset den) above = refl

-- a group that does not begin with a rise has no fade-in
no_rise : (p : Piece) (ps : List Piece) → IsGroup (p ∷ ps) → 1 ≤ rank_of p.shape → rising (p ∷ ps) ≡ 0
no_rise p [] is above = rising_more p [] ∙ omega (arith, no_rise_of p p.shape above)
no_rise p (q ∷ qs) is above =
    rising_more p (q ∷ qs)
    ∙ omega (arith, no_rise_of p p.shape above, no_rise q qs is.1 (omega (arith, ranks_rise p q is.0)))

fall_of : (q : Piece) (shape : Shape) → 2 ≤ rank_of shape → falling_in (record q { shape = shape }) ≡ q.length
fall_of q Flat above = absurd (omega (arith, above))
fall_of q (Rise offset den) above = absurd (omega (arith, above))
fall_of q (Fall offset den) above = refl

-- all pieces after a flat piece are fade-outs
all_fall : (p : Piece) (ps : List Piece) → IsGroup (p ∷ ps) → 1 ≤ rank_of p.shape → falling ps ≡ length_of_group ps
all_fall p [] is above = refl
all_fall p (q ∷ qs) is above =
    let later = ranks_rise p q is.0 in
    falling_more q qs ∙ omega (
      arith,
      fall_of q q.shape (omega (arith, above, later)),
      all_fall q qs is.1 (omega (arith, above, later)),
      length_more q qs,
    )

-- no piece follows a fade-out
no_more : (p : Piece) (ps : List Piece) → IsGroup (p ∷ ps) → 2 ≤ rank_of p.shape → ps ≡ []
no_more p [] is above = refl
no_more p (q ∷ qs) is above = absurd (omega (arith, above, ranks_rise p q is.0, last q.shape)) where
  last : (shape : Shape) → rank_of shape ≤ 2
  last Flat = omega arith
  last (Rise offset den) = omega arith
  last (Fall offset den) = omega arith

-- the pieces p and ps are the rest of an event from its sample `at` on
record Stands (rise fall whole at : ℕ) (p : Piece) (ps : List Piece) : Type 0 where
  rises : (rank_of p.shape ≡ 0 → (at ≡ 0) × (rise ≡ rising (p ∷ ps))) × (1 ≤ rank_of p.shape → rise ≤ at)
  falls : fall ≡ falling (p ∷ ps)
  ends : whole ≡ at + length_of_group (p ∷ ps)

pair : (a b c d : ℕ) → a ≡ c → b ≡ d → ◌≡◌ {A = ℕ × ℕ} (a, b) (c, d)
pair a b c d first second = cc

-- the gain of a piece equals the gain of its event
fits : (rise fall whole at j : ℕ) (p : Piece) (ps : List Piece) → IsGroup (p ∷ ps) → IsTrue (is_whole p)
    → Stands rise fall whole at p ps → j < p.length
    → fraction_of p.shape j ≡ fade_fraction rise fall whole (at + j)
fits rise fall whole at j p ps is ramp stands below = by_shape p.shape is ramp stands where
  by_shape : (shape : Shape) → IsGroup (record p { shape = shape } ∷ ps) → IsTrue (is_whole_shape shape p.length)
      → Stands rise fall whole at (record p { shape = shape }) ps
      → fraction_of shape j ≡ fade_fraction rise fall whole (at + j)
  by_shape Flat is ramp stands =
      let own : Piece = record p { shape = Flat } in
      let risen : rise ≤ at = stands.rises.1 (omega arith) in
      let behind : falling ps ≡ length_of_group ps = all_fall own ps is (omega arith) in
      let falls : fall ≡ 0 + falling ps = stands.falls ∙ falling_more own ps in
      let ends = stands.ends ∙ ap (λ (n : ℕ). at + n) (length_more own ps) in
      let past : nat_lt (at + j) rise ≡ false = grind (arith, nat_tests) in
      let before : nat_le (whole - fall) (at + j) ≡ false = grind (arith, nat_tests) in
      rw (past, before) refl
  by_shape (Rise offset den) is ramp stands =
      let own : Piece = record p { shape = Rise offset den } in
      let first = stands.rises.0 refl in
      let none : rising ps ≡ 0 = none_rises ps is in
      let risen : rise ≡ p.length + 0 = first.1 ∙ rising_more own ps ∙ ap (λ (n : ℕ). p.length + n) none in
      let begins : offset ≡ 0 = grind (arith, nat_tests) in
      let long : den ≡ p.length = grind (arith, nat_tests) in
      let inside : nat_lt (at + j) rise ≡ true = grind (arith, nat_tests) in
      rw inside (pair (offset + j) den (at + j) rise (omega (arith, first.0, begins)) (omega (arith, long, risen)))
    where
      none_rises : (ps : List Piece) → IsGroup (record p { shape = Rise offset den } ∷ ps) → rising ps ≡ 0
      none_rises [] is = refl
      none_rises (q ∷ qs) is =
          no_rise q qs is.1 (omega (arith, ranks_rise (record p { shape = Rise offset den }) q is.0))
  by_shape (Fall offset den) is ramp stands =
      let own : Piece = record p { shape = Fall offset den } in
      let risen : rise ≤ at = stands.rises.1 (omega arith) in
      let last : ps ≡ [] = no_more own ps is (omega arith) in
      let fallen : fall ≡ p.length + 0 =
      stands.falls ∙ falling_more own ps ∙ ap (λ (rest : List Piece). p.length + falling rest) last in
      let ends : whole ≡ at + (p.length + 0) = stands.ends ∙ ap (λ (n : ℕ). at + n) (length_more own ps)
      ∙ ap (λ (rest : List Piece). at + (p.length + length_of_group rest)) last in
      let begins : offset ≡ 0 = grind (arith, nat_tests) in
      let long : den ≡ p.length = grind (arith, nat_tests) in
      let past : nat_lt (at + j) rise ≡ false = grind (arith, nat_tests) in
      let within : nat_le (whole - fall) (at + j) ≡ true = grind (arith, nat_tests) in
      rw (past, within) (pair (den - (offset + j)) den (whole - (at + j)) fall (omega arith) (omega arith))

-- the rest of the event after its first piece
stands_next : (rise fall whole at : ℕ) (p q : Piece) (qs : List Piece) → IsGroup (p ∷ q ∷ qs)
    → Stands rise fall whole at p (q ∷ qs)
    → Stands rise fall whole (at + p.length) q qs
stands_next rise fall whole at p q qs is stands = by_shape p.shape is stands where
  by_shape : (shape : Shape) → IsGroup (record p { shape = shape } ∷ q ∷ qs)
      → Stands rise fall whole at (record p { shape = shape }) (q ∷ qs)
      → Stands rise fall whole (at + p.length) q qs
  by_shape Flat is stands =
      let own : Piece = record p { shape = Flat } in
      let later = ranks_rise own q is.0 in
      let ends = stands.ends ∙ ap (λ (n : ℕ). at + n) (length_more own (q ∷ qs)) in
      record {
        rises = (
          (λ (zero_rank : _). absurd (omega (arith, later, zero_rank))),
          (λ above. omega (arith, stands.rises.1 (omega arith))),
        );
        falls = stands.falls ∙ falling_more own (q ∷ qs) ∙ omega arith;
        ends = omega (arith, ends);
      }
  by_shape (Rise offset den) is stands =
      let own : Piece = record p { shape = Rise offset den } in
      let later = ranks_rise own q is.0 in
      let ends = stands.ends ∙ ap (λ (n : ℕ). at + n) (length_more own (q ∷ qs)) in
      let risen =
      (stands.rises.0 refl).1 ∙ rising_more own (q ∷ qs)
      ∙ ap (λ (n : ℕ). p.length + n) (no_rise q qs is.1 (omega (arith, later))) in
      record {
        rises = ((λ (zero_rank : _). absurd (omega (arith, later, zero_rank))), (λ above. omega (arith, risen)));
        falls = stands.falls ∙ falling_more own (q ∷ qs) ∙ omega arith;
        ends = omega (arith, ends);
      }
  by_shape (Fall offset den) is stands =
      let none : (q ∷ qs) ≡ [] = no_more (record p { shape = Fall offset den }) (q ∷ qs) is (omega arith) in cc

pub same_under : (a b : Bool) (s n t : ℕ) (x w : ℤ) → (s ≤ t → t < s + n → x ≡ w)
    → (if a && (b && (nat_le s t && nat_lt t (s + n))) then x else pos 0)
    ≡ (if a && (b && (nat_le s t && nat_lt t (s + n))) then w else pos 0)
same_under false b s n t x w same = refl
same_under true false s n t x w same = refl
same_under true true s n t x w same = by_tests (nat_le s t) (nat_lt t (s + n)) refl refl where
  by_tests : (c d : Bool) → nat_le s t ≡ c → nat_lt t (s + n) ≡ d
      → (if nat_le s t && nat_lt t (s + n) then x else pos 0) ≡ (if nat_le s t && nat_lt t (s + n) then w else pos 0)
  by_tests true true e f = rw (e, f) (same (grind (arith, nat_tests)) (grind (arith, nat_tests)))
  by_tests true false e f = rw (e, f) refl
  by_tests false d e f = rw e refl

-- value that `long` samples of an event, from its sample `at` on, add
module _ (r : Reading) (rise fall whole channel time : ℕ) where
  abbrev value : (file first dest width start frame long at : ℕ) → ℤ
  value file first dest width start frame long at =
      if nat_le dest channel && (nat_lt channel (dest + width) && (nat_le start time && nat_lt time (start + long)))
      then share_of (r file (first + (channel - dest)) (frame + (time - start)))
      (fade_fraction rise fall whole (at + (time - start)))
      else pos 0

  own_value : (at : ℕ) (p : Piece) (ps : List Piece) → IsGroup (p ∷ ps) → IsTrue (is_whole p)
      → Stands rise fall whole at p ps
      → part_of r p channel time ≡ value p.file p.first p.dest p.width p.start p.frame p.length at
  own_value at p ps is ramp stands =
      same_under (nat_le p.dest channel) (nat_lt channel (p.dest + p.width)) p.start p.length time _ _
      (λ from to. ap (share_of (r p.file (p.first + (channel - p.dest)) (p.frame + (time - p.start))))
      (fits rise fall whole at (time - p.start) p ps is ramp stands (omega arith)))

  next_value : (p q : Piece) (long at : ℕ) → GoesOn p q
      → value q.file q.first q.dest q.width q.start q.frame long at
      ≡ value p.file p.first p.dest p.width (p.start + p.length) (p.frame + p.length) long at
  next_value p q long at next = rw (next.file, next.first, next.dest, next.width, next.start, next.frame) refl

  joined_value : (p : Piece) (more at : ℕ) → value p.file p.first p.dest p.width p.start p.frame p.length at
      +ℤ value p.file p.first p.dest p.width (p.start + p.length) (p.frame + p.length) more (at + p.length)
      ≡ value p.file p.first p.dest p.width p.start p.frame (p.length + more) at
  joined_value p more at =
      sums_joined p.start p.length more time _ _ _ (λ from to. refl)
      (λ from to.
      let frames : p.frame + p.length + (time - (p.start + p.length)) ≡ p.frame + (time - p.start) = omega arith in
      let samples : at + p.length + (time - (p.start + p.length)) ≡ at + (time - p.start) = omega arith in
      rw (frames, samples) refl)
      (nat_le p.dest channel) (nat_lt channel (p.dest + p.width))

  tail_sum : (at : ℕ) (p : Piece) (ps : List Piece) → IsGroup (p ∷ ps) → IsTrue (list_all is_whole (p ∷ ps))
      → Stands rise fall whole at p ps
      → sum_of r (p ∷ ps) channel time
      ≡ value p.file p.first p.dest p.width p.start p.frame (length_of_group (p ∷ ps)) at
  tail_sum at p [] is ramps stands =
      let own = own_value at p [] is (and_parts (is_whole p) true ramps).0 stands in
      let long : length_of_group (p ∷ []) ≡ p.length = length_more p [] ∙ omega arith in
      rw long (omega (arith, ints, own))
  tail_sum at p (q ∷ qs) is ramps stands =
      let split = and_parts (is_whole p) (list_all is_whole (q ∷ qs)) ramps in
      let own = own_value at p (q ∷ qs) is split.0 stands in
      let rest = tail_sum (at + p.length) q qs is.1 split.1 (stands_next rise fall whole at p q qs is stands)
      ∙ next_value p q (length_of_group (q ∷ qs)) (at + p.length) (follows_on p q is.0) in
      let whole_sum = joined_value p (length_of_group (q ∷ qs)) at in
      rw (length_more p (q ∷ qs), own, rest) whole_sum

-- a group adds the same value as its event
pub group_sum : (r : Reading) (p : Piece) (ps : List Piece) (channel time : ℕ) → IsGroup (p ∷ ps)
    → IsTrue (list_all is_whole (p ∷ ps))
    → placed_part r (placed_by p (p ∷ ps)) channel time ≡ sum_of r (p ∷ ps) channel time
group_sum r p ps channel time is ramps =
    let at_first : Stands (rising (p ∷ ps)) (falling (p ∷ ps)) (length_of_group (p ∷ ps)) 0 p ps = record {
      rises = ((λ first. (refl, refl)), (λ above. omega (arith, no_rise p ps is above)));
      falls = refl;
      ends = omega arith;
    } in
    let sample : 0 + (time - p.start) ≡ time - p.start = omega arith in
    sym (tail_sum r (rising (p ∷ ps)) (falling (p ∷ ps)) (length_of_group (p ∷ ps))
    channel time 0 p ps is ramps at_first
    ∙ (rw sample refl))

-- each group adds the same value as its event
pub events_add : (r : Reading) (groups : List (List Piece)) (channel time : ℕ) → All IsGroup groups
    → IsTrue (are_whole groups)
    → map (λ e. placed_part r e channel time) (placed_of groups) ≡ map (λ group. sum_of r group channel time) groups
events_add r [] channel time are_groups whole = refl
events_add r ([] ∷ groups) channel time are_groups whole = absurd (All-head IsGroup [] groups are_groups)
events_add r ((p ∷ ps) ∷ groups) channel time are_groups whole =
    let split = and_parts (list_all is_whole (p ∷ ps)) (are_whole groups) whole in
    let own = group_sum r p ps channel time (All-head IsGroup (p ∷ ps) groups are_groups) split.0 in
    let rest = events_add r groups channel time (All-tail IsGroup (p ∷ ps) groups are_groups) split.1 in
    rw (own, rest) refl
