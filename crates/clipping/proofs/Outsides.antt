-- Counting sums stored at a depth.
use Rattle.std.specs.Prelude.{◌≡◌, ◌≢◌, ◌⊎◌, ◌↔◌, ℕ, suc, ◌+◌, ◌-◌, ◌*◌, ◌%◌, ◌==◌, ◌^◌, ◌<◌, ◌≤◌, max, Bool, true, false, IsTrue, ℤ, pos, List, [], ◌∷◌, ◌++◌, length, take, drop, slice_index_or, unsigned_abs, Option, None, Some, if◌then◌else◌, refl}
use Rattle.std.specs.Int.{IsBitSet, w32}
use Rattle.std.specs.Int.Bits.{bit_or}
use Rattle.std.specs.List.{All, filter, position}
use Rattle.std.specs.Option.{option_map, option_or}
use Rattle.std.proofs.Common.{inl, inr, sym, ap, ◌∙◌, subst, arith, get_or}
use Rattle.std.proofs.Math.Nat.{mul-le-mul_right}
use Rattle.std.proofs.lemmas.Bool.{cases_lt, true≢false}
use Rattle.std.proofs.lemmas.Bool.Decides.{Decides-eqb, not_from_Decides}
use Rattle.std.proofs.lemmas.Int.{to_z-of_z, unsigned_abs-mul}
use Rattle.std.proofs.lemmas.List.Elements.{All-cons, All-nil}
use Rattle.std.proofs.lemmas.List.{get_or-map, length-map, length-take-le, map-append, take-append-drop, take_more}
use mir.Val.{SFits, bool_byte, of_z, to_z}
use Rattle.sound_terms.specs.declared.Depth.{Depth}
use Rattle.sound_terms.specs.declared.Depth.TheVariants.{Sixteen, TwentyFour, ThirtyTwo}
use Rattle.sound_terms.specs.Depth.{bits_of}
use Rattle.sound_terms.specs.Mix.{full_scale}
use Rattle.clipping.specs.Clips.{IsClippedOn, is_clipped, loudest}
use Rattle.clipping.specs.Kept.{AreOutside, at_full_scale}
use Rattle.clipping.proofs.Marked.{new_bit, old_bit}
use Rattle.clipping.proofs.Counted.{count-le, count_more, count_same, first_noted, first_same, loud_more, loud_same, position-append}

module _ (depth : ℕ) where
  -- the test of a sum as a 32-bit word gives the result for the sum
  pub test_of : (sum : ℤ) (found known : Bool) → SFits w32 sum
      → found ≡ is_clipped depth (full_scale depth (to_z w32 (of_z w32 sum))) → found ≡ known
      → is_clipped depth (full_scale depth sum) ≡ known
  test_of sum found known fits is has =
      ap (λ z. is_clipped depth (full_scale depth z)) (sym (to_z-of_z w32 sum fits)) ∙ sym is ∙ has

  -- one more sum at the end, at full scale
  one_more : (sums : List ℤ) (sum : ℤ)
      → at_full_scale depth (sums ++ sum ∷ []) ≡ at_full_scale depth sums ++ full_scale depth sum ∷ []
  one_more sums sum = map-append (full_scale depth) sums (sum ∷ [])

  -- the first n sums and the next one, at full scale
  pub next_taken : (sums : List ℤ) (n : ℕ) → n < length sums → at_full_scale depth (take (n + 1) sums)
      ≡ at_full_scale depth (take n sums) ++ full_scale depth (get_or sums n (pos 0)) ∷ []
  next_taken sums n inside =
      ap (at_full_scale depth) (take_more sums n (pos 0) inside) ∙ one_more (take n sums) (get_or sums n (pos 0))

  -- adding a sum inside the range of the depth
  pub inside_more : (sums : List ℤ) (sum : ℤ) (count farthest : ℕ) → is_clipped depth (full_scale depth sum) ≡ false
      → AreOutside depth sums count farthest → AreOutside depth (sums ++ sum ∷ []) count farthest
  inside_more sums sum count farthest fails before =
      record {
        each =
            before.each
            ∙ sym (ap (λ (l : List ℤ). length (filter (is_clipped depth) l)) (one_more sums sum)
            ∙ count_same (is_clipped depth) (at_full_scale depth sums) (full_scale depth sum) fails);
        most =
            before.most
            ∙ sym (ap (λ (l : List ℤ). loudest depth l) (one_more sums sum)
            ∙ loud_same depth (at_full_scale depth sums) (full_scale depth sum) fails);
      }

  -- no more sums are outside the range than exist
  pub few_outside : (sums : List ℤ) (count farthest : ℕ) → AreOutside depth sums count farthest → count ≤ length sums
  few_outside sums count farthest are =
      omega (
        arith,
        are.each,
        count-le (is_clipped depth) (at_full_scale depth sums),
        length-map sums (full_scale depth),
      )

  -- the maximum of two numbers multiplied by n
  max_times : (a b n : ℕ) → max a b * n ≡ max (a * n) (b * n)
  max_times a b n = by_order (cases_lt a b) where
    by_order : (a < b) ⊎ (b ≤ a) → max a b * n ≡ max (a * n) (b * n)
    by_order (inl less) =
        let greater : max a b ≡ b = omega (arith, less) in
        let row : a * n ≤ b * n = mul-le-mul_right n (omega (arith, less)) in
        ap (λ m. m * n) greater ∙ omega (arith, row)
    by_order (inr more) =
        let greater : max a b ≡ a = omega (arith, more) in
        let row : b * n ≤ a * n = mul-le-mul_right n more in
        ap (λ m. m * n) greater ∙ omega (arith, row)

  -- adding a sum outside the range of the depth
  pub outside_more : (sums : List ℤ) (sum : ℤ) (count farthest : ℕ) → is_clipped depth (full_scale depth sum) ≡ true
      → AreOutside depth sums count farthest
      → AreOutside depth (sums ++ sum ∷ []) (count + 1) (max farthest (unsigned_abs sum))
  outside_more sums sum count farthest passes before =
      record {
        each =
            ap (λ n. n + 1) before.each
            ∙ sym (ap (λ (l : List ℤ). length (filter (is_clipped depth) l)) (one_more sums sum)
            ∙ count_more (is_clipped depth) (at_full_scale depth sums) (full_scale depth sum) passes);
        most =
            max_times farthest (unsigned_abs sum) (2 ^ (48 - depth))
            ∙ ap (λ m. max m (unsigned_abs sum * 2 ^ (48 - depth))) before.most
            ∙ ap (max (loudest depth (at_full_scale depth sums))) (sym (unsigned_abs-mul sum (pos (2 ^ (48 - depth)))))
            ∙ sym (ap (λ (l : List ℤ). loudest depth l) (one_more sums sum)
            ∙ loud_more depth (at_full_scale depth sums) (full_scale depth sum) passes);
      }

  -- the next sum is the first outside the range if the first n are inside
  pub first_after : (sums : List ℤ) (n : ℕ) → n < length sums
      → position (is_clipped depth) (at_full_scale depth (take n sums)) ≡ None
      → is_clipped depth (full_scale depth (get_or sums n (pos 0))) ≡ true
      → Some n ≡ position (is_clipped depth) (at_full_scale depth sums)
  first_after sums n inside none passes =
      let p = is_clipped depth in
      let taken = at_full_scale depth (take n sums) in
      let long : length taken ≡ n =
      length-map (take n sums) (full_scale depth) ∙ length-take-le n sums (omega (arith, inside)) in
      let whole : at_full_scale depth sums
      ≡ (taken ++ full_scale depth (get_or sums n (pos 0)) ∷ []) ++ at_full_scale depth (drop (n + 1) sums) =
      ap (at_full_scale depth) (sym (take-append-drop (n + 1) sums))
      ∙ map-append (full_scale depth) (take (n + 1) sums) (drop (n + 1) sums)
      ∙ ap (λ (l : List ℤ). l ++ at_full_scale depth (drop (n + 1) sums)) (next_taken sums n inside) in
      let here : Some n ≡ position p (taken ++ full_scale depth (get_or sums n (pos 0)) ∷ []) =
      first_noted p taken (full_scale depth (get_or sums n (pos 0))) n None long passes (sym none) in
      sym (ap (position p) whole
      ∙ position-append p (taken ++ full_scale depth (get_or sums n (pos 0)) ∷ []) (at_full_scale depth (drop (n + 1) sums))
      ∙ ap (λ (o : Option ℕ). option_or o (option_map (λ i. length (taken
      ++ full_scale depth (get_or sums n (pos 0)) ∷ []) + i) (position p (at_full_scale depth (drop (n + 1) sums)))))
      (sym here))

  -- the first n + 1 sums are inside the range if the first n and the next one are
  pub none_after : (sums : List ℤ) (n : ℕ) → n < length sums
      → position (is_clipped depth) (at_full_scale depth (take n sums)) ≡ None
      → is_clipped depth (full_scale depth (get_or sums n (pos 0))) ≡ false
      → position (is_clipped depth) (at_full_scale depth (take (n + 1) sums)) ≡ None
  none_after sums n inside none fails =
      ap (position (is_clipped depth)) (next_taken sums n inside)
      ∙ first_same (is_clipped depth) (at_full_scale depth (take n sums)) (full_scale depth (get_or sums n (pos 0))) fails
      ∙ none

  -- a stored sum at full scale
  kept_at : (sums : List ℤ) (k : ℕ) → k < length sums
      → slice_index_or (at_full_scale depth sums) k (pos 0) ≡ full_scale depth (get_or sums k (pos 0))
  kept_at sums k below = get_or-map (full_scale depth) sums k (pos 0) (pos 0) below

  -- the index of a sample on a channel is within the interleaved sums
  frame_inside : (frames channels frame channel : ℕ) → frame < frames → channel < channels
      → frame * channels + channel < frames * channels
  frame_inside frames channels frame channel early small =
      let row : suc frame * channels ≤ frames * channels = mul-le-mul_right channels early in
      omega (arith, row, small)

  -- a sum outside the range on this channel
  pub found_on : (sums : List ℤ) (frames channels frame channel : ℕ) → length sums ≡ frames * channels → frame < frames
      → channel < channels
      → is_clipped depth (full_scale depth (get_or sums (frame * channels + channel) (pos 0))) ≡ true
      → IsClippedOn depth channels (at_full_scale depth sums) channel
  found_on sums frames channels frame channel long early small passes =
      let within : frame * channels + channel < length sums =
      omega (arith, long, frame_inside frames channels frame channel early small) in
      record {
        is_channel = small;
        frame = frame;
        within = omega (arith, within, length-map sums (full_scale depth));
        clipped = subst IsTrue (sym (ap (is_clipped depth) (kept_at sums _ within) ∙ passes)) refl;
      }

  -- no sum on this channel is outside the range
  pub none_found_on : (sums : List ℤ) (frames channels channel : ℕ) → length sums ≡ frames * channels
      → ((k : ℕ) → k < frames
      → is_clipped depth (full_scale depth (get_or sums (k * channels + channel) (pos 0))) ≡ false)
      → (IsClippedOn depth channels (at_full_scale depth sums) channel) → (P : Type 0) → P
  none_found_on sums frames channels channel long none is P = by_frame (cases_lt is.frame frames) where
    within : is.frame * channels + channel < length sums
    within = omega (arith, is.within, length-map sums (full_scale depth))

    by_frame : (is.frame < frames) ⊎ (frames ≤ is.frame) → P
    by_frame (inl early) =
        let fails : is_clipped depth (slice_index_or (at_full_scale depth sums) (is.frame * channels + channel) (pos 0)) ≡ false =
        ap (is_clipped depth) (kept_at sums _ within) ∙ none is.frame early in
        let passes : is_clipped depth (slice_index_or (at_full_scale depth sums) (is.frame * channels + channel) (pos 0)) ≡ true = is.clipped in
        absurd (true≢false (sym passes ∙ fails))
    by_frame (inr late) =
        let row : frames * channels ≤ is.frame * channels = mul-le-mul_right channels late in
        absurd (omega (arith, row, within, long))

pub small_byte : (b : Bool) → bool_byte b ≤ 1
small_byte true = omega arith
small_byte false = omega arith

-- adding one more sum, inside or outside the range
pub outside_last : (depth : ℕ) (sums : List ℤ) (sum : ℤ) (count farthest distance : ℕ) (is_outside : Bool)
    → is_outside ≡ is_clipped depth (full_scale depth sum)
    → distance ≡ (if is_outside then unsigned_abs sum else 0) → AreOutside depth sums count farthest
    → AreOutside depth (sums ++ sum ∷ []) (count + bool_byte is_outside) (max farthest distance)
outside_last depth sums sum count farthest distance true is size before =
    subst (λ n. AreOutside depth (sums ++ sum ∷ []) (count + 1) (max farthest n)) (sym size)
    (outside_more depth sums sum count farthest (sym is) before)
outside_last depth sums sum count farthest distance false is size before =
    let same_count : count ≡ count + 0 = omega arith in
    let same_size : farthest ≡ max farthest distance = omega (arith, size) in
    subst (λ n. AreOutside depth (sums ++ sum ∷ []) n (max farthest distance)) same_count
    (subst (λ n. AreOutside depth (sums ++ sum ∷ []) count n) same_size
    (inside_more depth sums sum count farthest (sym is) before))

-- a count of zero means that no sum is outside the range
module _ {X : Type 0} (p : X → Bool) where
  first_fails : (b : Bool) (x : X) (l : List X) → length (if b then x ∷ l else l) ≡ 0 → b ≡ false
  first_fails false x l none = refl
  first_fails true x l none = absurd (omega (arith, none))

  rest_fails : (b : Bool) (x : X) (l : List X) → length (if b then x ∷ l else l) ≡ 0 → length l ≡ 0
  rest_fails false x l none = none
  rest_fails true x l none = absurd (omega (arith, none))

  pub none_passes : (xs : List X) → length (filter p xs) ≡ 0 → All (λ x. p x ≡ false) xs
  none_passes [] none = All-nil (λ x. p x ≡ false)
  none_passes (x ∷ xs) none =
      All-cons (λ x. p x ≡ false) x xs (first_fails (p x) x (filter p xs) none)
      (none_passes xs (rest_fails (p x) x (filter p xs) none))

-- a distance at full scale fits 64 bits
pub far_fits : (depth : Depth) (distance : ℕ) → distance < 2 ^ 32 → distance * 2 ^ (48 - bits_of depth) < 2 ^ 64
far_fits Sixteen distance small = omega (arith, small)
far_fits TwentyFour distance small = omega (arith, small)
far_fits ThirtyTwo distance small = omega (arith, small)

-- a property of the numbers below n and of n holds below n + 1
pub one_further : (P : ℕ → Type 0) (n : ℕ) → ((k : ℕ) → k < n → P k) → P n → (k : ℕ) → k < n + 1 → P k
one_further P n before here k below = by_place (cases_lt k n) where
  by_place : (k < n) ⊎ (n ≤ k) → P k
  by_place (inl early) = before k early
  by_place (inr late) = subst P (omega (arith, below, late)) here

other_below : (c n : ℕ) → c ≢ n → c < n + 1 → c < n
other_below c n apart below = by_order (cases_lt c n) where
  by_order : (c < n) ⊎ (n ≤ c) → c < n
  by_order (inl early) = early
  by_order (inr late) = absurd (apart (omega (arith, below, late)))

-- the bits of the channels checked so far are set exactly for those with property P
module _ (P : ℕ → Type 0) (bits n : ℕ) (before : (c : ℕ) → IsBitSet bits c ↔ ((c < n) × P c)) where
  pub channel_marked : n < 64 → P n → (c : ℕ) → IsBitSet (bit_or bits (1 * 2 ^ n % 2 ^ 64)) c ↔ ((c < n + 1) × P c)
  channel_marked few holds c = by_place (c == n) refl where
    by_place : (same : Bool) → (c == n) ≡ same → IsBitSet (bit_or bits (1 * 2 ^ n % 2 ^ 64)) c ↔ ((c < n + 1) × P c)
    by_place true is =
        let same : n ≡ c = sym ((Decides-eqb c n).0 is) in
        subst (λ k. IsBitSet (bit_or bits (1 * 2 ^ n % 2 ^ 64)) k ↔ ((k < n + 1) × P k)) same
        (λ set. (omega arith, holds), λ both. new_bit bits n few)
    by_place false is =
        let apart : c ≢ n = not_from_Decides (c == n) (Decides-eqb c n) is in
        let bit = old_bit bits n c few apart in (
          λ set. (omega (arith, ((before c).0 (bit.0 set)).0), ((before c).0 (bit.0 set)).1),
          λ both. bit.1 ((before c).1 (other_below c n apart both.0, both.1)),
        )

  pub channel_passed : (P n → ⊥) → (c : ℕ) → IsBitSet bits c ↔ ((c < n + 1) × P c)
  channel_passed fails c = (
    λ set. (omega (arith, ((before c).0 set).0), ((before c).0 set).1),
    λ both. (before c).1 (other_below c n (λ same. fails (subst P same both.1)) both.0, both.1),
  )
