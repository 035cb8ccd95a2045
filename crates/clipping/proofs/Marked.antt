-- Channels with clipped sums.
use Rattle.std.specs.Prelude.{◌≡◌, ◌≢◌, ◌⊎◌, ◌↔◌, ℕ, suc, ◌+◌, ◌-◌, ◌*◌, ◌%◌, ◌^◌, ◌<◌, ◌≤◌, max, ◌==◌, Bool, true, false, IsTrue, ℤ, pos, List, [], ◌∷◌, ◌++◌, length, slice_index_or, refl}
use Rattle.std.specs.Int.{IsBitSet, bit_at, w64}
use Rattle.std.specs.Int.Bits.{bit_or}
use Rattle.std.specs.List.{All}
use Rattle.std.proofs.Common.{inl, inr, sym, ap, ◌∙◌, subst, arith, length-append}
use Rattle.std.proofs.Math.Nat.{mul-le-mul_right}
use Rattle.std.proofs.lemmas.Bool.{cases_lt}
use Rattle.std.proofs.lemmas.Bool.Decides.{Decides-eqb, not_from_Decides}
use Rattle.std.proofs.lemmas.Nat.{bit_set_by_shift, mod-mul-add}
use Rattle.std.proofs.lemmas.Nat.Bits.{bit_at-lt, bit_at-zero, bit_at_or, bit_at_set_other, bit_at_set_same, shr_and_one}
use Rattle.std.proofs.Math.Seq.{get_or-append_right}
use Rattle.std.proofs.lemmas.List.{get_or_append_left}
use Rattle.clipping.specs.Clips.{IsClippedOn, is_clipped}

set_when : (n k : ℕ) → bit_at n k ≡ 1 → IsBitSet n k
set_when n k is = (bit_set_by_shift n k).0 (shr_and_one n k ∙ is)

when_set : (n k : ℕ) → IsBitSet n k → bit_at n k ≡ 1
when_set n k is = sym (shr_and_one n k) ∙ (bit_set_by_shift n k).1 is

-- a bit of a bitwise or is set in one of the two numbers
pub or_set : (a b k : ℕ) → IsBitSet (bit_or a b) k → IsBitSet a k ⊎ IsBitSet b k
or_set a b k set = by_bit (cases_lt (bit_at a k) 1) where
  both : max (bit_at a k) (bit_at b k) ≡ 1
  both = sym (bit_at_or a b k) ∙ when_set (bit_or a b) k set

  by_bit : (bit_at a k < 1) ⊎ (1 ≤ bit_at a k) → IsBitSet a k ⊎ IsBitSet b k
  by_bit (inl low) = inr (set_when b k (omega (arith, both, low)))
  by_bit (inr high) = inl (set_when a k (omega (arith, high, bit_at-lt a k)))

pub set_or_left : (a b k : ℕ) → IsBitSet a k → IsBitSet (bit_or a b) k
set_or_left a b k set =
    set_when (bit_or a b) k (bit_at_or a b k ∙ omega (arith, when_set a k set, bit_at-lt b k))

pub set_or_right : (a b k : ℕ) → IsBitSet b k → IsBitSet (bit_or a b) k
set_or_right a b k set =
    set_when (bit_or a b) k (bit_at_or a b k ∙ omega (arith, when_set b k set, bit_at-lt a k))

pub none_set : (k : ℕ) → IsBitSet 0 k → (P : Type 0) → P
none_set k set P = absurd (omega (arith, when_set 0 k set, bit_at-zero k))

-- setting one more bit
pub new_bit : (n k : ℕ) → k < 64 → IsBitSet (bit_or n (1 * 2 ^ k % 2 ^ 64)) k
new_bit n k small = set_when _ k (bit_at_set_same w64 n k small)

pub old_bit : (n k i : ℕ) → k < 64 → i ≢ k → IsBitSet (bit_or n (1 * 2 ^ k % 2 ^ 64)) i ↔ IsBitSet n i
old_bit n k i small other = (
  λ set. set_when n i (sym (bit_at_set_other w64 n k small i other) ∙ when_set _ i set),
  λ set. set_when _ i (bit_at_set_other w64 n k small i other ∙ when_set n i set),
)

module _ (depth channels : ℕ) where
  -- a clipped sum of the first list is one of the joined lists
  pub clipped_left : (xs ys : List ℤ) (channel : ℕ) → IsClippedOn depth channels xs channel
      → IsClippedOn depth channels (xs ++ ys) channel
  clipped_left xs ys channel is =
      record {
        is_channel = is.is_channel;
        frame = is.frame;
        within = omega (arith, is.within, length-append xs ys);
        clipped =
            subst (λ z. IsTrue (is_clipped depth z))
            (sym (get_or_append_left xs ys (pos 0) (is.frame * channels + channel) is.within)) is.clipped;
      }

  -- a clipped sum of the joined lists before the end of the first is one of the first
  clipped_front : (xs ys : List ℤ) (channel : ℕ) (is : IsClippedOn depth channels (xs ++ ys) channel)
      → is.frame * channels + channel < length xs → IsClippedOn depth channels xs channel
  clipped_front xs ys channel is early =
      record {
        is_channel = is.is_channel;
        frame = is.frame;
        within = early;
        clipped =
            subst (λ z. IsTrue (is_clipped depth z))
            (get_or_append_left xs ys (pos 0) (is.frame * channels + channel) early) is.clipped;
      }

  -- a clipped sum of the second list is one of the joined lists
  pub clipped_right : (xs ys : List ℤ) (frames channel : ℕ) → length xs ≡ frames * channels
      → IsClippedOn depth channels ys channel → IsClippedOn depth channels (xs ++ ys) channel
  clipped_right xs ys frames channel long is =
      let after : (frames + is.frame) * channels + channel ≡ length xs + (is.frame * channels + channel) = omega arith in
      let rest : (frames + is.frame) * channels + channel - length xs ≡ is.frame * channels + channel = omega arith in
      record {
        is_channel = is.is_channel;
        frame = frames + is.frame;
        within = omega (arith, is.within, length-append xs ys, after);
        clipped =
            subst (λ z. IsTrue (is_clipped depth z))
            (sym (get_or-append_right xs ys ((frames + is.frame) * channels + channel) (pos 0) (omega (arith, after))
            ∙ ap (λ k. slice_index_or ys k (pos 0)) rest)) is.clipped;
      }

  -- a clipped sum of the joined lists is one of either list
  pub clipped_either : (xs ys : List ℤ) (frames channel : ℕ) → length xs ≡ frames * channels
      → IsClippedOn depth channels (xs ++ ys) channel
      → IsClippedOn depth channels xs channel ⊎ IsClippedOn depth channels ys channel
  clipped_either xs ys frames channel long is = by_index (cases_lt (is.frame * channels + channel) (length xs))
    where
      by_frame : (is.frame < frames) ⊎ (frames ≤ is.frame) → length xs ≤ is.frame * channels + channel → frames ≤ is.frame
      by_frame (inr late) behind = late
      by_frame (inl early) behind =
          let row : suc is.frame * channels ≤ frames * channels = mul-le-mul_right channels early in
          absurd (omega (arith, row, behind, long, is.is_channel))

      by_index : (is.frame * channels + channel < length xs) ⊎ (length xs ≤ is.frame * channels + channel)
          → IsClippedOn depth channels xs channel ⊎ IsClippedOn depth channels ys channel
      by_index (inl early) = inl (clipped_front xs ys channel is early)
      by_index (inr late) =
          let after : frames ≤ is.frame = by_frame (cases_lt is.frame frames) late in
          let split : is.frame ≡ frames + (is.frame - frames) = omega (arith, after) in
          let row : is.frame * channels ≡ (frames + (is.frame - frames)) * channels = ap (λ n. n * channels) split in
          let rest : is.frame * channels + channel - length xs ≡ (is.frame - frames) * channels + channel =
          omega (arith, row, long) in
          inr (record {
            is_channel = is.is_channel;
            frame = is.frame - frames;
            within = omega (arith, is.within, length-append xs ys, rest, late);
            clipped =
                subst (λ z. IsTrue (is_clipped depth z))
                (get_or-append_right xs ys (is.frame * channels + channel) (pos 0) late
                ∙ ap (λ k. slice_index_or ys k (pos 0)) rest) is.clipped;
          })

  -- a clipped sum after adding one is the added sum, on its channel, or an earlier one
  pub clipped_last : (xs : List ℤ) (sum : ℤ) (frame channel other : ℕ) → length xs ≡ frame * channels + channel
      → channel < channels → IsClippedOn depth channels (xs ++ sum ∷ []) other
      → IsClippedOn depth channels xs other ⊎ ((other ≡ channel) × IsTrue (is_clipped depth sum))
  clipped_last xs sum frame channel other long small is =
      by_index (cases_lt (is.frame * channels + other) (length xs)) where
        by_index : (is.frame * channels + other < length xs) ⊎ (length xs ≤ is.frame * channels + other)
            → IsClippedOn depth channels xs other ⊎ ((other ≡ channel) × IsTrue (is_clipped depth sum))
        by_index (inl early) = inl (clipped_front xs (sum ∷ []) other is early)
        by_index (inr late) =
            let last : is.frame * channels + other ≡ length xs = omega (arith, is.within, length-append xs (sum ∷ []), late) in
            let same : other ≡ channel =
            sym (mod-mul-add is.frame channels other is.is_channel) ∙ ap (λ k. k % channels) (last ∙ long)
            ∙ mod-mul-add frame channels channel small in
            let rest : is.frame * channels + other - length xs ≡ 0 = omega (arith, last) in
            inr (
              same,
              subst (λ z. IsTrue (is_clipped depth z))
                  (get_or-append_right xs (sum ∷ []) (is.frame * channels + other) (pos 0) late
                  ∙ ap (λ k. slice_index_or (sum ∷ []) k (pos 0)) rest) is.clipped,
            )

  pub last_clipped : (xs : List ℤ) (sum : ℤ) (frame channel : ℕ) → length xs ≡ frame * channels + channel
      → channel < channels → IsTrue (is_clipped depth sum) → IsClippedOn depth channels (xs ++ sum ∷ []) channel
  last_clipped xs sum frame channel long small clipped =
      let rest : frame * channels + channel - length xs ≡ 0 = omega (arith, long) in
      record {
        is_channel = small;
        frame = frame;
        within = omega (arith, length-append xs (sum ∷ []), long);
        clipped =
            subst (λ z. IsTrue (is_clipped depth z))
            (sym (get_or-append_right xs (sum ∷ []) (frame * channels + channel) (pos 0) (omega (arith, long))
            ∙ ap (λ k. slice_index_or (sum ∷ []) k (pos 0)) rest)) clipped;
      }

  -- no channel has a clipped sum if no sum is clipped
  pub none_on : (sums : List ℤ) (channel : ℕ) → All (λ sum. is_clipped depth sum ≡ false) sums
      → IsClippedOn depth channels sums channel → (P : Type 0) → P
  none_on sums channel none is P =
      let here : is_clipped depth (slice_index_or sums (is.frame * channels + channel) (pos 0)) ≡ false =
      none (is.frame * channels + channel) (pos 0) is.within in
      let there : is_clipped depth (slice_index_or sums (is.frame * channels + channel) (pos 0)) ≡ true = is.clipped in
      cc

  -- adding a sum that is not clipped
  pub none_more : (xs : List ℤ) (sum : ℤ) (frame channel other : ℕ) → length xs ≡ frame * channels + channel
      → channel < channels → is_clipped depth sum ≡ false
      → IsClippedOn depth channels (xs ++ sum ∷ []) other → IsClippedOn depth channels xs other
  none_more xs sum frame channel other long small fails is =
      by_last (clipped_last xs sum frame channel other long small is) where
        by_last : IsClippedOn depth channels xs other ⊎ ((other ≡ channel) × IsTrue (is_clipped depth sum))
            → IsClippedOn depth channels xs other
        by_last (inl before) = before
        by_last (inr last) =
            let passes : is_clipped depth sum ≡ true = last.1 in
            cc

  -- adding a clipped sum, and setting the bit of its channel
  pub marked : (xs : List ℤ) (sum : ℤ) (frame channel other bits : ℕ) → length xs ≡ frame * channels + channel
      → channel < channels → channel < 64 → is_clipped depth sum ≡ true
      → IsBitSet bits other ↔ IsClippedOn depth channels xs other
      → IsBitSet (bit_or bits (1 * 2 ^ channel % 2 ^ 64)) other ↔ IsClippedOn depth channels (xs ++ sum ∷ []) other
  marked xs sum frame channel other bits long small few passes before = by_test (other == channel) refl where
    by_test : (same : Bool) → (other == channel) ≡ same
        → IsBitSet (bit_or bits (1 * 2 ^ channel % 2 ^ 64)) other ↔ IsClippedOn depth channels (xs ++ sum ∷ []) other
    by_test true is =
        let same : channel ≡ other = sym ((Decides-eqb other channel).0 is) in
        subst (λ k. IsBitSet (bit_or bits (1 * 2 ^ channel % 2 ^ 64)) k ↔ IsClippedOn depth channels (xs ++ sum ∷ []) k) same
        (λ set. last_clipped xs sum frame channel long small passes, λ is. new_bit bits channel few)
    by_test false is =
        let apart : other ≢ channel = not_from_Decides (other == channel) (Decides-eqb other channel) is in
        let bit = old_bit bits channel other few apart in (
          λ set. clipped_left xs (sum ∷ []) other (before.0 (bit.0 set)),
          λ is. by_last (clipped_last xs sum frame channel other long small is),
        ) where
          by_last : IsClippedOn depth channels xs other ⊎ ((other ≡ channel) × IsTrue (is_clipped depth sum))
              → IsBitSet (bit_or bits (1 * 2 ^ channel % 2 ^ 64)) other
          by_last (inl early) =
              (old_bit bits channel other few (not_from_Decides (other == channel) (Decides-eqb other channel) is)).1 (before.1 early)
          by_last (inr last) = absurd (not_from_Decides (other == channel) (Decides-eqb other channel) is last.0)
