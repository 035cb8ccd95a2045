-- Fading one more sample frame.
use Rattle.std.proofs.Common.{◌≡◌, ◌⊎◌, inl, inr, ◌<◌, ◌≤◌, ℕ, ◌+◌, ◌-◌, ◌*◌, ◌/◌, List, drop, length, take, get_or, arith, sym, ap, ◌∙◌, length-take, length-drop}
use Rattle.std.specs.Prelude.{ℤ, pos}
use Rattle.std.proofs.lemmas.Bool.{cases_lt}
use Rattle.std.proofs.Math.Nat.{div-eq_of_lt-le}
use borrow.Rule.Slice.PartMut.{put_mid}
use Rattle.sound_terms.specs.declared.piece.Shape.{Shape}
use Rattle.sound_terms.specs.Groups.{fraction_of}
use Rattle.sound_terms.specs.Mix.{full_scale, quantized, share_of}
use Rattle.blockmachine.specs.Fading.{HasFadedBy}
use Rattle.blockmachine.proofs.Places.{get_or-part, kept_elsewhere, written_here}

module _ (shape : Shape) (channels depth i a k : ℕ) (first old new : List ℤ) (gain : ℕ × ℕ) (begins : a ≡ i * channels)
    (long : k ≡ channels) (fit : a + k ≤ length old) (whole : length new ≡ k)
    (behind : (n : ℕ) (d : ℤ) → a ≤ n → get_or old n d ≡ get_or first n d) (fraction : gain ≡ fraction_of shape i)
    (faded : HasFadedBy gain depth (take k (drop a old)) new)
  where
    abbrev share : ℕ → ℤ
    share n = quantized depth (share_of (full_scale depth (get_or first n (pos 0))) (fraction_of shape (n / channels)))

    -- a sample of this sample frame
    here : (n : ℕ) → a ≤ n → n < a + k → get_or (put_mid a k old new) n (pos 0) ≡ share n
    here n low high =
        let taken = length-take k (drop a old) in
        let below : n - a < length (take k (drop a old)) = omega (arith, taken, length-drop a old, fit, low, high) in
        let place : a + (n - a) ≡ n = omega (arith, low) in
        let frame : n / channels ≡ i = div-eq_of_lt-le {k = i} channels {m = n} (omega arith) (omega arith) in
        let there : get_or (take k (drop a old)) (n - a) (pos 0) ≡ get_or first n (pos 0) =
        get_or-part a k (n - a) old (pos 0) (omega (arith, low, high)) ∙ ap (λ m. get_or old m (pos 0)) place
        ∙ behind n (pos 0) low in
        written_here a k old new (pos 0) fit whole n low high ∙ faded (n - a) below
        ∙ ap (λ z. quantized depth (share_of (full_scale depth z) gain)) there
        ∙ ap (λ (f : ℕ × ℕ). quantized depth (share_of (full_scale depth (get_or first n (pos 0))) f))
        (fraction ∙ ap (fraction_of shape) (sym frame))

    pub frame_more : ((n : ℕ) → n < a → get_or old n (pos 0) ≡ share n) → (n : ℕ) → n < (i + 1) * channels
        → get_or (put_mid a k old new) n (pos 0) ≡ share n
    frame_more done n below = by_place (cases_lt n a) where
      by_place : (n < a) ⊎ (a ≤ n) → get_or (put_mid a k old new) n (pos 0) ≡ share n
      by_place (inl before) = kept_elsewhere a k old new (pos 0) fit whole n (inl before) ∙ done n before
      by_place (inr later) = here n later (omega (arith, below, begins, long))
