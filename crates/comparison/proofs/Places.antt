-- The sums of two blocks by sample and channel: equality and the first difference.
use Rattle.std.proofs.Common.{◌≡◌, ◌≢◌, ℕ, suc, ◌+◌, ◌-◌, ◌*◌, ◌/◌, ◌%◌, ◌<◌, ◌≤◌, List, get_or, sym, ap, ◌∙◌, subst, arith}
use Rattle.std.specs.Prelude.{ℤ, pos}
use Rattle.std.proofs.Math.Nat.{div-add-mod, mul-le-mul_right}
use Rattle.blockmachine.specs.Exact.{AreSumsOf}
use Rattle.comparison.specs.Alike.{AreAlike, DifferFirst}

-- the index of the sum of a sample and channel
pub index_inside : (frames channels i c : ℕ) → i < frames → 1 ≤ c → c ≤ channels
    → i * channels + (c - 1) < frames * channels
index_inside frames channels i c below first last =
    let row : suc i * channels ≤ frames * channels = mul-le-mul_right channels below in omega arith

module _ (frames channels start : ℕ) (sums other : List ℤ) (mix mixed : ℕ → ℕ → ℤ)
    (are : AreSumsOf frames channels sums (λ i channel. mix channel (start + i)))
    (others : AreSumsOf frames channels other (λ i channel. mixed channel (start + i))) where
  same_at : (c time : ℕ) → 1 ≤ c → c ≤ channels → start ≤ time → time < start + frames
      → get_or sums ((time - start) * channels + (c - 1)) (pos 0)
      ≡ get_or other ((time - start) * channels + (c - 1)) (pos 0)
      → mix c time ≡ mixed c time
  same_at c time first last begun ends same =
      let i = time - start in
      let below : i < frames = omega (arith, begun, ends) in
      let here : start + i ≡ time = omega (arith, begun) in
      subst (λ (t : ℕ). mix c t ≡ mixed c t) here (sym (are i c below first last) ∙ same ∙ others i c below first last)

  -- all sums are equal
  pub all_alike : ((k : ℕ) → k < frames * channels → get_or sums k (pos 0) ≡ get_or other k (pos 0))
      → AreAlike start (start + frames) channels mix mixed
  all_alike same c time first last begun ends =
      same_at c time first last begun ends
      (same ((time - start) * channels + (c - 1))
      (index_inside frames channels (time - start) c (omega (arith, begun, ends)) first last))

  -- the first sum that differs
  pub first_differs : (at : ℕ) → 1 ≤ channels → at < frames * channels
      → get_or sums at (pos 0) ≢ get_or other at (pos 0)
      → ((k : ℕ) → k < at → get_or sums k (pos 0) ≡ get_or other k (pos 0))
      → at / channels < frames → at % channels < channels
      → DifferFirst start (start + frames) channels mix mixed (record {
        at = start + at / channels;
        channel = at % channels + 1;
        first = get_or sums at (pos 0);
        second = get_or other at (pos 0);
      })
  first_differs at some inside differ same below less =
      let i = at / channels in
      let j = at % channels in
      let whole : i * channels + (j + 1 - 1) ≡ at = omega (arith, div-add-mod at channels) in
      let times : start + i - start ≡ i = omega arith in
      let mine : get_or sums at (pos 0) ≡ mix (j + 1) (start + i) =
      ap (λ (k : ℕ). get_or sums k (pos 0)) (sym whole)
      ∙ are i (j + 1) below (omega arith) (omega (arith, less)) in
      let theirs : get_or other at (pos 0) ≡ mixed (j + 1) (start + i) =
      ap (λ (k : ℕ). get_or other k (pos 0)) (sym whole)
      ∙ others i (j + 1) below (omega arith) (omega (arith, less)) in
      record {
        begun = omega arith;
        before_end = omega (arith, below);
        from_one = omega arith;
        to_last = omega (arith, less);
        sum = mine;
        other_sum = theirs;
        differ = λ alike. differ (mine ∙ alike ∙ sym theirs);
        before = λ c time first last begun ends.
            let row : suc (time - start) * channels ≤ i * channels =
            mul-le-mul_right channels (omega (arith, begun, ends)) in
            same_at c time first last begun (omega (arith, ends, below))
            (same ((time - start) * channels + (c - 1)) (omega (arith, row, whole, first, last)));
        below = λ c first lower.
            same_at c (start + i) first (omega (arith, lower, less)) (omega arith) (omega (arith, below))
            (same ((start + i - start) * channels + (c - 1))
            (subst (λ (n : ℕ). n * channels + (c - 1) < at) (sym times) (omega (arith, whole, lower, first))));
      }
