use Rattle.std.proofs.Common.{◌≡◌, ◌⊎◌, inl, inr, ℕ, ◌<◌, ◌≤◌, ◌+◌, List, length, get_or, rules, arith, subst}
use Rattle.std.specs.Prelude.{ℤ, pos, ◌≤ℤ◌}
use Rattle.std.proofs.lemmas.Bool.{cases_lt}
use Rattle.std.proofs.lemmas.Int.{ints, to_z-of_z}
use Rattle.std.proofs.lemmas.List.{get_or_default}
use mir.Syntax.{w32}
use mir.Val.{SFits}
use Rattle.blockmachine.proofs.clipped.bounds_of.Goals as goal

-- a property of the first n elements and of the next one
more : (P : ℤ → Type 0) (xs : List ℤ) (n : ℕ) → n < length xs → ((k : ℕ) (d : ℤ) → k < n → P (get_or xs k d))
    → P (get_or xs n (pos 0)) → (k : ℕ) (d : ℤ) → k < n + 1 → P (get_or xs k d)
more P xs n inside before here k d below = by_index (cases_lt k n) where
  by_index : (k < n) ⊎ (n ≤ k) → P (get_or xs k d)
  by_index (inl early) = before k d early
  by_index (inr late) =
      let same : n ≡ k = omega (arith, below, late) in
      subst (λ m. P (get_or xs m d)) same (subst P (get_or_default xs n (pos 0) d inside) here)

pub loop-k-preserved : goal.loop-k-preserved
loop-k-preserved c =
    let xs = c.args.samples.now in
    let n = c.loop-k.k in
    let low_fits : SFits w32 c.min-least.result = search rules in
    let high_fits : SFits w32 c.max-greatest.result = search rules in
    let fits : SFits w32 (get_or xs n (pos 0)) = search rules in
    let low = to_z-of_z w32 c.min-least.result low_fits in
    let high = to_z-of_z w32 c.max-greatest.result high_fits in
    let here = to_z-of_z w32 (get_or xs n (pos 0)) fits in
    rw (low, high) (more (λ z. (c.min-least.result ≤ℤ z) × (z ≤ℤ c.max-greatest.result)) xs n c.loop-k-test.true
    (λ k d early.
    let before = c.loop-k.invariant k d early in (
      omega (arith, ints, before.0, c.loop-k.least-is, c.min-least.ensures.self_bound),
      omega (arith, ints, before.1, c.loop-k.greatest-is, c.max-greatest.ensures.self_bound),
    )) (
      omega (arith, ints, here, c.min-least.ensures.other_bound),
      omega (arith, ints, here, c.max-greatest.ensures.other_bound),
    ))
