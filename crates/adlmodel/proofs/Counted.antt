-- There are at most 32,767 distinct numbers from 1 to 32767.
use Rattle.std.proofs.Common.{◌≡◌, ℕ, ◌<◌, ◌≤◌, Bool, true, false, List, [], ◌∷◌, ◌++◌, length, arith, eqb, refl}
use Rattle.std.specs.Prelude.{map}
use Rattle.std.specs.List.{list_all, list_any}
use Rattle.std.proofs.lemmas.Bool.Decides.{nat_tests}
use Rattle.std.proofs.lemmas.List.{length-map, length-append}
use Rattle.std.proofs.lemmas.Cmp.{nat_eq_equiv}
use Rattle.std.proofs.lemmas.Map.Keys.{IsDistinct-push}
use Rattle.std.proofs.lemmas.Map.Steps.{length-le_from_distinct_below}
use Rattle.sound_terms.specs.declared.Event.{Event}
use Rattle.list_terms.specs.Project.{Source}
use Rattle.list_terms.specs.WholeProject.{AreDistinct, AreEvents, AreNumberedSources, is_number}

module _ {X : Type 0} (number_of : X → ℕ) (fine : X → Bool)
    (each : (x : X) → fine x ≡ true → is_number (number_of x) ≡ true) where
  zero_is_free : (items : List X) → list_all fine items ≡ true → list_any (eqb 0) (map number_of items) ≡ false
  zero_is_free [] h = refl
  zero_is_free (x ∷ items) h = grind (arith, nat_tests, each x, zero_is_free items)

  below_with_zero :
      (items : List X) → list_all fine items ≡ true → (q : ℕ)
      → list_any (eqb q) (map number_of items ++ (0 ∷ [])) ≡ true → q < 32768
  below_with_zero [] h q e = grind (arith, nat_tests)
  below_with_zero (x ∷ items) h q e = grind (arith, nat_tests, each x, below_with_zero items)

  length-numbered : (items : List X) → AreDistinct (map number_of items) → list_all fine items ≡ true
      → length items ≤ 32767
  length-numbered items distinct h =
      let numbers : List ℕ = map number_of items in
      let apart = IsDistinct-push nat_eq_equiv numbers 0 distinct (zero_is_free items h) in
      let few = length-le_from_distinct_below (numbers ++ (0 ∷ [])) 32768 apart (below_with_zero items h) in
      omega (arith, few, length-append numbers (0 ∷ []), length-map items number_of)

pub length-sources : (sources : List Source) → AreNumberedSources sources → length sources ≤ 32767
length-sources sources h = length-numbered (λ s. s.number) _ (λ s e. grind (arith, nat_tests)) sources h.distinct h.each

pub length-events : (events : List Event) → AreEvents events → length events ≤ 32767
length-events events h = length-numbered (λ e. e.number) _ (λ s e. grind (arith, nat_tests)) events h.distinct h.each
