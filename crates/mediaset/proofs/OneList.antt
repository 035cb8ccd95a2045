-- The list of maximal runs, in order, is unique.
use Rattle.std.proofs.Common.{◌≡◌, ℕ, zero, suc, ◌+◌, ◌-◌, ◌<◌, ◌≤◌, Bool, true, false, List, [], ◌∷◌, length, Some, refl, sym, ap, subst, ◌∙◌, ◌⊎◌, inl, inr, ⊎_elim, arith}
use Rattle.std.specs.Prelude.{nat_lt, Contains}
use Rattle.std.specs.List.{All, slice_get}
use Rattle.std.proofs.lemmas.Bool.Decides.{nat_tests}
use Rattle.std.proofs.lemmas.List.Elements.{All-contains}
use Rattle.std.proofs.lemmas.Option.{slice_get-get_or}
use Rattle.sound_terms.specs.declared.piece.Run.{Run}
use Rattle.sound_terms.specs.Kept.{AreRuns, IsMaximal, comes_before}

abbrev built : ℕ → ℕ → ℕ → Run
built file first length = record { file = file; first = first; length = length }

same_run : (a b : Run) → a.file ≡ b.file → a.first ≡ b.first → a.length ≡ b.length → a ≡ b
same_run a b file first length =
    ap (λ (n : ℕ). built n a.first a.length) file ∙ ap (λ (n : ℕ). built b.file n a.length) first
    ∙ ap (built b.file b.first) length

-- Two maximal runs that share a sample frame are equal.
overlap : (kept : ℕ → ℕ → Bool) (a b : Run) → IsMaximal kept a → IsMaximal kept b → a.file ≡ b.file
    → b.first ≤ a.first → a.first < b.first + b.length → a ≡ b
overlap kept a b is other file from to = same_run a b file begins long where
  begins : a.first ≡ b.first
  begins = by_test (nat_lt b.first a.first) refl where
    by_test : (test : Bool) → nat_lt b.first a.first ≡ test → a.first ≡ b.first
    by_test true test =
        let more : b.first < a.first = grind (arith, nat_tests, test) in
        let at : b.first + (a.first - 1 - b.first) ≡ a.first - 1 = omega (arith, more) in
        let inside = other.inside (a.first - 1 - b.first) (omega (arith, more, to)) in
        let here : kept a.file (a.first - 1) ≡ true =
        subst (λ (f : ℕ). kept f (a.first - 1) ≡ true) (sym file)
        (subst (λ (n : ℕ). kept b.file n ≡ true) at inside) in
        let none = is.before (omega (arith, more)) in
        let clash : true ≡ false = sym here ∙ none in cc
    by_test false test = let least : a.first ≤ b.first = grind (arith, nat_tests, test) in omega (arith, least, from)

  -- Of two runs with the same beginning, only the longer one can be maximal.
  no_longer : (c d : Run) → IsMaximal kept c → IsMaximal kept d → c.file ≡ d.file → c.first ≡ d.first
      → c.length < d.length → ⊥
  no_longer c d one two same start less =
      let inside = two.inside c.length less in
      let here : kept c.file (c.first + c.length) ≡ true =
      subst (λ (f : ℕ). kept f (c.first + c.length) ≡ true) (sym same)
      (subst (λ (n : ℕ). kept d.file (n + c.length) ≡ true) (sym start) inside) in
      let clash : true ≡ false = sym here ∙ one.behind in cc

  long : a.length ≡ b.length
  long = by_less (nat_lt a.length b.length) refl where
    by_more : (test : Bool) → nat_lt b.length a.length ≡ test → a.length ≤ b.length
    by_more true test = absurd (no_longer b a other is (sym file) (sym begins) (grind (arith, nat_tests, test)))
    by_more false test = grind (arith, nat_tests, test)

    by_less : (test : Bool) → nat_lt a.length b.length ≡ test → a.length ≡ b.length
    by_less true test = absurd (no_longer a b is other file begins (grind (arith, nat_tests, test)))
    by_less false test =
        let least : b.length ≤ a.length = grind (arith, nat_tests, test) in
        let most = by_more (nat_lt b.length a.length) refl in omega (arith, least, most)

module _ (kept : ℕ → ℕ → Bool) (home : ℕ → ℕ) where
  -- A run of one list is in the other.
  is_among : (runs others : List Run) → All (IsMaximal kept) runs → AreRuns kept home others → (run : Run)
      → Contains runs run → Contains others run
  is_among runs others all are run among =
      let is = All-contains (IsMaximal kept) runs run all among in
      let at : run.first + 0 ≡ run.first = omega arith in
      let here : kept run.file run.first ≡ true = subst (λ (n : ℕ). kept run.file n ≡ true) at (is.inside 0 is.some) in
      let found = are.all run.file run.first here in
      let other = All-contains (IsMaximal kept) others found.0 are.maximal found.1 in
      let same = overlap kept run found.0 is other (sym found.2.same_file) found.2.from found.2.to in
      subst (Contains others) (sym same) found.1

  -- The order is strict.
  no_circle : (a b : Run) → comes_before home a b ≡ true → comes_before home b a ≡ true → ⊥
  no_circle a b one two = grind (arith, nat_tests, one, two)

  no_self : (a : Run) → comes_before home a a ≡ true → ⊥
  no_self a one = grind (arith, nat_tests, one)

  there : (runs : List Run) (run : Run) → (is : Contains runs run) → slice_get runs is.0 ≡ Some run
  there runs run is = slice_get-get_or runs is.0 run is.1 ∙ ap Some is.2

  record InOrder (runs : List Run) : Type 0 where
    order : (i j : ℕ) (a b : Run) → i < j → slice_get runs i ≡ Some a → slice_get runs j ≡ Some b
        → comes_before home a b ≡ true

  tail_order : (r : Run) (runs : List Run) → InOrder (r ∷ runs) → InOrder runs
  tail_order r runs is =
      record { order = λ i j a b below first second. is.order (suc i) (suc j) a b (omega (arith, below)) first second }

  head_before : (r : Run) (runs : List Run) → InOrder (r ∷ runs) → (run : Run) → Contains runs run
      → comes_before home r run ≡ true
  head_before r runs is run among = is.order 0 (suc among.0) r run (omega arith) refl (there runs run among)

  behind : (r : Run) (runs : List Run) (run : Run) → Contains runs run → Contains (r ∷ runs) run
  behind r runs run is = (suc is.0, omega (arith, is.1), is.2)

  -- An element is the first one, or one after it.
  first_or_behind : (r : Run) (runs : List Run) (run : Run) → Contains (r ∷ runs) run → (r ≡ run) ⊎ Contains runs run
  first_or_behind r runs run (zero, below, same) = inl same
  first_or_behind r runs run (suc k, below, same) = inr (k, omega (arith, below), same)

  -- Two ordered lists with the same elements are equal.
  same_lists : (runs others : List Run) → InOrder runs → InOrder others
      → ((run : Run) → Contains runs run → Contains others run)
      → ((run : Run) → Contains others run → Contains runs run) → runs ≡ others
  same_lists [] [] one two into back = refl
  same_lists [] (o ∷ others) one two into back = let e = back o (0, omega arith, refl) in absurd (omega (arith, e.1))
  same_lists (r ∷ runs) [] one two into back = let e = into r (0, omega arith, refl) in absurd (omega (arith, e.1))
  same_lists (r ∷ runs) (o ∷ others) one two into back =
      let heads : r ≡ o = same_heads in
      let tails : runs ≡ others = same_lists runs others (tail_order r runs one) (tail_order o others two)
      (λ run among. ⊎_elim
      (λ same. absurd (no_self run (subst (λ (x : Run). comes_before home x run ≡ true) (heads ∙ same)
      (head_before r runs one run among))))
      (λ is. is) (first_or_behind o others run (into run (behind r runs run among))))
      (λ run among. ⊎_elim
      (λ same. absurd (no_self run (subst (λ (x : Run). comes_before home x run ≡ true) (sym heads ∙ same)
      (head_before o others two run among))))
      (λ is. is) (first_or_behind r runs run (back run (behind o others run among)))) in
      rw (heads, tails) refl
    where
      same_heads : r ≡ o
      same_heads = ⊎_elim (λ same. sym same)
          (λ later. ⊎_elim (λ same. same)
          (λ earlier. absurd (no_circle r o (head_before r runs one o earlier) (head_before o others two r later)))
          (first_or_behind r runs o (back o (0, omega arith, refl))))
          (first_or_behind o others r (into r (0, omega arith, refl)))

  pub one_list : (runs others : List Run) → AreRuns kept home runs → AreRuns kept home others → runs ≡ others
  one_list runs others are also =
      same_lists runs others (record { order = are.order }) (record { order = also.order })
      (is_among runs others are.maximal also) (is_among others runs also.maximal are)
