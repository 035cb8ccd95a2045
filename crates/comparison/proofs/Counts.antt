-- Counts of differing sums: one more, two stretches together, and equal sums.
use Rattle.std.proofs.Common.{◌≡◌, ◌⊎◌, inl, inr, ℕ, zero, suc, ◌+◌, ◌-◌, ◌*◌, ◌<◌, ◌≤◌, Bool, true, false, List, length, get_or, refl, ap, ◌∙◌, add-one, arith}
use Rattle.std.specs.Prelude.{ℤ, pos}
use Rattle.std.specs.Ordering.{int_eq}
use Rattle.std.proofs.lemmas.Bool.{cases_lt}
use Rattle.std.proofs.lemmas.Bool.Decides.{Decides-int_eq}
use Rattle.std.proofs.lemmas.List.{get_or_past}
use Rattle.blockmachine.specs.Exact.{AreSumsOf}
use Rattle.comparison.specs.Alike.{AreAlike}
use Rattle.comparison.specs.Counted.{AreCounts, HasCounted, differing, of_channel}

is_same : (x y : ℤ) → x ≡ y → int_eq x y ≡ true
is_same x y same = (Decides-int_eq x y).1 same

is_apart : (x y : ℤ) → (x ≡ y → ⊥) → int_eq x y ≡ false
is_apart x y apart = by_test (int_eq x y) refl where
  by_test : (b : Bool) → int_eq x y ≡ b → int_eq x y ≡ false
  by_test true is = absurd (apart ((Decides-int_eq x y).0 is))
  by_test false is = is

-- one more sum
pub same_more : (sums others : ℕ → ℤ) (n : ℕ) → sums n ≡ others n
    → differing sums others (n + 1) ≡ differing sums others n
same_more sums others n same =
    ap (differing sums others) (add-one n) ∙ rw (is_same (sums n) (others n) same) (omega arith)

pub apart_more : (sums others : ℕ → ℤ) (n : ℕ) → (sums n ≡ others n → ⊥)
    → differing sums others (n + 1) ≡ differing sums others n + 1
apart_more sums others n apart =
    ap (differing sums others) (add-one n) ∙ rw (is_apart (sums n) (others n) apart) refl

-- the count is at most the number of sums
pub differing_few : (sums others : ℕ → ℤ) (n : ℕ) → differing sums others n ≤ n
differing_few sums others zero = omega arith
differing_few sums others (suc n) =
    let rest = differing_few sums others n in by_test (int_eq (sums n) (others n)) refl rest where
      by_test : (b : Bool) → int_eq (sums n) (others n) ≡ b → differing sums others n ≤ n
          → differing sums others (suc n) ≤ suc n
      by_test true is rest = rw is (omega (arith, rest))
      by_test false is rest = rw is (omega (arith, rest))

-- the count depends only on the sums
pub differing_alike : (sums others sums' others' : ℕ → ℤ) (n : ℕ) → ((i : ℕ) → i < n → sums i ≡ sums' i)
    → ((i : ℕ) → i < n → others i ≡ others' i) → differing sums others n ≡ differing sums' others' n
differing_alike sums others sums' others' zero same also = refl
differing_alike sums others sums' others' (suc n) same also =
    let rest = differing_alike sums others sums' others' n (λ i below. same i (omega (arith, below)))
    (λ i below. also i (omega (arith, below))) in
    rw (same n (omega arith), also n (omega arith), rest) refl

-- equal sums have no differences
differing_none : (sums others : ℕ → ℤ) (n : ℕ) → ((i : ℕ) → i < n → sums i ≡ others i) → differing sums others n ≡ 0
differing_none sums others zero same = refl
differing_none sums others (suc n) same =
    let rest = differing_none sums others n (λ i below. same i (omega (arith, below))) in
    rw (is_same (sums n) (others n) (same n (omega arith)), rest) refl

-- the count over two stretches
differing-append : (sums others : ℕ → ℤ) (n m : ℕ) → differing sums others (n + m)
    ≡ differing sums others n + differing (λ i. sums (n + i)) (λ i. others (n + i)) m
differing-append sums others n zero =
    let all : n + zero ≡ n = omega arith in ap (differing sums others) all ∙ omega arith
differing-append sums others n (suc m) =
    let all : n + suc m ≡ suc (n + m) = omega arith in
    let rest = differing-append sums others n m in
    ap (differing sums others) all ∙ omega (arith, rest)

-- upper bound of the counts after a block
pub few_more : (of : ℕ → List ℤ → ℕ → ℤ) (sums others : List ℤ) (n : ℕ) (old new : List ℕ) → ((k : ℕ) → k < length new
    → get_or new k 0 ≡ get_or old k 0 + differing (of k sums) (of k others) n) → (k : ℕ)
    → get_or new k 0 ≤ get_or old k 0 + n
few_more of sums others n old new more k = by_place (cases_lt k (length new)) where
  by_place : (k < length new) ⊎ (length new ≤ k) → get_or new k 0 ≤ get_or old k 0 + n
  by_place (inl below) = omega (arith, more k below, differing_few (of k sums) (of k others) n)
  by_place (inr past) = omega (arith, get_or_past new k 0 past)

-- one more stretch was counted
pub counted_more : (mix other : ℕ → ℕ → ℤ) (from n start m : ℕ) (old new : List ℕ) → start ≡ from + n
    → length new ≡ length old → AreCounts mix other from n old → HasCounted mix other start m old new
    → AreCounts mix other from (n + m) new
counted_more mix other from n start m old new begins long are more k below =
    let c = k + 1 in
    let here : (i : ℕ) → start + i ≡ from + (n + i) = λ i. omega (arith, begins) in
    let later = differing_alike (λ i. mix c (start + i)) (λ i. other c (start + i)) (λ i. mix c (from + (n + i)))
    (λ i. other c (from + (n + i))) m (λ i inside. ap (λ (t : ℕ). mix c t) (here i))
    (λ i inside. ap (λ (t : ℕ). other c t) (here i)) in
    let both = differing-append (λ i. mix c (from + i)) (λ i. other c (from + i)) n m in
    let had = are k (omega (arith, below, long)) in
    omega (arith, more k below, had, later, both)

-- an equal stretch adds nothing
pub alike_counted : (mix other : ℕ → ℕ → ℤ) (from n channels : ℕ) (counts : List ℕ) → length counts ≡ channels
    → AreAlike from (from + n) channels mix other → HasCounted mix other from n counts counts
alike_counted mix other from n channels counts wide alike k below =
    let none = differing_none (λ i. mix (k + 1) (from + i)) (λ i. other (k + 1) (from + i)) n
    (λ i inside. alike (k + 1) (from + i) (omega arith) (omega (arith, below, wide)) (omega arith)
    (omega (arith, inside))) in
    omega (arith, none)

-- the counts of interleaved sums
pub sums_counted : (frames channels start : ℕ) (sums others : List ℤ) (mix mixed : ℕ → ℕ → ℤ) (old new : List ℕ)
    → length new ≡ channels → AreSumsOf frames channels sums (λ i channel. mix channel (start + i))
    → AreSumsOf frames channels others (λ i channel. mixed channel (start + i))
    → ((k : ℕ) → k < length new → get_or new k 0
    ≡ get_or old k 0 + differing (of_channel channels k sums) (of_channel channels k others) frames)
    → HasCounted mix mixed start frames old new
sums_counted frames channels start sums others mix mixed old new wide are also more k below =
    let at : (i : ℕ) → i * channels + k ≡ i * channels + (k + 1 - 1) = λ i. omega arith in
    let mine : (i : ℕ) → i < frames → of_channel channels k sums i ≡ mix (k + 1) (start + i) = λ i inside.
    ap (λ (p : ℕ). get_or sums p (pos 0)) (at i) ∙ are i (k + 1) inside (omega arith) (omega (arith, below, wide)) in
    let theirs : (i : ℕ) → i < frames → of_channel channels k others i ≡ mixed (k + 1) (start + i) = λ i inside.
    ap (λ (p : ℕ). get_or others p (pos 0)) (at i) ∙ also i (k + 1) inside (omega arith) (omega (arith, below, wide)) in
    let same = differing_alike (of_channel channels k sums) (of_channel channels k others)
    (λ i. mix (k + 1) (start + i)) (λ i. mixed (k + 1) (start + i)) frames mine theirs in
    more k below ∙ ap (λ (n : ℕ). get_or old k 0 + n) same

-- the counts depend only on the mixes
pub counts_as : (mix mixed as_mix as_mixed : ℕ → ℕ → ℤ) (from n : ℕ) (counts : List ℕ)
    → ((channel time : ℕ) → mix channel time ≡ as_mix channel time)
    → ((channel time : ℕ) → mixed channel time ≡ as_mixed channel time) → AreCounts mix mixed from n counts
    → AreCounts as_mix as_mixed from n counts
counts_as mix mixed as_mix as_mixed from n counts same others are k below =
    are k below ∙ differing_alike (λ i. mix (k + 1) (from + i)) (λ i. mixed (k + 1) (from + i))
    (λ i. as_mix (k + 1) (from + i)) (λ i. as_mixed (k + 1) (from + i)) n (λ i inside. same (k + 1) (from + i))
    (λ i inside. others (k + 1) (from + i))
