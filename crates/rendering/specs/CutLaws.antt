-- What is known of stretches that blocks were cut into.
use Rattle.std.proofs.Common.{inl, inr, ℕ, zero, suc, ◌≡◌, ◌+◌, ◌*◌, ◌<◌, ◌≤◌, List, [], ◌∷◌, length, get_or, arith}
use Rattle.std.proofs.lemmas.Bool.{cases_lt}
use Rattle.rendering.specs.declared.stretch.Stretch.{Stretch}
use Rattle.std.specs.List.{All}
use Rattle.rendering.specs.Cut.{IsCut, IsShort}

-- there are no more of them than blocks
pub cut-few : (stretches : List Stretch) (from to : ℕ) → IsCut from stretches to → from + length stretches ≤ to
cut-few [] from to cut = omega (arith, cut)
cut-few (s ∷ stretches) from to cut = omega (arith, cut.0, cut.1, cut-few stretches s.end to cut.2)

-- each has a block, and lies between the ends
pub cut-inside : (stretches : List Stretch) (from to k : ℕ) (d : Stretch) → IsCut from stretches to
    → k < length stretches
    → (from ≤ (get_or stretches k d).first) × ((get_or stretches k d).first < (get_or stretches k d).end)
    × ((get_or stretches k d).end ≤ to)
cut-inside [] from to k d cut below = absurd (omega (arith, below))
cut-inside (s ∷ stretches) from to zero d cut below =
    (omega (arith, cut.0), cut.1, omega (arith, cut-few stretches s.end to cut.2))
cut-inside (s ∷ stretches) from to (suc k) d cut below =
    let rest = cut-inside stretches s.end to k d cut.2 (omega (arith, below)) in
    (omega (arith, cut.0, cut.1, rest.0), rest.1, rest.2)

-- two of them don't meet
pub cut-apart : (stretches : List Stretch) (from to j k : ℕ) (d : Stretch) → IsCut from stretches to → j < k
    → k < length stretches → (get_or stretches j d).end ≤ (get_or stretches k d).first
cut-apart [] from to j k d cut less below = absurd (omega (arith, below))
cut-apart (s ∷ stretches) from to j zero d cut less below = absurd (omega (arith, less))
cut-apart (s ∷ stretches) from to zero (suc k) d cut less below =
    (cut-inside stretches s.end to k d cut.2 (omega (arith, below))).0
cut-apart (s ∷ stretches) from to (suc j) (suc k) d cut less below =
    cut-apart stretches s.end to j k d cut.2 (omega (arith, less)) (omega (arith, below))

-- one that doesn't come before another begins no earlier, and ends no earlier
pub cut-follow : (stretches : List Stretch) (from to j k : ℕ) (d : Stretch) → IsCut from stretches to → j ≤ k
    → k < length stretches → ((get_or stretches j d).first ≤ (get_or stretches k d).first)
    × ((get_or stretches j d).end ≤ (get_or stretches k d).end)
cut-follow stretches from to j k d cut order below = elim (cases_lt j k) [
  | inl less ↦ let apart = cut-apart stretches from to j k d cut less below in
      let first = cut-inside stretches from to j d cut (omega (arith, less, below)) in
      let second = cut-inside stretches from to k d cut below in
      (omega (arith, apart, first.1), omega (arith, apart, second.1))
  | inr past ↦ let same : j ≡ k = omega (arith, order, past) in rw same (omega arith, omega arith)
]

-- each begins where the one before it ends
pub cut-next : (stretches : List Stretch) (from to k : ℕ) (d : Stretch) → IsCut from stretches to
    → k + 1 < length stretches → (get_or stretches (k + 1) d).first ≡ (get_or stretches k d).end
cut-next [] from to k d cut below = absurd (omega (arith, below))
cut-next (s ∷ []) from to k d cut below = absurd (omega (arith, below))
cut-next (s ∷ t ∷ stretches) from to zero d cut below = cut.2.0
cut-next (s ∷ t ∷ stretches) from to (suc k) d cut below =
    let next : suc k + 1 ≡ suc (k + 1) = omega arith in
    rw next (cut-next (t ∷ stretches) s.end to k d cut.2 (omega (arith, below)))

-- so many of them in turn, none of which has more than so many blocks
pub cut-span : (stretches : List Stretch) (from to most j n : ℕ) (d : Stretch) → IsCut from stretches to
    → All (IsShort most) stretches → j + n < length stretches
    → (get_or stretches (j + n) d).end ≤ (get_or stretches j d).first + (n + 1) * most
cut-span stretches from to most j zero d cut short below =
    let here : j + 0 ≡ j = omega arith in rw here (omega (arith, short j d (omega (arith, below))))
cut-span stretches from to most j (suc n) d cut short below =
    let next : j + suc n ≡ j + n + 1 = omega arith in
    let rest = cut-span stretches from to most j n d cut short (omega (arith, below)) in
    let begins = cut-next stretches from to (j + n) d cut (omega (arith, below)) in
    rw next (omega (arith, rest, begins, short (j + n + 1) d (omega (arith, below))))

-- a block of one of them
pub record IsInside (stretches : List Stretch) (d : Stretch) (b : ℕ) : Type 0 where
  pub place : ℕ
  pub there : place < length stretches
  pub behind_first : (get_or stretches place d).first ≤ b
  pub before_end : b < (get_or stretches place d).end

-- each block is in one of them
pub cut-covers : (stretches : List Stretch) (from to b : ℕ) (d : Stretch) → IsCut from stretches to → from ≤ b → b < to
    → IsInside stretches d b
cut-covers [] from to b d cut behind before = absurd (omega (arith, cut, behind, before))
cut-covers (s ∷ stretches) from to b d cut behind before = elim (cases_lt b s.end) [
  | inl inside ↦ record {
    place = 0;
    there = omega arith;
    behind_first = omega (arith, cut.0, behind);
    before_end = inside;
  }
  | inr past ↦ let rest = cut-covers stretches s.end to b d cut.2 past before in record {
    place = suc rest.place;
    there = omega (arith, rest.there);
    behind_first = rest.behind_first;
    before_end = rest.before_end;
  }
]
