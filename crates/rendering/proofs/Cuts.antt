-- Stretches, one more behind the others.
use Rattle.std.proofs.Common.{◌≡◌, ◌+◌, ◌-◌, ◌*◌, ◌<◌, ◌≤◌, ◌++◌, ℕ, Bool, false, List, [], ◌∷◌, inl, inr, length, get_or, refl, sym, ap, ◌∙◌, arith, All, min}
use Rattle.std.proofs.lemmas.Bool.{cases_lt}
use Rattle.std.proofs.lemmas.List.{get_or_append_left, get_or_push, length_push}
use Rattle.std.proofs.lemmas.List.Elements.{All-push}
use Rattle.rendering.specs.declared.stretch.Stretch.{Stretch}
use Rattle.rendering.specs.Cut.{AreEven, AreGrouped, AreLongest, IsCut, IsEven, IsNextGroup, IsShort, IsUniform, no_stretch}

-- they still follow one another
pub cut-push : (stretches : List Stretch) (from mid : ℕ) (s : Stretch) → IsCut from stretches mid → s.first ≡ mid
    → s.first < s.end → IsCut from (stretches ++ s ∷ []) s.end
cut-push [] from mid s cut at some = (at ∙ sym cut, some, refl)
cut-push (t ∷ stretches) from mid s cut at some = (cut.0, cut.1, cut-push stretches t.end mid s cut.2 at some)

-- the last of them, if there is one, could not go on with blocks that are marked so
abbrev pub CannotGoOn : ℕ → List Stretch → Bool → Type 0
CannotGoOn most stretches mark = (k : ℕ) (d : Stretch) → k + 1 ≡ length stretches → (get_or stretches k d).done ≡ mark
    → (get_or stretches k d).end - (get_or stretches k d).first ≡ most

-- they are as long as can be where the last one could not go on
longest-push : (most : ℕ) (stretches : List Stretch) (s : Stretch) → AreLongest most stretches
    → CannotGoOn most stretches s.done → AreLongest most (stretches ++ s ∷ [])
longest-push most stretches s longest ends k d below alike =
    let within : k < length stretches = omega (arith, below, length_push stretches s) in
    let here = get_or_append_left stretches (s ∷ []) d k within in
    rw here (elim (cases_lt (k + 1) (length stretches)) [
      | inl before ↦
          longest k d before (rw (here, get_or_append_left stretches (s ∷ []) d (k + 1) before) at alike)
      | inr past ↦ let last : k + 1 ≡ length stretches = omega (arith, within, past) in
          ends k d last (rw (here, get_or_push stretches s d (k + 1) (sym last)) at alike)
    ])

-- the one behind them could not go on if it is full, or marked otherwise
ends-push : (most : ℕ) (stretches : List Stretch) (s : Stretch) (mark : Bool)
    → (s.done ≡ mark → s.end - s.first ≡ most) → CannotGoOn most (stretches ++ s ∷ []) mark
ends-push most stretches s mark full k d last alike =
    let here = get_or_push stretches s d k (omega (arith, last, length_push stretches s)) in
    rw here (full (rw here at alike))

-- ---- stretches of as many blocks each, and the next of them

-- with the next of them they are still the first
pub even-push : (most to : ℕ) (stretches : List Stretch) (s : Stretch) → AreEven most to stretches
    → IsEven most to (length stretches) s → AreEven most to (stretches ++ s ∷ [])
even-push most to stretches s even here k below = elim (cases_lt k (length stretches)) [
  | inl before ↦ rw (get_or_append_left stretches (s ∷ []) no_stretch k before) (even k before)
  | inr past ↦ let at : length stretches ≡ k = omega (arith, below, past, length_push stretches s) in
      rw (get_or_push stretches s no_stretch k at) (rw at at here)
]

module _ (most to n : ℕ) {first behind : ℕ} (place : first ≡ min (n * most) to) (some : first < to)
    (ends : behind ≡ min (first + most) to) where
  begins : first ≡ n * most
  begins = omega (arith, place, some)

  -- the next of them
  pub even-next : (group : ℕ) → IsEven most to n (record { first = first; end = behind; done = false; group = group })
  even-next group = record { first = begins; end = ends ∙ ap (λ (f : ℕ). min (f + most) to) begins; fresh = refl }

  -- where the one behind it begins
  pub place-next : behind ≡ min ((n + 1) * most) to
  place-next = omega (arith, ends, begins)

-- ---- cut by marks

-- the stretches of the blocks before `first`; those from there up to, and without, `here` are all marked so
pub record IsCutSoFar (marked : List Bool) (most together first here : ℕ) (done : Bool) (stretches : List Stretch)
    : Type 0 where
  pub within : first ≤ here
  pub cut : IsCut 0 stretches first
  pub uniform : All (IsUniform marked) stretches
  pub short : All (IsShort most) stretches
  pub same : (b : ℕ) → first ≤ b → b < here → get_or marked b false ≡ done
  pub room : here - first ≤ most
  pub longest : AreLongest most stretches
  pub begun : 1 ≤ length stretches → first < here
  pub ends : CannotGoOn most stretches done
  pub grouped : AreGrouped together stretches

module _ {marked : List Bool} {most together first here : ℕ} {done : Bool} {stretches : List Stretch}
    (is : IsCutSoFar marked most together first here done stretches) where
  abbrev last_one : ℕ → Stretch
  last_one group = record { first = first; end = here; done = done; group = group }

  -- they end where the next block is
  pub cut-here : (group : ℕ) → 1 ≤ most → IsNextGroup together stretches done group → first < here
      → (get_or marked here false ≡ done → most ≤ here - first)
      → IsCutSoFar marked most together here (here + 1) (get_or marked here false) (stretches ++ last_one group ∷ [])
  cut-here group some next begun full = record {
    within = omega arith;
    cut = cut-push stretches 0 first (last_one group) is.cut refl begun;
    uniform = All-push (IsUniform marked) stretches (last_one group) is.uniform is.same;
    short = All-push (IsShort most) stretches (last_one group) is.short is.room;
    same = λ b from to. ap (λ (k : ℕ). get_or marked k false) (omega (arith, from, to));
    room = omega (arith, some);
    longest = longest-push most stretches (last_one group) is.longest is.ends;
    begun = λ more. omega arith;
    ends = ends-push most stretches (last_one group) (get_or marked here false)
        (λ alike. omega (arith, is.room, full (sym alike)));
    grouped = next (last_one group) refl refl;
  }

  -- or go on with it
  pub cut-on : 1 ≤ most → (first < here → (get_or marked here false ≡ done) × (here - first < most))
      → IsCutSoFar marked most together first (here + 1) (get_or marked here false) stretches
  cut-on some goes = record {
    within = omega (arith, is.within);
    cut = is.cut;
    uniform = is.uniform;
    short = is.short;
    same = λ b from to. elim (cases_lt b here) [
      | inl less ↦ is.same b from less ∙ sym (goes (omega (arith, from, less))).0
      | inr past ↦ ap (λ (k : ℕ). get_or marked k false) (omega (arith, past, to))
    ];
    room = elim (cases_lt first here) [
      | inl less ↦ omega (arith, (goes less).1)
      | inr past ↦ omega (arith, past, some)
    ];
    longest = is.longest;
    begun = λ more. omega (arith, is.begun more);
    ends = λ k d last alike. is.ends k d last (alike ∙ (goes (is.begun (omega (arith, last)))).0);
    grouped = is.grouped;
  }
