-- Laws of runs, one after another.
use Rattle.std.proofs.Common.{◌≡◌, ◌≢◌, ℕ, zero, suc, ◌+◌, ◌-◌, ◌<◌, ◌≤◌, Bool, true, false, List, [], ◌∷◌, Some, refl, sym, ap, subst, ◌∙◌, ◌⊎◌, ⊎_elim, arith}
use Rattle.std.specs.Prelude.{◌==◌, ◌&&◌, ◌||◌, nat_le, nat_lt, Contains}
use Rattle.std.specs.List.{slice_get}
use Rattle.std.proofs.Math.Bool.{or-true}
use Rattle.std.proofs.lemmas.Bool.{false_from_ne_true, or_from}
use Rattle.std.proofs.lemmas.Bool.Decides.{nat_tests}
use Rattle.std.proofs.lemmas.List.Elements.{All-cons, All-nil, All-weaker}
use Rattle.facts.specs.Lists.{holds_there}
use Rattle.sound_terms.specs.declared.piece.Run.{Run}
use Rattle.sound_terms.specs.Kept.{AreRuns, HasFrame, IsMaximal, comes_before}

-- The run contains this sample frame.
abbrev pub is_in : Run → ℕ → ℕ → Bool
is_in run file frame = run.file == file && (nat_le run.first frame && nat_lt frame (run.first + run.length))

-- A sample frame of the run, or kept otherwise.
abbrev pub with_run : Run → (ℕ → ℕ → Bool) → ℕ → ℕ → Bool
with_run run kept file frame = is_in run file frame || kept file frame

-- Every kept sample frame is after the run, with a gap of at least one.
abbrev pub StandsBefore : (ℕ → ℕ) → Run → (ℕ → ℕ → Bool) → Type 0
StandsBefore home run kept =
    (file frame : ℕ) → kept file frame ≡ true
    → (home run.file < home file) ⊎ ((run.file ≡ file) × (run.first + run.length < frame))

-- Nothing is kept.
pub no_runs : (home : ℕ → ℕ) → AreRuns (λ file frame. false) home []
no_runs home = record {
  maximal = All-nil (IsMaximal (λ file frame. false));
  all = λ file frame kept. absurd (cc);
  order = λ i j a b below first second. absurd (cc);
}

-- Maximality depends only on which sample frames are kept.
maximal_alike : (kept other : ℕ → ℕ → Bool) → ((file frame : ℕ) → kept file frame ≡ other file frame) → (run : Run)
    → IsMaximal kept run → IsMaximal other run
maximal_alike kept other same run is = record {
  some = is.some;
  inside = λ i below. sym (same run.file (run.first + i)) ∙ is.inside i below;
  before = λ some. sym (same run.file (run.first - 1)) ∙ is.before some;
  behind = sym (same run.file (run.first + run.length)) ∙ is.behind;
}

pub runs_alike : (kept other : ℕ → ℕ → Bool) (home : ℕ → ℕ) (runs : List Run)
    → ((file frame : ℕ) → kept file frame ≡ other file frame)
    → AreRuns kept home runs → AreRuns other home runs
runs_alike kept other home runs same are = record {
  maximal = All-weaker (IsMaximal kept) (IsMaximal other) (maximal_alike kept other same) runs are.maximal;
  all = λ file frame is. are.all file frame (same file frame ∙ is);
  order = are.order;
}

-- ---- one more run in front

other_file : (home : ℕ → ℕ) (a b : ℕ) → home a < home b → a ≢ b
other_file home a b below same = let e = ap home same in omega (arith, below, e)

not_in_other : (run : Run) (file frame : ℕ) → run.file ≢ file → is_in run file frame ≡ false
not_in_other run file frame other = grind (arith, nat_tests, other)

not_in_behind : (run : Run) (file frame : ℕ) → run.first + run.length ≤ frame → is_in run file frame ≡ false
not_in_behind run file frame behind = grind (arith, nat_tests, behind)

not_in_before : (run : Run) (file frame : ℕ) → frame < run.first → is_in run file frame ≡ false
not_in_before run file frame before = grind (arith, nat_tests, before)

is_in_self : (run : Run) (i : ℕ) → i < run.length → is_in run run.file (run.first + i) ≡ true
is_in_self run i below = grind (arith, nat_tests, below)

has_frame_of : (run : Run) (file frame : ℕ) → is_in run file frame ≡ true → HasFrame file frame run
has_frame_of run file frame is = record {
  same_file = grind (arith, nat_tests, is);
  from = grind (arith, nat_tests, is);
  to = grind (arith, nat_tests, is);
}

module _ (home : ℕ → ℕ) (run : Run) (kept : ℕ → ℕ → Bool) (stands : StandsBefore home run kept) (some : 0 < run.length)
  where
    -- No sample frame of its file up to its end is kept otherwise.
    none_before : (frame : ℕ) → frame ≤ run.first + run.length → kept run.file frame ≡ false
    none_before frame few = false_from_ne_true (kept run.file frame) (λ is. ⊎_elim
        (λ later. omega (arith, later))
        (λ behind. omega (arith, behind.1, few))
        (stands run.file frame is))

    own_maximal : IsMaximal (with_run run kept) run
    own_maximal = record {
      some = some;
      inside = λ i below. rw (is_in_self run i below) refl;
      before = λ first. or_from _ _ (not_in_before run run.file (run.first - 1) (omega (arith, first)))
          (none_before (run.first - 1) (omega arith));
      behind = or_from _ _ (not_in_behind run run.file (run.first + run.length) (omega arith))
          (none_before (run.first + run.length) (omega arith));
    }

    -- A later run is after the gap.
    later_run : (other : Run) → IsMaximal kept other
        → (home run.file < home other.file) ⊎ ((run.file ≡ other.file) × (run.first + run.length < other.first))
    later_run other is =
        let here = is.inside 0 is.some in
        let at : other.first + 0 ≡ other.first = omega arith in
        stands other.file other.first (subst (λ (n : ℕ). kept other.file n ≡ true) at here)

    still_maximal : (other : Run) → IsMaximal kept other → IsMaximal (with_run run kept) other
    still_maximal other is = record {
      some = is.some;
      inside = λ i below. rw (is.inside i below) (or-true (is_in run other.file (other.first + i)));
      before = λ first. or_from _ _ (⊎_elim
          (λ later. not_in_other run other.file (other.first - 1) (other_file home run.file other.file later))
          (λ behind. not_in_behind run other.file (other.first - 1) (omega (arith, behind.1)))
          (later_run other is)) (is.before first);
      behind = or_from _ _ (⊎_elim
          (λ later. not_in_other run other.file (other.first + other.length)
          (other_file home run.file other.file later))
          (λ behind. not_in_behind run other.file (other.first + other.length) (omega (arith, behind.1)))
          (later_run other is)) is.behind;
    }

    before_later : (other : Run) → IsMaximal kept other → comes_before home run other ≡ true
    before_later other is = ⊎_elim
        (λ later. grind (arith, nat_tests, later))
        (λ behind. let same : home run.file ≡ home other.file = ap home behind.0 in let far = behind.1 in
        grind (arith, nat_tests, same, far))
        (later_run other is)

    pub one_more : (runs : List Run) → AreRuns kept home runs → AreRuns (with_run run kept) home (run ∷ runs)
    one_more runs are = record {
      maximal = All-cons (IsMaximal (with_run run kept)) run runs own_maximal
          (All-weaker (IsMaximal kept) (IsMaximal (with_run run kept)) still_maximal runs are.maximal);
      all = λ file frame is. by_test file frame (is_in run file frame) refl is;
      order = in_order;
    }
      where
        behind : (r : Run) → Contains runs r → Contains (run ∷ runs) r
        behind r is = (suc is.0, omega (arith, is.1), is.2)

        by_test : (file frame : ℕ) (here : Bool) → is_in run file frame ≡ here
            → (is_in run file frame || kept file frame) ≡ true
            → (r : Run) × Contains (run ∷ runs) r × HasFrame file frame r
        by_test file frame true here is = (run, (0, omega arith, refl), has_frame_of run file frame here)
        by_test file frame false here is =
            let later : kept file frame ≡ true = rw here at is in
            let found = are.all file frame later in
            (found.0, behind found.0 found.1, found.2)

        in_order : (i j : ℕ) (a b : Run) → i < j → slice_get (run ∷ runs) i ≡ Some a → slice_get (run ∷ runs) j ≡ Some b
            → comes_before home a b ≡ true
        in_order i zero a b below first second = absurd (omega (arith, below))
        in_order zero (suc j) a b below first second =
            let e : run ≡ a = cc in
            subst (λ (r : Run). comes_before home r b ≡ true) e
            (before_later b (holds_there (IsMaximal kept) runs j b are.maximal second))
        in_order (suc i) (suc j) a b below first second = are.order i j a b (omega (arith, below)) first second
