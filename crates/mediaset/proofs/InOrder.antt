-- Spans in order yield the maximal runs of their sample frames.
use Rattle.std.proofs.Common.{◌≡◌, ◌≢◌, ℕ, ◌+◌, ◌-◌, ◌*◌, ◌<◌, ◌≤◌, Bool, true, false, List, [], ◌∷◌, refl, sym, ap, ◌∙◌, ◌⊎◌, inl, inr, ⊎_elim, arith}
use Rattle.std.specs.Prelude.{◌==◌, ◌&&◌, ◌||◌, nat_le, nat_lt, max}
use Rattle.std.specs.List.{All, list_any}
use Rattle.std.proofs.lemmas.Bool.Decides.{nat_tests}
use Rattle.std.proofs.lemmas.List.Elements.{All-cons, All-contains, All-head, All-nil, All-tail, All-weaker}
use Rattle.std.proofs.lemmas.List.Folds.{Any-from_list_any}
use Rattle.sound_terms.specs.declared.piece.Home.{Home}
use Rattle.sound_terms.specs.Homes.{AreHomes, place_by}
use Rattle.sound_terms.specs.Kept.{AreRuns}
use Rattle.mediaset.specs.Spans.{IsSpan, any_has, has_frame, joined, merged, run_of, touches}
use Rattle.mediaset.specs.declared.spans.Span.{Span}
use Rattle.mediaset.proofs.Apart.{StandsBefore, is_in, no_runs, one_more, runs_alike, with_run}

-- The keys of the spans don't decrease.
abbrev pub Rises : ℕ → List Span → Type 0
Rises low [] = Unit {0}
Rises low (s ∷ spans) = (low ≤ s.key) × Rises s.key spans

-- The order of keys is the order of positions, then of first sample frames.
keys_in_order : (place first other later : ℕ) → first < 4294967296 → later < 4294967296
    → place * 4294967296 + first ≤ other * 4294967296 + later → (place < other) ⊎ ((place ≡ other) × (first ≤ later))
keys_in_order place first other later few many rises = by_place (nat_lt place other) refl where
  by_place : (test : Bool) → nat_lt place other ≡ test → (place < other) ⊎ ((place ≡ other) × (first ≤ later))
  by_place true test = inl (grind (arith, nat_tests, test))
  by_place false test =
      let least : other ≤ place = grind (arith, nat_tests, test) in
      inr (omega (arith, least, few, many, rises), omega (arith, least, few, many, rises))

small : (homes : List Home) (s : Span) → IsSpan homes s → s.first < 4294967296
small homes s is = omega (arith, is.some, is.in_day)

-- A span with a greater key has a home at a later position, or the same home and a later first sample frame.
in_order : (homes : List Home) (s later : Span) → IsSpan homes s → IsSpan homes later → s.key ≤ later.key
    → (place_by homes s.file < place_by homes later.file)
    ⊎ ((place_by homes s.file ≡ place_by homes later.file) × (s.first ≤ later.first))
in_order homes s later is other rises =
    keys_in_order (place_by homes s.file) s.first (place_by homes later.file) later.first (small homes s is)
    (small homes later other)
    (omega (arith, is.key, other.key, rises))

-- Two files with homes at the same position are the same file.
same_file : (homes : List Home) → AreHomes homes → (s later : Span) → IsSpan homes s → IsSpan homes later
    → place_by homes s.file ≡ place_by homes later.file → s.file ≡ later.file
same_file homes are s later is other same = by_test (s.file == later.file) refl where
  by_test : (test : Bool) → (s.file == later.file) ≡ test → s.file ≡ later.file
  by_test true test = grind (arith, nat_tests, test)
  by_test false test =
      let apart : s.file ≢ later.file = λ e. grind (arith, nat_tests, test, e) in
      let one : place_by homes s.file ≡ is.home.position = rw (is.there) refl in
      let two : place_by homes later.file ≡ other.home.position = rw (other.there) refl in
      absurd (are.apart s.file later.file is.home other.home apart is.there other.there (sym one ∙ same ∙ two))

any_all : {X : Type 0} (p : X → Bool) (Q : X → Type 0) (xs : List X) → All Q xs → list_any p xs ≡ true
    → (x : X) × Q x × (p x ≡ true)
any_all p Q xs all any =
    let one = Any-from_list_any p xs any in
    (one.1, All-contains Q xs one.1 all (one.0, one.2, one.3), one.4)

-- ---- merged spans

run_has : (s : Span) (file frame : ℕ) → s.first < s.end → is_in (run_of s) file frame ≡ has_frame file frame s
run_has s file frame some =
    let whole : s.first + (s.end - s.first) ≡ s.end = omega (arith, some) in rw whole refl

module _ (homes : List Home) (are : AreHomes homes) where
  -- All sample frames kept after a span that the next one doesn't touch.
  stands_before : (s later : Span) (spans : List Span) → IsSpan homes s → All (IsSpan homes) (later ∷ spans)
      → Rises s.key (later ∷ spans)
      → touches s later ≡ false → StandsBefore (place_by homes) (run_of s) (any_has (later ∷ spans))
  stands_before s later spans is all rises apart file frame kept =
      let found =
      any_all (has_frame file frame) (λ t. IsSpan homes t × (later.key ≤ t.key)) (later ∷ spans)
      (with_keys (later ∷ spans) later.key all (omega arith, rises.1)) kept in
      by_order found.0 found.1.0 found.1.1 found.2
    where
      with_keys : (ts : List Span) (low : ℕ) → All (IsSpan homes) ts → Rises low ts
          → All (λ t. IsSpan homes t × (low ≤ t.key)) ts
      with_keys [] low all rises = All-nil (λ t. IsSpan homes t × (low ≤ t.key))
      with_keys (t ∷ ts) low all rises =
          All-cons (λ t. IsSpan homes t × (low ≤ t.key)) t ts (All-head (IsSpan homes) t ts all, rises.0)
          (All-weaker (λ u. IsSpan homes u × (t.key ≤ u.key)) (λ u. IsSpan homes u × (low ≤ u.key))
          (λ u h. (h.0, omega (arith, h.1, rises.0))) ts
          (with_keys ts t.key (All-tail (IsSpan homes) t ts all) rises.1))

      by_order : (t : Span) → IsSpan homes t → later.key ≤ t.key → has_frame file frame t ≡ true
          → (place_by homes s.file < place_by homes file) ⊎ ((s.file ≡ file) × (s.first + (s.end - s.first) < frame))
      by_order t h above has =
          let of_file : t.file ≡ file = grind (arith, nat_tests, has) in
          let from : t.first ≤ frame = grind (arith, nat_tests, has) in
          let next = All-head (IsSpan homes) later spans all in
          let his : place_by homes t.file ≡ place_by homes file = ap (place_by homes) of_file in
          ⊎_elim
          (λ further. inl (let more = place_rises later t next h above in omega (arith, further, his, more)))
          (λ here. ⊎_elim
          (λ further. inl (omega (arith, further, here.0, his)))
          (λ there.
          let one : s.file ≡ later.file = same_file homes are s later is next here.0 in
          let gap : s.end < later.first = grind (arith, nat_tests, apart, one) in
          let same : s.file ≡ t.file = same_file homes are s t is h (here.0 ∙ there.0) in
          inr (same ∙ of_file, omega (arith, gap, there.1, from, is.some)))
          (in_order homes later t next h above))
          (in_order homes s later is next rises.0)
        where
          place_rises : (a b : Span) → IsSpan homes a → IsSpan homes b → a.key ≤ b.key
              → place_by homes a.file ≤ place_by homes b.file
          place_rises a b one two rises =
              ⊎_elim (λ l. omega (arith, l)) (λ e. omega (arith, e.0)) (in_order homes a b one two rises)

  -- Two spans that touch contain, joined, the sample frames of both.
  joined_has : (s later : Span) → IsSpan homes s → IsSpan homes later → s.key ≤ later.key → touches s later ≡ true
      → (file frame : ℕ)
      → has_frame file frame (joined s later) ≡ (has_frame file frame s || has_frame file frame later)
  joined_has s later is other rises touch file frame =
      let same : s.file ≡ later.file = grind (arith, nat_tests, touch) in
      let reach : later.first ≤ s.end = grind (arith, nat_tests, touch) in
      let place : place_by homes s.file ≡ place_by homes later.file = ap (place_by homes) same in
      let from : s.first ≤ later.first = omega (arith, place, rises, is.key, other.key) in
      let some = is.some in
      let more = other.some in
      ap (λ (n : ℕ). has_frame file frame (record (joined s later) { file = n })) same
      ∙ both_have (later.file == file) s.first s.end later.first later.end frame from reach some more
      ∙ sym (ap (λ (n : ℕ). has_frame file frame (record s { file = n }) || has_frame file frame later) same)
    where
      both_have : (here : Bool) (a b c d frame : ℕ) → a ≤ c → c ≤ b → a < b → c < d
          → (here && (nat_le a frame && nat_lt frame (max b d)))
          ≡ ((here && (nat_le a frame && nat_lt frame b)) || (here && (nat_le c frame && nat_lt frame d)))
      both_have true a b c d frame from reach some more = grind (arith, nat_tests, from, reach, some, more)
      both_have false a b c d frame from reach some more = refl

  joined_span : (s later : Span) → IsSpan homes s → IsSpan homes later → IsSpan homes (joined s later)
  joined_span s later is other = record {
    some = omega (arith, is.some);
    in_day = omega (arith, is.in_day, other.in_day);
    key = is.key;
    home = is.home;
    there = is.there;
  }

  or_assoc : (a b c d : Bool) → d ≡ (a || b) → (d || c) ≡ (a || (b || c))
  or_assoc true b c d same = rw same refl
  or_assoc false b c d same = rw same refl

  -- The runs of spans in order.
  pub merged_runs : (s : Span) (spans : List Span) → IsSpan homes s → All (IsSpan homes) spans → Rises s.key spans
      → AreRuns (any_has (s ∷ spans)) (place_by homes) (merged s spans)
  merged_runs s [] is all rises =
      runs_alike (with_run (run_of s) (λ file frame. false)) (any_has (s ∷ [])) (place_by homes) (run_of s ∷ [])
      (λ file frame. ap (λ (b : Bool). b || false) (run_has s file frame is.some))
      (one_more (place_by homes) (run_of s) (λ file frame. false) (λ file frame none. absurd (cc))
      (omega (arith, is.some)) [] (no_runs (place_by homes)))
  merged_runs s (later ∷ spans) is all rises =
      by_touch (touches s later) refl
      (λ touch. merged_runs (joined s later) spans (joined_span s later is next) rest
      (above s.key rises.0 spans rises.1))
      (merged_runs later spans next rest rises.1)
    where
      next : IsSpan homes later
      next = All-head (IsSpan homes) later spans all

      rest : All (IsSpan homes) spans
      rest = All-tail (IsSpan homes) later spans all

      above : (low : ℕ) → low ≤ later.key → (ts : List Span) → Rises later.key ts → Rises low ts
      above low few [] rises = tt
      above low few (t ∷ ts) rises = (omega (arith, few, rises.0), rises.1)

      by_touch : (touch : Bool) → touches s later ≡ touch
          → (touch ≡ true → AreRuns (any_has (joined s later ∷ spans)) (place_by homes) (merged (joined s later) spans))
          → AreRuns (any_has (later ∷ spans)) (place_by homes) (merged later spans)
          → AreRuns (any_has (s ∷ later ∷ spans)) (place_by homes) (merged s (later ∷ spans))
      by_touch true touch together apart =
          rw touch (runs_alike (any_has (joined s later ∷ spans)) (any_has (s ∷ later ∷ spans)) (place_by homes)
          (merged (joined s later) spans)
          (λ file frame. or_assoc _ _ _ _ (joined_has s later is next rises.0 touch file frame)) (together refl))
      by_touch false touch together apart =
          rw touch (runs_alike (with_run (run_of s) (any_has (later ∷ spans))) (any_has (s ∷ later ∷ spans))
          (place_by homes) (run_of s ∷ merged later spans)
          (λ file frame. ap (λ (b : Bool). b || any_has (later ∷ spans) file frame) (run_has s file frame is.some))
          (one_more (place_by homes) (run_of s) (any_has (later ∷ spans))
          (stands_before s later spans is all rises touch) (omega (arith, is.some))
          (merged later spans) apart))
