-- Joining spans preserves their invariants and the sample frames that they contain.
use Rattle.std.proofs.Common.{◌≡◌, ◌∙◌, ℕ, ◌≤◌, max, Bool, true, false, List, [], ◌∷◌, ◌++◌, refl, sym, ap, arith}
use Rattle.std.specs.Prelude.{◌==◌, ◌&&◌, ◌||◌, nat_le, nat_lt, if◌then◌else◌}
use Rattle.std.specs.List.{All, fold}
use Rattle.std.proofs.Math.Bool.{or-false, or_assoc}
use Rattle.std.proofs.lemmas.Bool.Decides.{nat_tests}
use Rattle.std.proofs.lemmas.List.Elements.{All-cons, All-head, All-nil, All-tail}
use Rattle.sound_terms.specs.declared.piece.Home.{Home}
use Rattle.mediaset.specs.Spans.{IsSpan, any_has, gathered, goes_on, has_frame, joined, put_span}
use Rattle.mediaset.specs.declared.spans.Span.{Span}

-- A span that is appended, or joined to the last one.
pub put_last : (front : List Span) (last later : Span) → put_span (front ++ last ∷ []) later
    ≡ (if goes_on last later then front ++ joined last later ∷ [] else front ++ last ∷ later ∷ [])
put_last [] last later = refl
put_last (s ∷ front) last later = put_next front ∙ by_test (goes_on last later) (put_last front last later) where
  put_next : (front : List Span) → put_span (s ∷ front ++ last ∷ []) later ≡ s ∷ put_span (front ++ last ∷ []) later
  put_next [] = refl
  put_next (t ∷ front) = refl

  by_test : (test : Bool) → put_span (front ++ last ∷ []) later
      ≡ (if test then front ++ joined last later ∷ [] else front ++ last ∷ later ∷ [])
      → s ∷ put_span (front ++ last ∷ []) later
      ≡ (if test then s ∷ front ++ joined last later ∷ [] else s ∷ front ++ last ∷ later ∷ [])
  by_test true is = ap (λ (rest : List Span). s ∷ rest) is
  by_test false is = ap (λ (rest : List Span). s ∷ rest) is

module _ (file frame : ℕ) where
  -- Two spans joined without a gap contain the sample frames of both.
  has_joined : (s later : Span) → goes_on s later ≡ true
      → has_frame file frame (joined s later) ≡ (has_frame file frame s || has_frame file frame later)
  has_joined s later on =
      let same : s.file ≡ later.file = grind (arith, nat_tests, on) in
      let from : s.first ≤ later.first = grind (arith, nat_tests, on) in
      let to : later.first ≤ s.end = grind (arith, nat_tests, on) in
      rw same (plain (later.file == file) s.first s.end later.first later.end frame from to)
    where
      plain : (here : Bool) (a b c d n : ℕ) → a ≤ c → c ≤ b
          → (here && (nat_le a n && nat_lt n (max b d)))
          ≡ ((here && (nat_le a n && nat_lt n b)) || (here && (nat_le c n && nat_lt n d)))
      plain true a b c d n from to = grind (arith, nat_tests, from, to)
      plain false a b c d n from to = refl

  has_put : (spans : List Span) (later : Span)
      → any_has (put_span spans later) file frame ≡ (any_has spans file frame || has_frame file frame later)
  has_put [] later = or-false (has_frame file frame later)
  has_put (s ∷ []) later = by_test (goes_on s later) refl where
    by_test : (test : Bool) → goes_on s later ≡ test
        → any_has (if test then joined s later ∷ [] else s ∷ later ∷ []) file frame
        ≡ ((has_frame file frame s || false) || has_frame file frame later)
    by_test true on =
        rw (or-false (has_frame file frame (joined s later)), has_joined s later on, or-false (has_frame file frame s)) refl
    by_test false off = rw (or-false (has_frame file frame later), or-false (has_frame file frame s)) refl
  has_put (s ∷ t ∷ spans) later =
      rw (has_put (t ∷ spans) later) (sym (or_assoc (has_frame file frame s) (any_has (t ∷ spans) file frame)
      (has_frame file frame later)))

  has_fold : (had spans : List Span)
      → any_has (fold put_span had spans) file frame ≡ (any_has had file frame || any_has spans file frame)
  has_fold had [] = sym (or-false (any_has had file frame))
  has_fold had (s ∷ spans) =
      has_fold (put_span had s) spans
      ∙ rw (has_put had s) (or_assoc (any_has had file frame) (has_frame file frame s) (any_has spans file frame))

  pub has_gathered : (spans : List Span) → any_has (gathered spans) file frame ≡ any_has spans file frame
  has_gathered spans = has_fold [] spans

module _ (homes : List Home) where
  joined_is : (s later : Span) → IsSpan homes s → IsSpan homes later → IsSpan homes (joined s later)
  joined_is s later is next = record {
    some = let some = is.some in omega (arith, some);
    in_day = let own = is.in_day in let other = next.in_day in omega (arith, own, other);
    key = is.key;
    home = is.home;
    there = is.there;
  }

  put_are : (spans : List Span) (later : Span) → All (IsSpan homes) spans → IsSpan homes later
      → All (IsSpan homes) (put_span spans later)
  put_are [] later are is = All-cons (IsSpan homes) later [] is (All-nil (IsSpan homes))
  put_are (s ∷ []) later are is = by_test (goes_on s later) where
    own : IsSpan homes s
    own = All-head (IsSpan homes) s [] are

    by_test : (test : Bool) → All (IsSpan homes) (if test then joined s later ∷ [] else s ∷ later ∷ [])
    by_test true = All-cons (IsSpan homes) (joined s later) [] (joined_is s later own is) (All-nil (IsSpan homes))
    by_test false =
        All-cons (IsSpan homes) s (later ∷ []) own
        (All-cons (IsSpan homes) later [] is (All-nil (IsSpan homes)))
  put_are (s ∷ t ∷ spans) later are is =
      All-cons (IsSpan homes) s (put_span (t ∷ spans) later) (All-head (IsSpan homes) s (t ∷ spans) are)
      (put_are (t ∷ spans) later (All-tail (IsSpan homes) s (t ∷ spans) are) is)

  fold_are : (had spans : List Span) → All (IsSpan homes) had → All (IsSpan homes) spans
      → All (IsSpan homes) (fold put_span had spans)
  fold_are had [] are all = are
  fold_are had (s ∷ spans) are all =
      fold_are (put_span had s) spans (put_are had s are (All-head (IsSpan homes) s spans all))
      (All-tail (IsSpan homes) s spans all)

  pub gathered_are : (spans : List Span) → All (IsSpan homes) spans → All (IsSpan homes) (gathered spans)
  gathered_are spans all = fold_are [] spans (All-nil (IsSpan homes)) all
