-- The sample frames in the spans are exactly the kept ones.
use Rattle.std.proofs.Common.{◌≡◌, ℕ, ◌+◌, ◌-◌, ◌*◌, ◌<◌, ◌≤◌, Bool, true, false, min, if◌then◌else◌, List, [], ◌∷◌, Option, None, Some, refl, sym, ap, ◌∙◌, arith}
use Rattle.std.specs.Prelude.{◌==◌, ◌&&◌, ◌||◌, nat_le, nat_lt}
use Rattle.std.specs.List.{All, flat_map, list_any, slice_get}
use Rattle.std.proofs.Math.Bool.{and-false, and-or_distrib_left, or-false}
use Rattle.std.proofs.lemmas.Bool.Decides.{nat_tests}
use Rattle.std.proofs.lemmas.List.Elements.{All-append, All-cons, All-nil}
use Rattle.std.proofs.lemmas.List.Folds.{list_any-append}
use Rattle.sampletime.specs.TimeCode.{day}
use Rattle.sound_terms.specs.declared.piece.Home.{Home}
use Rattle.sound_terms.specs.declared.piece.Piece.{Piece}
use Rattle.sound_terms.specs.Homes.{AreHomes, addressable_by, place_by}
use Rattle.sound_terms.specs.Kept.{is_near}
use Rattle.mediaset.specs.Spans.{IsSpan, any_has, has_frame, span_of}
use Rattle.mediaset.specs.declared.spans.Span.{Span}

-- The condition for a sample frame within a handle and in reach, in plain numbers.
near : (here some : Bool) (frame h a at n : ℕ) → (some ≡ nat_lt 0 n)
    → (if nat_lt (at - h) (min (at + n + h) a) && some
    then (here && (nat_le (at - h) frame && nat_lt frame (min (at + n + h) a))) else false)
    ≡ (nat_lt frame a && (here && (some && (nat_le at (frame + h) && nat_lt frame (at + n + h)))))
near true true frame h a at n same = grind (arith, nat_tests, same)
near true false frame h a at n same = grind (arith, nat_tests, same)
near false some frame h a at n same = grind (arith, nat_tests, same)

one_span : (test : Bool) (s : Span) (file frame : ℕ)
    → any_has (if test then s ∷ [] else []) file frame ≡ (if test then has_frame file frame s else false)
one_span true s file frame = or-false (has_frame file frame s)
one_span false s file frame = refl

-- The span of a piece contains the kept sample frames of its file, and none of other files.
piece_kept : (homes : List Home) (handle : ℕ) (p : Piece) (file frame : ℕ)
    → any_has (span_of homes handle p) file frame
    ≡ (nat_lt frame (addressable_by homes file) && is_near handle file frame p)
piece_kept homes handle p file frame = by_file (p.file == file) refl where
  span : Span
  span = record {
    key = place_by homes p.file * 4294967296 + (p.frame - handle);
    file = p.file;
    first = p.frame - handle;
    end = min (p.frame + p.length + handle) (addressable_by homes p.file);
  }

  test : Bool
  test = nat_lt (p.frame - handle) (min (p.frame + p.length + handle) (addressable_by homes p.file))
      && nat_lt 0 p.length

  by_file : (here : Bool) → (p.file == file) ≡ here
      → any_has (span_of homes handle p) file frame
      ≡ (nat_lt frame (addressable_by homes file) && is_near handle file frame p)
  by_file true here =
      let same : p.file ≡ file = grind (arith, nat_tests, here) in
      one_span test span file frame
      ∙ near (p.file == file) (nat_lt 0 p.length) frame handle (addressable_by homes p.file) p.frame p.length refl
      ∙ ap (λ (n : ℕ). nat_lt frame (addressable_by homes n) && is_near handle file frame p) same
  by_file false here =
      one_span test span file frame
      ∙ near (p.file == file) (nat_lt 0 p.length) frame handle (addressable_by homes p.file) p.frame p.length refl
      ∙ rw here (and-false (nat_lt frame (addressable_by homes p.file))
      ∙ sym (and-false (nat_lt frame (addressable_by homes file))))

-- All spans of pieces.
pub pieces_kept : (homes : List Home) (handle : ℕ) (pieces : List Piece) (file frame : ℕ)
    → any_has (flat_map (span_of homes handle) pieces) file frame
    ≡ (nat_lt frame (addressable_by homes file) && list_any (is_near handle file frame) pieces)
pieces_kept homes handle [] file frame = sym (and-false (nat_lt frame (addressable_by homes file)))
pieces_kept homes handle (p ∷ ps) file frame =
    let within = nat_lt frame (addressable_by homes file) in
    list_any-append (has_frame file frame) (span_of homes handle p) (flat_map (span_of homes handle) ps)
    ∙ ap (λ (b : Bool). b || any_has (flat_map (span_of homes handle) ps) file frame)
    (piece_kept homes handle p file frame)
    ∙ ap (λ (b : Bool). (within && is_near handle file frame p) || b) (pieces_kept homes handle ps file frame)
    ∙ sym (and-or_distrib_left within (is_near handle file frame p) (list_any (is_near handle file frame) ps))

-- ---- every span is well formed

addressed : (homes : List Home) → AreHomes homes → (file : ℕ) → 0 < addressable_by homes file
    → (home : Home) × (slice_get homes file ≡ Some home) × (addressable_by homes file ≤ day)
addressed homes are file some = by_home (slice_get homes file) refl where
  by_home : (home : Option Home) → slice_get homes file ≡ home
      → (h : Home) × (slice_get homes file ≡ Some h) × (addressable_by homes file ≤ day)
  by_home None none = let e : 0 < 0 = rw none at some in absurd (omega (arith, e))
  by_home (Some home) there =
      let more : 0 < home.addressable = rw there at some in
      let few = are.in_day file home there more in
      (home, there, rw there (omega (arith, few)))

piece_spans : (homes : List Home) → AreHomes homes → (handle : ℕ) (p : Piece)
    → All (IsSpan homes) (span_of homes handle p)
piece_spans homes are handle p =
    by_test (nat_lt (p.frame - handle) (min (p.frame + p.length + handle) (addressable_by homes p.file))
    && nat_lt 0 p.length) refl where
      by_test : (test : Bool)
          → (nat_lt (p.frame - handle) (min (p.frame + p.length + handle) (addressable_by homes p.file))
          && nat_lt 0 p.length) ≡ test
          → All (IsSpan homes) (span_of homes handle p)
      by_test false test = rw test (All-nil (IsSpan homes))
      by_test true test =
          let some : p.frame - handle < min (p.frame + p.length + handle) (addressable_by homes p.file) =
          grind (arith, nat_tests, test) in
          let home = addressed homes are p.file (omega (arith, some)) in
          rw test (All-cons (IsSpan homes) _ [] (record {
            some = some;
            in_day = omega (arith, home.2);
            key = refl;
            home = home.0;
            there = home.1;
          }) (All-nil (IsSpan homes)))

pub all_spans : (homes : List Home) → AreHomes homes → (handle : ℕ) (pieces : List Piece)
    → All (IsSpan homes) (flat_map (span_of homes handle) pieces)
all_spans homes are handle [] = All-nil (IsSpan homes)
all_spans homes are handle (p ∷ ps) =
    All-append (IsSpan homes) (span_of homes handle p) (flat_map (span_of homes handle) ps)
    (piece_spans homes are handle p) (all_spans homes are handle ps)
