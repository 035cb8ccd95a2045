-- Spans of kept sample frames around single pieces, and the merging of spans that touch.
use Rattle.std.specs.Prelude.{◌≡◌, ℕ, ◌+◌, ◌-◌, ◌*◌, ◌<◌, ◌≤◌, ◌==◌, ◌&&◌, nat_le, nat_lt, min, max, Bool, List, [], ◌∷◌, Some, if◌then◌else◌, slice_get}
use Rattle.std.specs.List.{fold, list_any}
use Rattle.sampletime.specs.TimeCode.{day}
use Rattle.sound_terms.specs.declared.piece.Home.{Home}
use Rattle.sound_terms.specs.declared.piece.Piece.{Piece}
use Rattle.sound_terms.specs.declared.piece.Run.{Run}
use Rattle.sound_terms.specs.Homes.{addressable_by, place_by}
use Rattle.mediaset.specs.declared.spans.Span.{Span}

-- The sample frames within a handle of a piece that can be addressed, if any.
abbrev pub span_of : List Home → ℕ → Piece → List Span
span_of homes handle p =
    let first = p.frame - handle in
    let end = min (p.frame + p.length + handle) (addressable_by homes p.file) in
    if nat_lt first end && nat_lt 0 p.length
    then record { key = place_by homes p.file * 4294967296 + first; file = p.file; first = first; end = end } ∷ []
    else []

-- The span contains this sample frame of the file.
abbrev pub has_frame : ℕ → ℕ → Span → Bool
has_frame file frame s = s.file == file && (nat_le s.first frame && nat_lt frame s.end)

-- Some span contains this sample frame of the file.
abbrev pub any_has : List Span → ℕ → ℕ → Bool
any_has spans file frame = list_any (has_frame file frame) spans

-- The later span has the same file and begins within this one or at its end.
abbrev pub touches : Span → Span → Bool
touches s later = s.file == later.file && nat_le later.first s.end

-- Two spans joined into one.
abbrev pub joined : Span → Span → Span
joined s later = record s { end = max s.end later.end }

-- A span begins within another one of its file, or at its end.
abbrev pub goes_on : Span → Span → Bool
goes_on s later = s.file == later.file && (nat_le s.first later.first && nat_le later.first s.end)

-- The spans with one more, joined to the last one if possible.
abbrev pub put_span : List Span → Span → List Span
put_span [] later = later ∷ []
put_span (s ∷ []) later = if goes_on s later then joined s later ∷ [] else s ∷ later ∷ []
put_span (s ∷ t ∷ spans) later = s ∷ put_span (t ∷ spans) later

-- The spans, each joined to the one before if possible.
abbrev pub gathered : List Span → List Span
gathered spans = fold put_span [] spans

-- A span as a run.
abbrev pub run_of : Span → Run
run_of s = record { file = s.file; first = s.first; length = s.end - s.first }

-- The runs of a span and the spans after it, with those that touch merged.
abbrev pub merged : Span → List Span → List Run
merged s [] = run_of s ∷ []
merged s (later ∷ spans) = if touches s later then merged (joined s later) spans else run_of s ∷ merged later spans

-- The runs of the spans, with those that touch merged.
abbrev pub merged_all : List Span → List Run
merged_all [] = []
merged_all (s ∷ spans) = merged s spans

-- A nonempty span.
abbrev pub IsOpen : Span → Type 0
IsOpen s = s.first < s.end

-- The invariants of a span: it is nonempty and within a day, and its key has the position of its file's home, then
-- its first sample frame.
pub record IsSpan (homes : List Home) (s : Span) : Type 0 where
  pub some : s.first < s.end
  pub in_day : s.end ≤ day
  pub key : s.key ≡ place_by homes s.file * 4294967296 + s.first
  pub home : Home
  pub there : slice_get homes s.file ≡ Some home
