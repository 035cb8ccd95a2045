-- The runs of sorted spans are the maximal runs of all kept sample frames.
use Rattle.std.proofs.Common.{◌≡◌, ℕ, suc, List, [], ◌∷◌, sym, ap, ◌∙◌, arith}
use Rattle.std.specs.List.{All, flat_map}
use Rattle.std.specs.List.Sorted.{IsNonDecreasingBy, IsPermutation}
use Rattle.std.proofs.lemmas.List.Elements.{All-head, All-tail, All-weaker}
use Rattle.std.proofs.lemmas.List.Sorted.{All-permutation, list_any-IsPermutation}
use Rattle.sound_terms.specs.declared.piece.Home.{Home}
use Rattle.sound_terms.specs.declared.piece.Piece.{Piece}
use Rattle.sound_terms.specs.Groups.{pieces_of}
use Rattle.sound_terms.specs.Homes.{AreHomes, kept_of, place_by}
use Rattle.sound_terms.specs.Kept.{AreRuns}
use Rattle.mediaset.specs.Spans.{IsOpen, IsSpan, any_has, gathered, has_frame, merged_all, span_of}
use Rattle.mediaset.specs.declared.spans.Span.{Span}
use Rattle.mediaset.proofs.Apart.{no_runs, runs_alike}
use Rattle.mediaset.proofs.Gathered.{gathered_are, has_gathered}
use Rattle.mediaset.proofs.InOrder.{Rises, merged_runs}
use Rattle.mediaset.proofs.SpansKept.{all_spans, pieces_kept}

-- Keys that don't decrease.
rises : (s : Span) (spans : List Span) → IsNonDecreasingBy (λ (t : Span). t.key) (s ∷ spans) → Rises s.key spans
rises s [] order = tt
rises s (t ∷ spans) order = (
  order 0 1 s (omega arith) (omega arith),
  rises t spans (λ i j d few below. order (suc i) (suc j) d (omega (arith, few)) (omega (arith, below))),
)

pub open_spans : (homes : List Home) (spans : List Span) → All (IsSpan homes) spans → All IsOpen spans
open_spans homes spans all = All-weaker (IsSpan homes) IsOpen (λ s is. is.some) spans all

pub sorted_spans : (homes : List Home) (handle : ℕ) (groups : List (List Piece)) (spans sorted : List Span)
    → AreHomes homes
    → spans ≡ gathered (flat_map (span_of homes handle) (pieces_of groups)) → IsPermutation spans sorted
    → All (IsSpan homes) sorted
sorted_spans homes handle groups spans sorted are same moved =
    All-permutation (IsSpan homes) spans sorted moved (rw same (gathered_are homes _
    (all_spans homes are handle (pieces_of groups))))

pub all_runs : (homes : List Home) (handle : ℕ) (groups : List (List Piece)) (spans sorted : List Span) → AreHomes homes
    → spans ≡ gathered (flat_map (span_of homes handle) (pieces_of groups)) → IsPermutation spans sorted
    → IsNonDecreasingBy (λ (t : Span). t.key) sorted
    → AreRuns (kept_of groups homes handle) (place_by homes) (merged_all sorted)
all_runs homes handle groups spans sorted are same moved order =
    runs_alike (any_has sorted) (kept_of groups homes handle) (place_by homes) (merged_all sorted)
    (λ file frame. sym (list_any-IsPermutation (has_frame file frame) spans sorted moved)
    ∙ ap (λ (ss : List Span). any_has ss file frame) same
    ∙ has_gathered file frame (flat_map (span_of homes handle) (pieces_of groups))
    ∙ pieces_kept homes handle (pieces_of groups) file frame)
    (by_list sorted (sorted_spans homes handle groups spans sorted are same moved) order)
  where
    by_list : (ss : List Span) → All (IsSpan homes) ss → IsNonDecreasingBy (λ (t : Span). t.key) ss
        → AreRuns (any_has ss) (place_by homes) (merged_all ss)
    by_list [] all order = no_runs (place_by homes)
    by_list (s ∷ ss) all order =
        merged_runs homes are s ss (All-head (IsSpan homes) s ss all) (All-tail (IsSpan homes) s ss all)
        (rises s ss order)
