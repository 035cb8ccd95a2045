-- Merging spans one by one.
use Rattle.std.proofs.Common.{◌≡◌, true, false, List, [], ◌∷◌, ◌++◌, refl, ◌∙◌}
use Rattle.std.proofs.lemmas.List.{append_assoc}
use Rattle.sound_terms.specs.declared.piece.Run.{Run}
use Rattle.mediaset.specs.Spans.{joined, merged, run_of, touches}
use Rattle.mediaset.specs.declared.spans.Span.{Span}

pub taken_in : (held next : Span) (spans : List Span) (runs : List Run) → touches held next ≡ true
    → runs ++ merged (joined held next) spans ≡ runs ++ merged held (next ∷ spans)
taken_in held next spans runs touch = rw touch refl

pub taken_behind : (held next : Span) (spans : List Span) (runs : List Run) → touches held next ≡ false
    → (runs ++ run_of held ∷ []) ++ merged next spans ≡ runs ++ merged held (next ∷ spans)
taken_behind held next spans runs apart = append_assoc runs (run_of held ∷ []) (merged next spans) ∙ rw apart refl
