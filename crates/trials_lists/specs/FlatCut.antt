-- Flat pieces, cut in two.
use Rattle.std.specs.Prelude.{ℕ, ◌+◌, ◌-◌, ◌&&◌, nat_lt, List, [], ◌∷◌, if◌then◌else◌}
use Rattle.std.specs.List.{flat_map}
use Rattle.sound_terms.specs.declared.piece.Piece.{Piece}
use Rattle.sound_terms.specs.Groups.{in_start_order}
use Rattle.sound_terms.specs.Passes.{is_flat}

-- the first n samples of a flat piece
abbrev pub front : ℕ → Piece → Piece
front n p = record p { length = n }

-- the samples of a flat piece after the first n
abbrev pub behind : ℕ → Piece → Piece
behind n p = record p { start = p.start + n; frame = p.frame + n; length = p.length - n }

-- a group of one flat piece that starts before a time and ends after it becomes two groups; others are unchanged
abbrev pub flat_cut : ℕ → List Piece → List (List Piece)
flat_cut time [] = [] ∷ []
flat_cut time (p ∷ []) = if is_flat p.shape && (nat_lt p.start time && nat_lt time (p.start + p.length))
    then (front (time - p.start) p ∷ []) ∷ (behind (time - p.start) p ∷ []) ∷ []
    else (p ∷ []) ∷ []
flat_cut time (p ∷ q ∷ ps) = (p ∷ q ∷ ps) ∷ []

-- all groups, cut at a time
abbrev pub cut_flats : ℕ → List (List Piece) → List (List Piece)
cut_flats time groups = in_start_order (flat_map (flat_cut time) groups)
