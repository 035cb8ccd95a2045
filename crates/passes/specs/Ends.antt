-- Ends of pieces, and the first position of an end in a list.
use Rattle.std.specs.Prelude.{◌≡◌, ℕ, zero, suc, ◌+◌, ◌<◌, ◌==◌, ◌&&◌, nat_lt, Bool, true, false, List, [], ◌∷◌, Option, None}
use Rattle.std.specs.Prelude.{Some, option_map, if◌then◌else◌}
use Rattle.std.specs.declared.cmp.Ordering.{Ordering}
use Rattle.std.specs.Ordering.{nat_cmp, ordering_then}
use Rattle.std.specs.BTreeSet.{BTreeSet, contains}
use Rattle.sound_terms.specs.declared.piece.Piece.{Piece}
use Rattle.sound_terms.specs.Groups.{rank_of}
use Rattle.sound_terms.specs.Passes.{is_flat}
use Rattle.passes.specs.declared.ends.End.{End}

-- the end of a piece
abbrev pub end_of : Piece → End
end_of p = record {
  rank = rank_of p.shape;
  start = p.start + p.length;
  frame = p.frame + p.length;
  file = p.file;
  first = p.first;
  dest = p.dest;
  width = p.width;
}

-- the end that a piece continues if the shape before it has the given rank
abbrev pub end_before : ℕ → Piece → End
end_before rank p = record {
  rank = rank;
  start = p.start;
  frame = p.frame;
  file = p.file;
  first = p.first;
  dest = p.dest;
  width = p.width;
}

-- the piece of a group that consists of one flat piece
abbrev pub flat_alone : List Piece → Option Piece
flat_alone [] = None
flat_alone (p ∷ []) = if is_flat p.shape then Some p else None
flat_alone (p ∷ q ∷ ps) = None

-- the end of such a piece
abbrev pub flat_end : List Piece → Option End
flat_end group = option_map end_of (flat_alone group)

-- the last piece of a group
abbrev pub last_piece : List Piece → Option Piece
last_piece [] = None
last_piece (p ∷ []) = Some p
last_piece (p ∷ q ∷ ps) = last_piece (q ∷ ps)

-- the end of a group: the end of its last piece
abbrev pub group_end : List Piece → Option End
group_end group = option_map end_of (last_piece group)

-- two ends agree in all fields
abbrev pub is_same : End → End → Bool
is_same a b =
    a.rank == b.rank && (a.start == b.start && (a.frame == b.frame && (a.file == b.file
    && (a.first == b.first && (a.dest == b.dest && a.width == b.width)))))

-- the mark is this end
abbrev pub is_end : End → Option End → Bool
is_end end None = false
is_end end (Some mark) = is_same end mark

-- a piece continues this end, after a shape of lower rank
abbrev pub follows : Piece → Option End → Bool
follows p None = false
follows p (Some end) = nat_lt end.rank (rank_of p.shape) && is_same (end_before end.rank p) end

-- the first piece of a group continues this end
abbrev pub group_follows : List Piece → Option End → Bool
group_follows [] mark = false
group_follows (p ∷ ps) mark = follows p mark

-- the element at this position exists and passes the test
abbrev pub holds_at : {X : Type 0} → (X → Bool) → List X → ℕ → Bool
holds_at test [] place = false
holds_at test (x ∷ xs) zero = test x
holds_at test (x ∷ xs) (suc place) = holds_at test xs place

-- the position is the first that passes the test; it is none if no element passes
abbrev pub IsFirst : {X : Type 0} → (X → Bool) → List X → Option ℕ → Type 0
IsFirst test xs None = (place : ℕ) → holds_at test xs place ≡ false
IsFirst test xs (Some first) =
    (holds_at test xs first ≡ true) × ((place : ℕ) → place < first → holds_at test xs place ≡ false)

-- the smaller of two optional positions
abbrev pub earlier : Option ℕ → Option ℕ → Option ℕ
earlier None other = other
earlier (Some one) None = Some one
earlier (Some one) (Some other) = if nat_lt other one then Some other else Some one

-- order of ends: by start, then by position in the file, file, rank and channels
abbrev pub end_cmp : End → End → Ordering
end_cmp a b =
    ordering_then (nat_cmp a.start b.start) (ordering_then (nat_cmp a.frame b.frame)
    (ordering_then (nat_cmp a.file b.file)
    (ordering_then (nat_cmp a.rank b.rank) (ordering_then (nat_cmp a.first b.first)
    (ordering_then (nat_cmp a.dest b.dest) (nat_cmp a.width b.width))))))

-- order of index entries: by end, then by position
abbrev pub place_cmp : End × ℕ → End × ℕ → Ordering
place_cmp a b = ordering_then (end_cmp a.0 b.0) (nat_cmp a.1 b.1)

-- the index has exactly the positions of each mark in the list
abbrev pub IsIndexOf : List (Option End) → BTreeSet (End × ℕ) → Type 0
IsIndexOf marks places =
    (end : End) (place : ℕ) → contains place_cmp places (end, place) ≡ holds_at (is_end end) marks place
