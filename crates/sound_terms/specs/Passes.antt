-- Results of passes over groups: each pass turns a list of groups into one that sounds the same.
use Rattle.std.specs.Prelude.{ℕ, zero, suc, ◌+◌, ◌-◌, ◌&&◌, nat_le, Bool, true, false, pos, List, [], ◌∷◌, ◌++◌, length, take, drop, map, Option, None, Some, if◌then◌else◌}
use Rattle.std.specs.List.{list_all, fold, flat_map}
use Rattle.std.specs.Ordering.{int_eq}
use Rattle.sound_terms.specs.declared.piece.Piece.{Piece}
use Rattle.sound_terms.specs.declared.piece.Shape.{Shape}
use Rattle.sound_terms.specs.declared.piece.Shape.TheVariants.{Flat, Rise, Fall}
use Rattle.sound_terms.specs.Mix.{Reading}
use Rattle.sound_terms.specs.Groups.{pieces_of, continues, may_follow, in_start_order}

-- split pass: each piece becomes a group
abbrev pub split_fades : List (List Piece) → List (List Piece)
split_fades groups = in_start_order (map (λ p. p ∷ []) (pieces_of groups))

-- shape of the rest of a piece after its first n samples
abbrev pub shape_behind : ℕ → Shape → Shape
shape_behind n Flat = Flat
shape_behind n (Rise offset den) = Rise (offset + n) den
shape_behind n (Fall offset den) = Fall (offset + n) den

-- part of a piece before this time, and part from this time on; empty if there is none
abbrev pub piece_before : ℕ → Piece → List Piece
piece_before time p =
    if nat_le time p.start then []
    else if nat_le (p.start + p.length) time then p ∷ []
    else record p { length = time - p.start } ∷ []

abbrev pub piece_behind : ℕ → Piece → List Piece
piece_behind time p =
    if nat_le time p.start then p ∷ []
    else if nat_le (p.start + p.length) time then []
    else record p {
      start = time;
      length = p.length - (time - p.start);
      frame = p.frame + (time - p.start);
      shape = shape_behind (time - p.start) p.shape;
    } ∷ []

-- a list of pieces as one group, or as none if it is empty
abbrev pub as_group : List Piece → List (List Piece)
as_group [] = []
as_group (p ∷ ps) = (p ∷ ps) ∷ []

-- both parts of a group cut at this time
abbrev pub cut_group : ℕ → List Piece → List (List Piece)
cut_group time group = as_group (flat_map (piece_before time) group) ++ as_group (flat_map (piece_behind time) group)

-- cut pass: splits every group at this time; a ramp that is cut keeps its `den`
abbrev pub cut_groups : ℕ → List (List Piece) → List (List Piece)
cut_groups time groups = in_start_order (flat_map (cut_group time) groups)

-- the first n pieces are reported silent
abbrev pub is_called : ℕ → List Bool → Bool
is_called n silent = nat_le n (length silent) && list_all (λ b. b) (take n silent)

-- silence pass: removes each group whose pieces are all reported silent
abbrev pub without_silent : List (List Piece) → List Bool → List (List Piece)
without_silent [] silent = []
without_silent (group ∷ groups) silent = if is_called (length group) silent
    then without_silent groups (drop (length group) silent)
    else group ∷ without_silent groups (drop (length group) silent)

-- the first group merged, or unchanged and followed by `put` if there is no merge
abbrev pub chosen : Option (List Piece) → List Piece → List (List Piece) → List (List Piece) → List (List Piece)
chosen None group put rest = group ∷ put
chosen (Some joined) group put rest = joined ∷ rest

-- merges a group into the first group that accepts it, or appends it at the end
abbrev pub put_to_first : (List Piece → Option (List Piece)) → List Piece → List (List Piece) → List (List Piece)
put_to_first takes own [] = own ∷ []
put_to_first takes own (group ∷ groups) = chosen (takes group) group (put_to_first takes own groups) groups

-- the shape is Flat
abbrev pub is_flat : Shape → Bool
is_flat Flat = true
is_flat (Rise offset den) = false
is_flat (Fall offset den) = false

-- flat piece of a one-piece group extended by a flat piece that continues it, or None if it does not
abbrev pub lengthened : Piece → List Piece → Option (List Piece)
lengthened later [] = None
lengthened later (p ∷ []) = if is_flat p.shape && (is_flat later.shape && continues p later)
    then Some (record p { length = p.length + later.length } ∷ []) else None
lengthened later (p ∷ q ∷ ps) = None

-- merges a group of one flat piece into the first such group that it continues; appends other groups at the end
abbrev pub put_joined : List (List Piece) → List Piece → List (List Piece)
put_joined groups [] = groups ++ [] ∷ []
put_joined groups (p ∷ []) =
    if is_flat p.shape then put_to_first (lengthened p) (p ∷ []) groups else groups ++ (p ∷ []) ∷ []
put_joined groups (p ∷ q ∷ ps) = groups ++ (p ∷ q ∷ ps) ∷ []

-- join pass: merges flat pieces that continue one another
abbrev pub join_cuts : List (List Piece) → List (List Piece)
join_cuts groups = fold put_joined [] groups

-- the first piece of the later group may follow the last piece of this group
abbrev pub is_followed_by : List Piece → List Piece → Bool
is_followed_by [] later = false
is_followed_by (p ∷ []) [] = false
is_followed_by (p ∷ []) (q ∷ qs) = may_follow p q
is_followed_by (p ∷ next ∷ ps) later = is_followed_by (next ∷ ps) later

-- group with a later group appended, or None if it may not follow
abbrev pub extended : List Piece → List Piece → Option (List Piece)
extended later group = if is_followed_by group later then Some (group ++ later) else None

-- appends a group to the first group that it may follow, or adds it at the end
abbrev pub put_grouped : List (List Piece) → List Piece → List (List Piece)
put_grouped groups later = put_to_first (extended later) later groups

-- regroup pass: appends each group to the first one that it may follow
abbrev pub regroup : List (List Piece) → List (List Piece)
regroup groups = fold put_grouped [] groups

-- n samples of a channel of a file are zero, from `frame` on
abbrev pub is_zero_channel : Reading → (file channel frame n : ℕ) → Bool
is_zero_channel reading file channel frame zero = true
is_zero_channel reading file channel frame (suc n) =
    int_eq (reading file channel frame) (pos 0) && is_zero_channel reading file channel (suc frame) n

-- n samples of `width` channels of a file are zero
abbrev pub are_zero : Reading → (file channel width frame n : ℕ) → Bool
are_zero reading file channel zero frame n = true
are_zero reading file channel (suc width) frame n =
    is_zero_channel reading file channel frame n && are_zero reading file (suc channel) width frame n

-- for each piece, in order: all samples that it reads are zero
abbrev pub silences : Reading → List (List Piece) → List Bool
silences reading groups = map (λ p. are_zero reading p.file p.first p.width p.frame p.length) (pieces_of groups)

-- result of passes in sequence; passes for which `looks` is true receive the reported silence
abbrev pub in_turn : {B : Type 0} → (B → Bool) → (B → List (List Piece) → List Bool → List (List Piece))
    → (List (List Piece) → List Bool) → List B → List (List Piece) → List (List Piece)
in_turn looks gives silent [] groups = groups
in_turn looks gives silent (pass ∷ passes) groups =
    in_turn looks gives silent passes (gives pass groups (if looks pass then silent groups else []))

-- result of the four standard passes: split, remove silence, join, regroup
abbrev pub standard_groups : Reading → List (List Piece) → List (List Piece)
standard_groups reading groups =
    let split = split_fades groups in
    regroup (join_cuts (without_silent split (silences reading split)))
