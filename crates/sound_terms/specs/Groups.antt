-- Sound as groups of pieces. Each piece adds samples of a file, multiplied by its shape. The grouping of the pieces
-- does not affect the sound.
use Rattle.std.specs.Prelude.{◌≡◌, ℕ, ◌+◌, ◌-◌, ◌<◌, ◌≤◌, ◌==◌, ◌&&◌, nat_lt, nat_le, Bool, true, ⊤, ℤ, pos, ◌+ℤ◌, List, [], ◌∷◌, All, IsTrue, if◌then◌else◌}
use Rattle.std.specs.List.{list_any, list_all, flat_map}
use Rattle.sampletime.specs.TimeCode.{day}
use Rattle.sound_terms.specs.declared.piece.Piece.{Piece}
use Rattle.sound_terms.specs.declared.piece.Shape.{Shape}
use Rattle.sound_terms.specs.declared.piece.Shape.TheVariants.{Flat, Rise, Fall}
use Rattle.sound_terms.specs.Mix.{Reading, share_of}

-- gain at sample i of a piece, as numerator and denominator
abbrev pub fraction_of : Shape → ℕ → ℕ × ℕ
fraction_of Flat i = (1, 1)
fraction_of (Rise offset den) i = (offset + i, den)
fraction_of (Fall offset den) i = (den - (offset + i), den)

-- the piece plays on this channel at this time
abbrev pub is_under : Piece → ℕ → ℕ → Bool
is_under p channel time =
    nat_le p.dest channel && (nat_lt channel (p.dest + p.width)
    && (nat_le p.start time && nat_lt time (p.start + p.length)))

-- value that a piece adds to one channel at one time
abbrev pub part_of : Reading → Piece → ℕ → ℕ → ℤ
part_of reading p channel time = if is_under p channel time
    then share_of (reading p.file (p.first + (channel - p.dest)) (p.frame + (time - p.start)))
    (fraction_of p.shape (time - p.start))
    else pos 0

-- exact sum of pieces
abbrev pub sum_of : Reading → List Piece → ℕ → ℕ → ℤ
sum_of reading [] channel time = pos 0
sum_of reading (p ∷ ps) channel time = part_of reading p channel time +ℤ sum_of reading ps channel time

-- pieces of all groups, in order
abbrev pub pieces_of : List (List Piece) → List Piece
pieces_of groups = flat_map (λ group. group) groups

-- exact sum of groups, for the given contents of the files
abbrev pub mix_of : Reading → List (List Piece) → ℕ → ℕ → ℤ
mix_of reading groups channel time = sum_of reading (pieces_of groups) channel time

-- number of pieces that overlap this time
abbrev pub holding : ℕ → List Piece → ℕ
holding time [] = 0
holding time (p ∷ ps) = (if nat_le p.start time && nat_lt time (p.start + p.length) then 1 else 0) + holding time ps

-- no more than n pieces overlap at any time
abbrev pub IsBounded : ℕ → List Piece → Type 0
IsBounded n pieces = (time : ℕ) → holding time pieces ≤ n

-- every sample that the piece reads is zero
abbrev pub IsSilent : Reading → Piece → Type 0
IsSilent reading p = (j i : ℕ) → j < p.width → i < p.length → reading p.file (p.first + j) (p.frame + i) ≡ pos 0

-- each piece that is reported silent is silent; pieces past the end of the shorter list are not restricted
abbrev pub Agrees : Reading → List Piece → List Bool → Type 0
Agrees reading [] silent = ⊤
Agrees reading (p ∷ ps) [] = ⊤
Agrees reading (p ∷ ps) (b ∷ silent) = (b ≡ true → IsSilent reading p) × Agrees reading ps silent

-- the sum is equal on every channel at every time, for all file contents that agree with the reported silence
abbrev pub SameMix : List (List Piece) → List Bool → List (List Piece) → Type 0
SameMix old silent new =
    (reading : Reading) → Agrees reading (pieces_of old) silent → (channel time : ℕ)
    → mix_of reading new channel time ≡ mix_of reading old channel time

-- the piece reads this sample frame of this channel and file
abbrev pub is_read : Piece → ℕ → ℕ → ℕ → Bool
is_read p file channel frame =
    p.file == file && (nat_le p.first channel && (nat_lt channel (p.first + p.width)
    && (nat_le p.frame frame && nat_lt frame (p.frame + p.length))))

-- some piece reads this sample frame of this channel and file
abbrev pub reads : List (List Piece) → ℕ → ℕ → ℕ → Bool
reads groups file channel frame = list_any (λ group. list_any (λ p. is_read p file channel frame) group) groups

-- the ramp has its full length
abbrev pub is_whole_shape : Shape → ℕ → Bool
is_whole_shape Flat n = true
is_whole_shape (Rise offset den) n = offset == 0 && den == n
is_whole_shape (Fall offset den) n = offset == 0 && den == n

-- the piece is not part of a cut ramp
abbrev pub is_whole : Piece → Bool
is_whole p = is_whole_shape p.shape p.length

-- no piece of the groups is part of a cut ramp
abbrev pub are_whole : List (List Piece) → Bool
are_whole groups = list_all (λ group. list_all is_whole group) groups

-- the later piece starts where the earlier one ends, in time and in the file, on the same channels of the same file
abbrev pub continues : Piece → Piece → Bool
continues p later =
    later.start == p.start + p.length && (later.frame == p.frame + p.length && (later.file == p.file
    && (later.first == p.first && (later.dest == p.dest && later.width == p.width))))

-- order of shapes in a group: Rise, Flat, Fall
abbrev pub rank_of : Shape → ℕ
rank_of (Rise offset den) = 0
rank_of Flat = 1
rank_of (Fall offset den) = 2

-- the later piece continues this one and comes later in the order of shapes
abbrev pub may_follow : Piece → Piece → Bool
may_follow p later = continues p later && nat_lt (rank_of p.shape) (rank_of later.shape)

-- one to three contiguous pieces in the order of shapes
abbrev pub IsGroup : List Piece → Type 0
IsGroup [] = ⊥
IsGroup (p ∷ []) = ⊤
IsGroup (p ∷ q ∷ ps) = IsTrue (may_follow p q) × IsGroup (q ∷ ps)

-- the n samples are within the full length of the ramp, which is at most a day
abbrev pub IsRamp : Shape → ℕ → Type 0
IsRamp Flat n = ⊤
IsRamp (Rise offset den) n = (offset + n ≤ den) × (den ≤ day)
IsRamp (Fall offset den) n = (offset + n ≤ den) × (den ≤ day)

-- limits of a piece
pub record IsPiece (p : Piece) : Type 0 where
  pub wide : 1 ≤ p.width
  pub source_from_one : 1 ≤ p.first
  pub source_to_64 : p.first + p.width ≤ 65
  pub dest_from_one : 1 ≤ p.dest
  pub dest_to_64 : p.dest + p.width ≤ 65
  pub some : 1 ≤ p.length
  pub in_day : p.start + p.length ≤ day
  pub source_in_day : p.frame + p.length ≤ day
  pub ramp : IsRamp p.shape p.length

-- start time of a group
abbrev pub start_of : List Piece → ℕ
start_of [] = 0
start_of (p ∷ ps) = p.start

-- start times of groups are non-decreasing
abbrev pub RiseFrom : ℕ → List (List Piece) → Type 0
RiseFrom low [] = ⊤
RiseFrom low (group ∷ groups) = (low ≤ start_of group) × RiseFrom (start_of group) groups

-- the groups are valid and sorted by start time
pub record AreGroups (groups : List (List Piece)) : Type 0 where
  pub groups_ok : All IsGroup groups
  pub pieces_ok : All (All IsPiece) groups
  pub in_order : RiseFrom 0 groups

-- inserts a group before the first group that starts no earlier
abbrev pub put_by_start : List Piece → List (List Piece) → List (List Piece)
put_by_start own [] = own ∷ []
put_by_start own (group ∷ groups) =
    if nat_le (start_of own) (start_of group) then own ∷ group ∷ groups else group ∷ put_by_start own groups

-- groups sorted by start time; the sort is stable
abbrev pub in_start_order : List (List Piece) → List (List Piece)
in_start_order [] = []
in_start_order (group ∷ groups) = put_by_start group (in_start_order groups)
