-- Entries of a list as groups of pieces, and groups as entries.
use Rattle.std.specs.Prelude.{ℕ, ◌+◌, ◌-◌, ◌≤◌, nat_le, nat_lt, ◌&&◌, ℤ, pos, List, [], ◌∷◌, ◌++◌, Option, None, Some, if◌then◌else◌}
use Rattle.std.specs.List.{flat_map, sum_by}
use Rattle.sampletime.specs.TimeCode.{day}
use Rattle.sound_terms.specs.declared.Event.{Event}
use Rattle.sound_terms.specs.declared.BoundIndex.{BoundIndex}
use Rattle.sound_terms.specs.declared.piece.Piece.{Piece}
use Rattle.sound_terms.specs.declared.piece.Placed.{Placed}
use Rattle.sound_terms.specs.declared.piece.Shape.{Shape}
use Rattle.sound_terms.specs.declared.piece.Shape.TheVariants.{Flat, Rise, Fall}
use Rattle.sound_terms.specs.Mix.{Reading, fade_fraction, index_of, share_of}
use Rattle.sound_terms.specs.Groups.{in_start_order}
use Rattle.sound_terms.specs.Passes.{as_group}

-- n samples of an event from its sample i on, with the given shape; empty if n is 0
abbrev pub stretch_of : BoundIndex → Event → (i n : ℕ) → Shape → List Piece
stretch_of index event i n shape = if nat_lt 0 n then record {
  start = event.dest_in + i;
  length = n;
  frame = (event.source_in - index.base) + i;
  file = index.file;
  first = event.source.first;
  dest = event.dest.first;
  width = (event.dest.last + 1) - event.dest.first;
  shape = shape;
} ∷ [] else []

-- the fade-in, the middle and the fade-out of an event, without empty parts
abbrev pub parts_of : BoundIndex → Event → List Piece
parts_of index event =
    let rise = event.rise.length in
    let fall = event.fall.length in
    let length = event.dest_out - event.dest_in in
    stretch_of index event 0 rise (Rise 0 rise)
    ++ (stretch_of index event rise ((length - fall) - rise) Flat
    ++ stretch_of index event (length - fall) fall (Fall 0 fall))

-- parts of an event, empty if its index is not bound
abbrev pub parts_by : Option BoundIndex → Event → List Piece
parts_by None event = []
parts_by (Some index) event = parts_of index event

-- the parts of each entry as a group, in list order, without entries that have no samples
abbrev pub groups_in_turn : List BoundIndex → List Event → List (List Piece)
groups_in_turn indexes [] = []
groups_in_turn indexes (event ∷ events) =
    as_group (parts_by (index_of indexes event.index) event) ++ groups_in_turn indexes events

-- groups of all entries, ordered by destination in, then by list order
abbrev pub groups_of_entries : List BoundIndex → List Event → List (List Piece)
groups_of_entries indexes events = in_start_order (groups_in_turn indexes events)

-- the event is possible in an accepted list, with this index
pub record IsPlayable (index : BoundIndex) (event : Event) : Type 0 where
  pub in_order : event.dest_in ≤ event.dest_out
  pub in_day : event.dest_out ≤ day
  pub fades : event.rise.length + event.fall.length ≤ event.dest_out - event.dest_in
  pub source_from_one : 1 ≤ event.source.first
  pub dest_from_one : 1 ≤ event.dest.first
  pub some : event.dest.first ≤ event.dest.last
  pub dest_to_64 : event.dest.last ≤ 64
  pub source_to_64 : event.source.first + (event.dest.last - event.dest.first) ≤ 64
  pub source_in_day : (event.source_in - index.base) + (event.dest_out - event.dest_in) ≤ day

-- total length of the pieces of a group
abbrev pub length_of_group : List Piece → ℕ
length_of_group group = sum_by (λ p. p.length) group

-- number of samples of a piece in a fade-in, and in a fade-out
abbrev pub rising_in : Piece → ℕ
rising_in p = of_shape p.shape where
  of_shape : Shape → ℕ
  of_shape Flat = 0
  of_shape (Rise offset den) = p.length
  of_shape (Fall offset den) = 0

abbrev pub falling_in : Piece → ℕ
falling_in p = of_shape p.shape where
  of_shape : Shape → ℕ
  of_shape Flat = 0
  of_shape (Rise offset den) = 0
  of_shape (Fall offset den) = p.length

-- event of a group that starts with piece p
abbrev pub placed_by : Piece → List Piece → Placed
placed_by p group = record {
  start = p.start;
  length = length_of_group group;
  frame = p.frame;
  file = p.file;
  first = p.first;
  dest = p.dest;
  width = p.width;
  rise = sum_by rising_in group;
  fall = sum_by falling_in group;
}

-- event of a group, empty for an empty group
abbrev pub event_of : List Piece → List Placed
event_of [] = []
event_of (p ∷ ps) = placed_by p (p ∷ ps) ∷ []

-- one event for each group
abbrev pub placed_of : List (List Piece) → List Placed
placed_of groups = flat_map event_of groups

-- value that such an event adds to one channel at one time
abbrev pub placed_part : Reading → Placed → ℕ → ℕ → ℤ
placed_part reading e channel time =
    if nat_le e.dest channel && (nat_lt channel (e.dest + e.width)
    && (nat_le e.start time && nat_lt time (e.start + e.length)))
    then share_of (reading e.file (e.first + (channel - e.dest)) (e.frame + (time - e.start)))
    (fade_fraction e.rise e.fall e.length (time - e.start))
    else pos 0
