-- The parts of files that entries play, and entries that play together.
use Rattle.std.specs.Prelude.{ℕ, ◌+◌, ◌-◌, ◌==◌, ◌&&◌, nat_le, nat_lt, max, min, Bool, List, [], ◌∷◌, map, Option, None, Some, option_map, slice_get, unwrap_or}
use Rattle.std.specs.List.{filter, flat_map}
use Rattle.sound_terms.specs.declared.BoundIndex.{BoundIndex}
use Rattle.sound_terms.specs.declared.Event.{Event}
use Rattle.sound_terms.specs.declared.piece.Home.{Home}
use Rattle.sound_terms.specs.declared.piece.Run.{Run}
use Rattle.sound_terms.specs.Homes.{base_by}
use Rattle.sound_terms.specs.Mix.{index_of}
use Rattle.lineage.specs.declared.played.Played.{Played}

-- The part of a file that an event plays; `base` is the time of the file's first sample.
abbrev pub played_of : (file base : ℕ) → Event → Played
played_of file base event = record {
  number = event.number;
  file = file;
  frame = event.source_in - base;
  first = event.source.first;
  start = event.dest_in;
  end = event.dest_out;
  dest = event.dest.first;
  last = event.dest.last;
}

-- The part with another entry number.
abbrev pub numbered : (number : ℕ) → Played → Played
numbered number entry = record {
  number = number;
  file = entry.file;
  frame = entry.frame;
  first = entry.first;
  start = entry.start;
  end = entry.end;
  dest = entry.dest;
  last = entry.last;
}

-- Both play the same sample of the same file at some time on some channel.
abbrev pub play_together : Played → Played → Bool
play_together a b =
    a.file == b.file && (a.frame + b.start == b.frame + a.start && (a.first + b.dest == b.first + a.dest
    && (nat_lt (max a.start b.start) (min a.end b.end) && nat_le (max a.dest b.dest) (min a.last b.last))))

-- The parts that the entries of a list play of the files of its indexes.
abbrev pub played_by : Option BoundIndex → Event → List Played
played_by None event = []
played_by (Some index) event = played_of index.file index.base event ∷ []

-- The parts that the entries of a list play, in list order.
abbrev pub given_entries : List BoundIndex → List Event → List Played
given_entries indexes events = flat_map (λ event. played_by (index_of indexes event.index) event) events

-- The file of the run that the index with this number names.
abbrev pub file_of : List Run → ℕ → ℕ
file_of runs index = unwrap_or (option_map (λ run. run.file) (slice_get runs (index - 1))) 0

-- The parts of the original sources that the entries of a consolidated list play.
abbrev pub new_entry : List Home → List Run → Event → Played
new_entry homes runs event =
    played_of (file_of runs event.index) (base_by homes (file_of runs event.index)) event

-- The parts of the original sources that the entries of a consolidated list play.
abbrev pub new_entries : List Home → List Run → List Event → List Played
new_entries homes runs events = map (new_entry homes runs) events

-- The numbers of the entries that play together with an entry.
abbrev pub numbers_of : List Played → Played → List ℕ
numbers_of given own = map (λ entry. entry.number) (filter (play_together own) given)
