-- The consolidated list: one index for each run of kept samples, one entry for each group.
use Rattle.std.specs.Prelude.{ℕ, suc, ◌+◌, ◌-◌, ◌==◌, ◌&&◌, nat_le, nat_lt, Bool, List, [], ◌∷◌, ◌++◌, length, replicate, Some, if◌then◌else◌, decimal, codes}
use Rattle.sampletime.specs.TimeCode.{default_separators}
use Rattle.sound_terms.specs.declared.Event.{Event}
use Rattle.sound_terms.specs.declared.BoundIndex.{BoundIndex}
use Rattle.sound_terms.specs.declared.piece.Home.{Home}
use Rattle.sound_terms.specs.declared.piece.Piece.{Piece}
use Rattle.sound_terms.specs.declared.piece.Placed.{Placed}
use Rattle.sound_terms.specs.declared.piece.Run.{Run}
use Rattle.sound_terms.specs.Entries.{placed_of}
use Rattle.sound_terms.specs.Homes.{base_by}
use Rattle.list_terms.specs.Project.{Source, ListProject}

-- The file name of a medium: `M`, the number with at least five digits, and `.wav`.
unfoldable pub media_name : ℕ → List ℕ
media_name number = codes "M" ++ (replicate (5 - length (decimal number)) 48 ++ (decimal number ++ codes ".wav"))

-- `renewed` of each element and its number, counted from `number`.
abbrev pub numbered : {X Y : Type 0} → (ℕ → X → Y) → ℕ → List X → List Y
numbered renewed number [] = []
numbered renewed number (x ∷ xs) = renewed number x ∷ numbered renewed (suc number) xs

-- Whether the run contains this sample frame of its file.
abbrev pub is_in_run : (file frame : ℕ) → Run → Bool
is_in_run file frame run = run.file == file && (nat_le run.first frame && nat_lt frame (run.first + run.length))

-- The number of the first run that contains the sample frame, if the first run has number `number`.
abbrev pub run_number : ℕ → List Run → (file frame : ℕ) → ℕ
run_number number [] file frame = number
run_number number (run ∷ runs) file frame =
    if is_in_run file frame run then number else run_number (suc number) runs file frame

-- The time of a run's first sample, in samples after midnight.
abbrev pub run_base : List Home → Run → ℕ
run_base homes run = base_by homes run.file + run.first

-- The index of a run: its medium, starting at the time of the run's first sample.
abbrev pub run_source : List Home → ℕ → Run → Source
run_source homes number run = record {
  number = number;
  url = codes "URL:file://localhost/" ++ media_name number;
  uid = codes "_";
  start = Some (run_base homes run);
  length = Some run.length;
}

-- The entry of a group, which plays the run that contains its first sample frame.
abbrev pub run_event : List Home → List Run → ℕ → Placed → Event
run_event homes runs number placed = record {
  number = number;
  index = run_number 1 runs placed.file placed.frame;
  source = record { first = placed.first; last = (placed.first + placed.width) - 1 };
  dest = record { first = placed.dest; last = (placed.dest + placed.width) - 1 };
  source_in = base_by homes placed.file + placed.frame;
  dest_in = placed.start;
  dest_out = placed.start + placed.length;
  rise = record { length = placed.rise };
  fall = record { length = placed.fall };
}

-- The bound indexes of the consolidated list.
abbrev pub run_index : List Home → ℕ → Run → BoundIndex
run_index homes number run =
    record { number = number; file = number - 1; base = run_base homes run; addressable = run.length }

-- The bound indexes of all runs, numbered from 1.
abbrev pub run_indexes : List Home → List Run → List BoundIndex
run_indexes homes runs = numbered (run_index homes) 1 runs

-- The separators of a project, or the default ones if it has no entry.
abbrev pub separators_for : List Event → List ℕ → List ℕ
separators_for [] separators = default_separators
separators_for (event ∷ events) separators = separators

-- The project with these sources and events, the same header and no notices.
abbrev pub with_lists : ListProject → List Source → List Event → ListProject
with_lists project sources events = record project {
  sources = sources;
  events = events;
  separators = separators_for events project.separators;
  notices = [];
}

-- The consolidated project for these groups and runs.
abbrev pub consolidated_project : ListProject → List Home → List (List Piece) → List Run → ListProject
consolidated_project project homes groups runs =
    with_lists project (numbered (run_source homes) 1 runs) (numbered (run_event homes runs) 1 (placed_of groups))
