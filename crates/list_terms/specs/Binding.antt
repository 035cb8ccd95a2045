-- Bound indexes: the file of each index, the time of its first sample frame, and the number of sample frames in
-- reach.
use Rattle.std.specs.Prelude.{ℕ, ◌+◌, ◌-◌, ◌==◌, ◌&&◌, nat_lt, min, Bool, false, List, [], ◌∷◌, ◌++◌, Option, None, Some, Result, Ok, Err, if◌then◌else◌, bytes_eq, position, unwrap_or, option_map}
use Rattle.std.specs.List.{list_any}
use Rattle.sampletime.specs.TimeCode.{day}
use Rattle.sound_terms.specs.declared.Event.{Event}
use Rattle.sound_terms.specs.declared.BoundIndex.{BoundIndex}
use Rattle.sound_terms.specs.Sounds.{SoundFacts}
use Rattle.work_terms.specs.Refusals.{Refusal, Index}
use Rattle.list_terms.specs.declared.Notice.{Notice}
use Rattle.list_terms.specs.Project.{Source}
use Rattle.list_terms.specs.Names.{Place}

-- An opened file, and the path by which the first of its indexes names it.
pub record OpenedFile : Type 0 where
  pub path : List ℕ
  pub facts : SoundFacts

-- All used indexes of a project bound to their files, each file once, and the notices that arise.
pub record Binding : Type 0 where
  pub files : List OpenedFile
  pub indexes : List BoundIndex
  pub notices : List Notice

-- The empty binding.
abbrev pub nothing_bound : Binding
nothing_bound = record { files = []; indexes = []; notices = [] }

-- Whether an entry names the index.
abbrev pub is_used : List Event → ℕ → Bool
is_used events number = list_any (λ event. event.index == number) events

-- The position of the file with this name among the opened files.
abbrev pub file_named : List ℕ → List OpenedFile → Option ℕ
file_named name files = position (λ file. bytes_eq file.facts.name name) files

-- The time of a file's first sample: the index's in, or else the TimeReference of `bext` (EBU Tech 3285), or else
-- midnight.
abbrev pub base_of : Source → SoundFacts → ℕ
base_of source facts = unwrap_or source.start (unwrap_or facts.time_reference 0)

-- The number of sample frames from the first one up to the end of the file or of the day.
abbrev pub addressable_from : ℕ → SoundFacts → ℕ
addressable_from base facts = min facts.frames (day - base)

-- A notice of this kind at an index, if it is reported.
abbrev pub notice_if : Bool → ℕ → ℕ → List Notice
notice_if told kind at = if told then record { kind = kind; at = at } ∷ [] else []

-- The notices of an index: 4 if its base isn't the TimeReference; for a new file 5 (`bext` too short, ignored), 6
-- (chunks not carried over) and 7 (CodingHistory cut).
abbrev pub notices_of : Bool → Source → SoundFacts → List Notice
notices_of is_new source facts =
    notice_if (nat_lt 0 (unwrap_or (option_map
    (λ reference. (reference - base_of source facts) + (base_of source facts - reference)) facts.time_reference) 0))
    4 source.number
    ++ (notice_if (is_new && facts.short_bext) 5 source.number
    ++ (notice_if (is_new && facts.others) 6 source.number
    ++ notice_if (is_new && facts.history_cut) 7 source.number))

-- The binding with one more index, bound to the file at this position.
abbrev pub with_index : Binding → Source → ℕ → SoundFacts → Bool → List OpenedFile → Binding
with_index binding source file facts is_new files = record {
  files = files;
  indexes = binding.indexes ++ record {
    number = source.number;
    file = file;
    base = base_of source facts;
    addressable = addressable_from (base_of source facts) facts;
  } ∷ [];
  notices = binding.notices ++ notices_of is_new source facts;
}

-- The binding with an index of an opened file; refused with 30 if the index names another path.
abbrev pub with_known_file : Binding → Source → Place → ℕ → Option OpenedFile → Result Binding Refusal
with_known_file binding source place file None = Ok binding
with_known_file binding source place file (Some opened) = if bytes_eq opened.path place.path
    then Ok (with_index binding source file opened.facts false binding.files)
    else Err (record { number = 30; location = Index source.number; late = false })
