-- The binding of a project's used indexes over the given files, or the first refusal in index order.
use Rattle.std.specs.Prelude.{ℕ, List, [], ◌∷◌, ◌++◌, length, Option, None, Some, Result, Ok, Err, true, false, if◌then◌else◌, slice_get}
use Rattle.sound_terms.specs.declared.Event.{Event}
use Rattle.sound_terms.specs.SoundFault.{number_of}
use Rattle.sound_terms.specs.Sounds.{SoundFacts}
use Rattle.sound_terms.specs.SoundFiles.{sound_of}
use Rattle.work_terms.specs.Disk.{Files}
use Rattle.work_terms.specs.Refusals.{Refusal, IndexFile}
use Rattle.list_terms.specs.Project.{Source, ListProject}
use Rattle.list_terms.specs.Names.{Place, place_of_url}
use Rattle.list_terms.specs.Steps.{◌>>=◌, err_map}
use Rattle.list_terms.specs.Binding.{Binding, nothing_bound, is_used, file_named, with_index, with_known_file}

-- The facts of the file with this name, or its fault number; 21 if there is no such file.
abbrev pub sound_under : List ℕ → Option (List ℕ) → Result SoundFacts ℕ
sound_under name None = Err 21
sound_under name (Some file) = err_map number_of (sound_of name file)

-- The refusal of an index because of its file.
abbrev pub file_refusal : Source → Place → ℕ → Refusal
file_refusal source place number = record { number = number; location = IndexFile source.number place.name; late = false }

-- The binding with an index of a file that isn't opened yet.
abbrev pub bound_to_new : Files → Binding → Source → Place → Result Binding Refusal
bound_to_new files binding source place =
    err_map (file_refusal source place) (sound_under place.name (files place.name)) >>= (λ facts.
    Ok (with_index binding source (length binding.files) facts true
    (binding.files ++ record { path = place.path; facts = facts } ∷ [])))

-- The binding with one more index, which opens its file if no earlier index did.
abbrev pub bound_by : Files → Binding → Source → Place → Option ℕ → Result Binding Refusal
bound_by files binding source place None = bound_to_new files binding source place
bound_by files binding source place (Some file) =
    with_known_file binding source place file (slice_get binding.files file)

-- The binding with one more used index. In a project that was read, every URL names a file.
abbrev pub bound_source : Files → Binding → Source → Option Place → Result Binding Refusal
bound_source files binding source None = Ok binding
bound_source files binding source (Some place) =
    bound_by files binding source place (file_named place.name binding.files)

-- The binding with one more index; an unused index only adds notice 3.
abbrev pub with_source : Files → List Event → Binding → Source → Result Binding Refusal
with_source files events binding source =
    if is_used events source.number then bound_source files binding source (place_of_url source.url)
    else Ok (record binding { notices = binding.notices ++ record { kind = 3; at = source.number } ∷ [] })

-- The binding with all these indexes added in order, or the first refusal.
abbrev pub with_sources : Files → List Event → Binding → List Source → Result Binding Refusal
with_sources files events binding [] = Ok binding
with_sources files events binding (source ∷ sources) =
    with_source files events binding source >>= (λ next. with_sources files events next sources)

-- The binding of a project over the given files, or the first refusal in index order.
abbrev pub binding_of : ListProject → Files → Result Binding Refusal
binding_of project files = with_sources files project.events nothing_bound project.sources
