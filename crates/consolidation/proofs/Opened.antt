-- The files that a project is bound to are there, with all of their frames.
use Rattle.std.proofs.Common.{◌≡◌, ℕ, ◌+◌, ◌*◌, ◌/◌, ◌≤◌, true, bytes_eq, codes, List, [], ◌∷◌, ◌++◌, length, All, Option, None, Some, IfSome, Result, Ok, Err, IfOk, refl, arith, div-mul-le_self, unwrap_or}
use Rattle.std.specs.List.{list_any}
use Rattle.std.proofs.lemmas.Bool.Decides.{nat_tests}
use Rattle.std.proofs.lemmas.List.Elements.{All-map, All-nil, All-push}
use Rattle.std.proofs.lemmas.List.Folds.{find-append}
use Rattle.std.proofs.lemmas.Result.{IfOk-at_ok}
use Rattle.std.proofs.lemmas.Slice.Eq.{bytes_eq-Decides}
use Rattle.sound_terms.specs.declared.Chunks.{Chunks}
use Rattle.sound_terms.specs.declared.Event.{Event}
use Rattle.sound_terms.specs.Chunks.{Chunk, counted_ids, first_of}
use Rattle.sound_terms.specs.Depth.{bits_of}
use Rattle.sound_terms.specs.Formats.{format_of}
use Rattle.sound_terms.specs.Sounds.{SoundFacts, bytes_of_span}
use Rattle.sound_terms.specs.SoundFiles.{sound_of}
use Rattle.sound_terms.specs.Walks.{checked_chunks, chunks_in, first_chunk_fault, layout_of, walked}
use Rattle.work_terms.specs.Disk.{Files}
use Rattle.list_terms.specs.Binding.{Binding, OpenedFile, nothing_bound}
use Rattle.list_terms.specs.Bound.{binding_of, bound_source, bound_to_new, file_refusal, sound_under, with_source, with_sources}
use Rattle.list_terms.specs.Heard.{sounds_of}
use Rattle.list_terms.specs.Names.{Place, place_of_url}
use Rattle.list_terms.specs.Project.{ListProject, Source}
use Rattle.list_terms.specs.StepLaws.{err_map_ok}
use Rattle.list_terms.specs.Steps.{◌>>=◌, err_map}
use Rattle.consolidation.specs.There.{AreThere, IsThere}

-- what each value of a first step leads to holds of both steps
then_ok : {A B E : Type 0} (first : Result A E) (next : A → Result B E) (P : B → Type 0)
    → ((x : A) → first ≡ Ok x → IfOk (next x) P) → IfOk (first >>= next) P
then_ok (Ok x) next P each = each x refl
then_ok (Err fault) next P each = tt

-- the contents of the chunk end inside a file of this length
abbrev EndsInside : ℕ → Chunk → Type 0
EndsInside end chunk = chunk.at + unwrap_or chunk.size 0 ≤ end

-- so do those of the first chunk of a counted id, where none of the chunks is at fault
first_inside : (end : ℕ) (id : List ℕ) (before chunks : List Chunk) → list_any (bytes_eq id) counted_ids ≡ true
    → first_of id before ≡ None → first_chunk_fault end before chunks ≡ None
    → IfSome (first_of id chunks) (EndsInside end)
first_inside end id before [] counted new sound = tt
first_inside end id before (chunk ∷ chunks) counted new sound =
    let behind = find-append (λ (k : Chunk). bytes_eq k.id id) before (chunk ∷ []) in
    let own = bytes_eq-Decides chunk.id id in
    let later = first_inside end id (before ++ chunk ∷ []) chunks counted in
    grind (arith, nat_tests, behind, own, counted, new, sound, later)

-- the samples end inside a file of this length
abbrev SamplesInside : ℕ → Chunks → Type 0
SamplesInside end chunks = chunks.sound.at + chunks.sound.length ≤ end

-- so they do in a file without a fault
checked_inside : (end : ℕ) (all : List Chunk) → IfOk (checked_chunks end all) (SamplesInside end)
checked_inside end all = grind (arith, first_inside end (codes "data") [] all refl refl)

walked_inside : (file : List ℕ) → IfOk (walked file) (SamplesInside (length file))
walked_inside file = then_ok (layout_of file) _ (SamplesInside (length file))
    (λ layout is. checked_inside (length file) (chunks_in file layout))

module _ (files : Files) where
  -- a file that is read is there under the name under which it is read, with the frames that it tells
  read_there : (name file : List ℕ) → files name ≡ Some file → IfOk (sound_of name file) (IsThere files)
  read_there name file there =
      then_ok (walked file) _ (IsThere files) (λ chunks is.
      then_ok (format_of (bytes_of_span file chunks.format)) _ (IsThere files) (λ format told.
      let inside = IfOk-at_ok (SamplesInside (length file)) is (walked_inside file) in
      let few = div-mul-le_self chunks.sound.length (format.channels * (bits_of format.depth / 8)) in
      record { file = file; there = there; frames = omega (arith, few, inside) }))

  -- so is one whose sound is told
  under_there : (name : List ℕ) (stored : Option (List ℕ)) (facts : SoundFacts) → files name ≡ stored
      → sound_under name stored ≡ Ok facts → IsThere files facts
  under_there name None facts there read = absurd (cc)
  under_there name (Some file) facts there read =
      IfOk-at_ok (IsThere files) (err_map_ok _ _ facts read) (read_there name file there)

  abbrev IsFound : OpenedFile → Type 0
  IsFound opened = IsThere files opened.facts

  -- all files of the binding are there
  abbrev AreFound : Binding → Type 0
  AreFound binding = All IsFound binding.files

  -- so they are where an index is bound to a new file, and to a file at any place
  new_there : (binding : Binding) (source : Source) (place : Place) → AreFound binding
      → IfOk (bound_to_new files binding source place) AreFound
  new_there binding source place found =
      let sound = err_map (file_refusal source place) (sound_under place.name (files place.name)) in
      then_ok sound _ AreFound (λ facts read.
      All-push IsFound binding.files (record { path = place.path; facts = facts }) found
      (under_there place.name (files place.name) facts refl (err_map_ok _ _ facts read)))

  place_there : (binding : Binding) (source : Source) (place : Option Place) → AreFound binding
      → IfOk (bound_source files binding source place) AreFound
  place_there binding source place found = grind (arith, found, new_there binding source)

  source_there : (events : List Event) (binding : Binding) (source : Source) → AreFound binding
      → IfOk (with_source files events binding source) AreFound
  source_there events binding source found =
      grind (arith, found, place_there binding source (place_of_url source.url) found)

  -- and with all indexes
  sources_there : (events : List Event) (binding : Binding) (sources : List Source) → AreFound binding
      → IfOk (with_sources files events binding sources) AreFound
  sources_there events binding [] found = found
  sources_there events binding (source ∷ sources) found =
      then_ok (with_source files events binding source) _ AreFound (λ next bound.
      sources_there events next sources (IfOk-at_ok AreFound bound (source_there events binding source found)))

-- the files of a binding are there
pub bound_there : (project : ListProject) (files : Files) (binding : Binding) → binding_of project files ≡ Ok binding
    → AreThere files (sounds_of binding)
bound_there project files binding bound =
    All-map (IsThere files) (λ (opened : OpenedFile). opened.facts) binding.files (IfOk-at_ok (AreFound files) bound
    (sources_there files project.events nothing_bound project.sources (All-nil (IsFound files))))
