-- The stages of the refusals of a list.
use Rattle.std.proofs.Common.{◌≡◌, ℕ, ◌≤◌, Bool, true, false, List, [], ◌∷◌, Option, None, Some, arith, refl}
use Rattle.std.specs.Prelude.{IfErr, IfSome, Result, Ok, Err, MatchBool, ⊤, option_map, slice_get, bytes_eq}
use Rattle.std.proofs.lemmas.Bool.Decides.{nat_tests}
use Rattle.sound_terms.specs.declared.Event.{Event}
use Rattle.sound_terms.specs.declared.BoundIndex.{BoundIndex}
use Rattle.sound_terms.specs.declared.SoundFault.{SoundFault}
use Rattle.sound_terms.specs.declared.SoundFault.TheVariants.{NotWave, NoFormat, NoData, Truncated, BadFormat, BadDs64, WrongRate}
use Rattle.sound_terms.specs.Mix.{index_of}
use Rattle.sound_terms.specs.SoundFault.{number_of}
use Rattle.sound_terms.specs.SoundFiles.{sound_of}
use Rattle.sound_terms.specs.Sounds.{SoundFacts}
use Rattle.work_terms.specs.Disk.{Files}
use Rattle.work_terms.specs.Refusals.{ComesInTurn, IsDue, Refusal, is_excused, turn_of}
use Rattle.list_terms.specs.Names.{Place, place_of_url}
use Rattle.list_terms.specs.Project.{ListProject, Source}
use Rattle.list_terms.specs.Binding.{Binding, OpenedFile, file_named, is_used, nothing_bound, with_known_file}
use Rattle.list_terms.specs.Bound.{binding_of, bound_by, bound_source, bound_to_new, sound_under, with_source, with_sources}
use Rattle.list_terms.specs.Accepted.{entry_fault, entry_refusal, event_fault, first_fault, span_fault}
use Rattle.list_terms.specs.Heard.{bound_fault, project_fault}
use Rattle.list_terms.specs.Text.{text_value}

-- ---- stage 2: files

-- a refusal of binding is about a file and isn't late
record IsOfFiles (refusal : Refusal) : Type 0 where
  number : (21 ≤ refusal.number) × (refusal.number ≤ 31)
  early : refusal.late ≡ false

sound_fault : (fault : SoundFault) → (21 ≤ number_of fault) × (number_of fault ≤ 31)
sound_fault NotWave = (omega arith, omega arith)
sound_fault NoFormat = (omega arith, omega arith)
sound_fault NoData = (omega arith, omega arith)
sound_fault Truncated = (omega arith, omega arith)
sound_fault BadFormat = (omega arith, omega arith)
sound_fault BadDs64 = (omega arith, omega arith)
sound_fault WrongRate = (omega arith, omega arith)

sound_number : (name : List ℕ) (file : Option (List ℕ)) → IfErr (sound_under name file) (λ n. (21 ≤ n) × (n ≤ 31))
sound_number name None = (omega arith, omega arith)
sound_number name (Some file) = by_sound (sound_of name file) refl where
  by_sound : (sound : Result SoundFacts SoundFault) → sound_of name file ≡ sound
      → IfErr (sound_under name (Some file)) (λ (n : ℕ). (21 ≤ n) × (n ≤ 31))
  by_sound (Ok facts) is = rw is tt
  by_sound (Err fault) is = rw is (sound_fault fault)

new_refusal : (files : Files) (binding : Binding) (source : Source) (place : Place)
    → IfErr (bound_to_new files binding source place) IsOfFiles
new_refusal files binding source place =
    by_sound (sound_under place.name (files place.name)) refl (sound_number place.name (files place.name)) where
      by_sound : (sound : Result SoundFacts ℕ) → sound_under place.name (files place.name) ≡ sound
          → IfErr sound (λ (n : ℕ). (21 ≤ n) × (n ≤ 31))
          → IfErr (bound_to_new files binding source place) IsOfFiles
      by_sound (Ok facts) is number = rw is tt
      by_sound (Err n) is number = rw is (record { number = number; early = refl })

known_refusal : (binding : Binding) (source : Source) (place : Place) (file : ℕ) (opened : Option OpenedFile)
    → IfErr (with_known_file binding source place file opened) IsOfFiles
known_refusal binding source place file None = tt
known_refusal binding source place file (Some opened) = by_path (bytes_eq opened.path place.path) refl where
  by_path : (same : Bool) → bytes_eq opened.path place.path ≡ same
      → IfErr (with_known_file binding source place file (Some opened)) IsOfFiles
  by_path true is = rw is tt
  by_path false is = rw is (record { number = (omega arith, omega arith); early = refl })

bound_refusal : (files : Files) (binding : Binding) (source : Source) (place : Option Place)
    → IfErr (bound_source files binding source place) IsOfFiles
bound_refusal files binding source None = tt
bound_refusal files binding source (Some place) = by_file (file_named place.name binding.files) where
  by_file : (file : Option ℕ) → IfErr (bound_by files binding source place file) IsOfFiles
  by_file None = new_refusal files binding source place
  by_file (Some file) = known_refusal binding source place file (slice_get binding.files file)

source_refusal : (files : Files) (events : List Event) (binding : Binding) (source : Source)
    → IfErr (with_source files events binding source) IsOfFiles
source_refusal files events binding source = by_use (is_used events source.number) refl where
  by_use : (used : Bool) → is_used events source.number ≡ used
      → IfErr (with_source files events binding source) IsOfFiles
  by_use true is = rw is (bound_refusal files binding source (place_of_url source.url))
  by_use false is = rw is tt

sources_refusal : (files : Files) (events : List Event) (binding : Binding) (sources : List Source)
    → IfErr (with_sources files events binding sources) IsOfFiles
sources_refusal files events binding [] = tt
sources_refusal files events binding (source ∷ sources) =
    by_step (with_source files events binding source) refl (source_refusal files events binding source)
    (λ next. sources_refusal files events next sources)
  where
    by_step : (step : Result Binding Refusal) → with_source files events binding source ≡ step → IfErr step IsOfFiles
        → ((next : Binding) → IfErr (with_sources files events next sources) IsOfFiles)
        → IfErr (with_sources files events binding (source ∷ sources)) IsOfFiles
    by_step (Ok next) is here later = rw is (later next)
    by_step (Err refusal) is here later = rw is here

files_turn : (refusal : Refusal) → IsOfFiles refusal → turn_of refusal ≡ 2
files_turn refusal of_files = let number = of_files.number in rw (of_files.early) (grind (arith, nat_tests, number))

-- ---- stage 3: entries

span_number : (index : BoundIndex) (facts : SoundFacts) (event : Event)
    → IfSome (span_fault index facts event) (λ n. (41 ≤ n) × (n ≤ 46))
span_number index facts event = grind (arith, nat_tests)

entry_number : (binding : Binding) (event : Event) → IfSome (entry_fault binding event) (λ n. (41 ≤ n) × (n ≤ 46))
entry_number binding event = by_index (index_of binding.indexes event.index) refl where
  by_file : (index : BoundIndex) (file : Option OpenedFile) → index_of binding.indexes event.index ≡ Some index
      → slice_get binding.files index.file ≡ file
      → IfSome (entry_fault binding event) (λ (n : ℕ). (41 ≤ n) × (n ≤ 46))
  by_file index None found there = rw (found, there) (omega arith, omega arith)
  by_file index (Some file) found there = rw (found, there) (span_number index file.facts event)

  by_index : (index : Option BoundIndex) → index_of binding.indexes event.index ≡ index
      → IfSome (entry_fault binding event) (λ (n : ℕ). (41 ≤ n) × (n ≤ 46))
  by_index None found = rw found (omega arith, omega arith)
  by_index (Some index) found = by_file index (slice_get binding.files index.file) found refl

event_turn : (binding : Binding) (events : List Event) → IfSome (event_fault binding events) (λ due. 2 ≤ turn_of due)
event_turn binding [] = tt
event_turn binding (event ∷ events) =
    either (entry_fault binding event) (event_fault binding events) (entry_number binding event)
    (event_turn binding events) where
      either : (fault : Option ℕ) (behind : Option Refusal) → IfSome fault (λ (n : ℕ). (41 ≤ n) × (n ≤ 46))
          → IfSome behind (λ (due : Refusal). 2 ≤ turn_of due)
          → IfSome (first_fault (option_map (entry_refusal event) fault) behind) (λ (due : Refusal). 2 ≤ turn_of due)
      either None behind number later = later
      either (Some n) behind number later = grind (arith, nat_tests)

-- faults after the text belong to stage 2 or later
bound_turn : (project : ListProject) (bound : Result Binding Refusal) → IfErr bound IsOfFiles
    → IfSome (bound_fault project bound) (λ due. 2 ≤ turn_of due)
bound_turn project (Ok binding) of_files = event_turn binding project.events
bound_turn project (Err due) of_files = omega (arith, files_turn due of_files)

-- ---- the expected refusal

turn_positive : (refusal : Refusal) → 1 ≤ turn_of refusal
turn_positive refusal = grind (arith, nat_tests)

first_turn : (refusal : Refusal) → refusal.number ≤ 18 → refusal.late ≡ false → turn_of refusal ≡ 1
first_turn refusal few early = rw early (grind (arith, nat_tests, few))

-- a refusal of stage 1 may replace any other
first_in_turn : (refusal : Refusal) (due : Option Refusal) → turn_of refusal ≡ 1 → ComesInTurn refusal due
first_in_turn refusal None first = tt
first_in_turn refusal (Some due) first = rw first (turn_positive due)

-- a refusal of the text is the expected one or may replace it
pub text_due : (refusal : Refusal) (text : List ℕ) (files : Files) → refusal.number ≤ 18 → refusal.late ≡ false
    → MatchBool (is_excused refusal.number) ⊤ (text_value text ≡ Err refusal) → IsDue refusal (project_fault text files)
text_due refusal text files few early told = by_excuse (is_excused refusal.number) refl where
  by_excuse : (excused : Bool) → is_excused refusal.number ≡ excused → IsDue refusal (project_fault text files)
  by_excuse true is = rw is (first_in_turn refusal (project_fault text files) (first_turn refusal few early))
  by_excuse false is = let known = rw is at told in rw (is, known) refl

-- an excused refusal of binding may replace the expected one
pub files_due : (refusal : Refusal) (project : ListProject) (text : List ℕ) (files : Files)
    → text_value text ≡ Ok project → turn_of refusal ≡ 2
    → MatchBool (is_excused refusal.number) ⊤ (binding_of project files ≡ Err refusal)
    → IsDue refusal (project_fault text files)
files_due refusal project text files spelt turn told = by_excuse (is_excused refusal.number) refl where
  in_turn : (due : Option Refusal) → IfSome due (λ (d : Refusal). 2 ≤ turn_of d) → ComesInTurn refusal due
  in_turn None late = tt
  in_turn (Some due) late = omega (arith, late, turn)

  by_excuse : (excused : Bool) → is_excused refusal.number ≡ excused → IsDue refusal (project_fault text files)
  by_excuse true is =
      rw (is, spelt) (in_turn (bound_fault project (binding_of project files))
      (bound_turn project (binding_of project files)
      (sources_refusal files project.events nothing_bound project.sources)))
  by_excuse false is = let known = rw is at told in rw (is, spelt, known) refl
