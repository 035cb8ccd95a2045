-- One more source, whose file is already open or is opened for it.
use Rattle.std.proofs.Common.{◌≡◌, ◌∙◌, ℕ, zero, suc, ◌<◌, Bool, true, false, not, bytes_eq, List, [], ◌∷◌, ◌++◌, length, Option, None, Some, Result, Ok, Err, MatchBool, refl, sym, ap, arith, ltb, ltb-true, option_map, unwrap_or}
use Rattle.std.specs.List.{position, position_or_len, slice_get}
use Rattle.std.proofs.lemmas.Bool.{not-false, not-true}
use Rattle.sound_terms.specs.declared.BoundIndex.{BoundIndex}
use Rattle.sound_terms.specs.Sounds.{SoundFacts}
use Rattle.sound_terms.specs.SoundFiles.{sound_of}
use Rattle.sound_terms.specs.SoundFault as sound
use Rattle.sound_terms.specs.declared.SoundFault.{SoundFault}
use Rattle.sound_terms.specs.declared.SoundFault.TheVariants.{NotWave, NoFormat, NoData, Truncated, BadFormat, BadDs64, WrongRate}
use Rattle.work_terms.specs.Disk.{Files}
use Rattle.work_terms.specs.Refusals.{Index, is_excused}
use Rattle.list_terms.specs.declared.Notice.{Notice}
use Rattle.list_terms.specs.Names.{Place, place_of_url}
use Rattle.list_terms.specs.Project.{Source}
use Rattle.list_terms.specs.Binding.{Binding, OpenedFile, file_named, with_index, with_known_file}
use Rattle.list_terms.specs.Bound.{bound_to_new, sound_under}
use Rattle.riff.specs.declared.fault.MediaFault.{MediaFault}
use Rattle.riff.specs.Fault.{as_media, media_fault, number_of}
use Rattle.wavread.specs.Facts.{sound_of_file}
use Rattle.sourceindex.specs.declared.fault.SourceFault.TheVariants.{Media}
use Rattle.sourceindex.specs.Fault.{name_of_source, refusal_of_source}
use Rattle.sourceindex.proofs.BoundLaws.{get_last}

element_at : {X : Type 0} (xs : List X) (i : ℕ) → i < length xs → (x : X) × (slice_get xs i ≡ Some x)
element_at [] i below = absurd (omega (arith, below))
element_at (x ∷ xs) zero below = (x, refl)
element_at (x ∷ xs) (suc i) below = element_at xs i (omega (arith, below))

-- A position that was found is within the list.
found_within : {X : Type 0} (p : X → Bool) (xs : List X) (place : ℕ) → position p xs ≡ Some place → place < length xs
found_within p xs place found = by_test (ltb (position_or_len p xs) (length xs)) refl where
  by_test : (within : Bool) → ltb (position_or_len p xs) (length xs) ≡ within → place < length xs
  by_test true within =
      let e : Some (position_or_len p xs) ≡ Some place = sym (rw within refl) ∙ found in
      let same : position_or_len p xs ≡ place = cc in
      omega (arith, same, ltb-true (position_or_len p xs) (length xs) within)
  by_test false past = let e : None ≡ Some place = sym (rw past refl) ∙ found in cc

-- The file found by its name.
pub found_file : (name : List ℕ) (files : List OpenedFile) (place : ℕ) → file_named name files ≡ Some place
    → (file : OpenedFile) × (slice_get files place ≡ Some file)
found_file name files place found =
    element_at files place (found_within (λ (f : OpenedFile). bytes_eq f.facts.name name) files place found)

-- The file is already open.
module _ (binding : Binding) (source : Source) (place : Place) (file : ℕ)
    (found : file_named place.name binding.files ≡ Some file) where
  opened : (o : OpenedFile) × (slice_get binding.files file ≡ Some o)
  opened = found_file place.name binding.files file found

  -- The paths of the file and of the source, as they were read.
  module _ (own other : List ℕ)
      (own_is : (o : OpenedFile) → slice_get binding.files file ≡ Some o → own ≡ o.path) (other_is : other ≡ place.path) where
    same_test : bytes_eq own other ≡ bytes_eq opened.0.path place.path
    same_test = ap (λ (p : List ℕ). bytes_eq p other) (own_is opened.0 opened.1) ∙ ap (bytes_eq opened.0.path) other_is

    -- The source names the file by another path.
    pub known_refused : not (bytes_eq own other) ≡ true
        → with_known_file binding source place file (slice_get binding.files file)
        ≡ Err (record { number = 30; location = Index source.number; late = false })
    known_refused told =
        let apart : bytes_eq opened.0.path place.path ≡ false = sym same_test ∙ not-true (bytes_eq own other) told in
        rw (opened.1, apart) refl

    pub known_added : not (bytes_eq own other) ≡ false → (new : Binding)
        → ((o : OpenedFile) → slice_get binding.files file ≡ Some o
        → new ≡ with_index binding source file o.facts false binding.files)
        → with_known_file binding source place file (slice_get binding.files file) ≡ Ok new
    known_added told new added =
        let same : bytes_eq opened.0.path place.path ≡ true = sym same_test ∙ not-false (bytes_eq own other) told in
        rw (opened.1, same) (ap Ok (sym (added opened.0 opened.1)))

same_number : (fault : SoundFault) → sound.number_of fault ≡ number_of (media_fault fault)
same_number NotWave = refl
same_number NoFormat = refl
same_number NoData = refl
same_number Truncated = refl
same_number BadFormat = refl
same_number BadDs64 = refl
same_number WrongRate = refl

-- A refused file, by its fault number.
refused_under : (name : List ℕ) (stored : Option (List ℕ)) (fault : MediaFault) → sound_of_file name stored ≡ Err fault
    → sound_under name stored ≡ Err (number_of fault)
refused_under name None fault refused = let same : Err (number_of fault) ≡ Err 21 = let e = refused in cc in sym same
refused_under name (Some file) fault refused = by_sound (sound_of name file) refl where
  by_sound : (read : Result SoundFacts SoundFault) → sound_of name file ≡ read
      → sound_under name (Some file) ≡ Err (number_of fault)
  by_sound (Ok facts) e = let h : as_media (Ok facts) ≡ Err fault = sym (ap as_media e) ∙ refused in cc
  by_sound (Err own) e =
      let h : Err (media_fault own) ≡ Err fault = sym (ap as_media e) ∙ refused in
      let same : media_fault own ≡ fault = cc in
      rw e (ap Err (same_number own ∙ ap number_of same))

-- An accepted file.
accepted_under : (name : List ℕ) (stored : Option (List ℕ)) (facts : SoundFacts) → sound_of_file name stored ≡ Ok facts
    → sound_under name stored ≡ Ok facts
accepted_under name None facts accepted = cc
accepted_under name (Some file) facts accepted = by_sound (sound_of name file) refl where
  by_sound : (read : Result SoundFacts SoundFault) → sound_of name file ≡ read → sound_under name (Some file) ≡ Ok facts
  by_sound (Ok read) e = let h : Ok read ≡ Ok facts = sym (ap as_media e) ∙ accepted in let same : read ≡ facts = cc in
      rw e (ap Ok same)
  by_sound (Err own) e = let h : Err (media_fault own) ≡ Ok facts = sym (ap as_media e) ∙ accepted in cc

-- The reported name is the one in the URL.
named : (source : Source) (place : Place) → place_of_url source.url ≡ Some place → name_of_source source ≡ place.name
named source place url = ap (λ p. unwrap_or (option_map (λ (x : Place). x.name) p) []) url

-- The file of the source is refused.
pub new_refused : (files : Files) (binding : Binding) (source : Source) (place : Place) (fault : MediaFault)
    → place_of_url source.url ≡ Some place
    → MatchBool (is_excused (number_of fault)) (Unit {0}) (sound_of_file place.name (files place.name) ≡ Err fault)
    → MatchBool (is_excused (number_of fault)) (Unit {0})
    (bound_to_new files binding source place ≡ Err (refusal_of_source source (Media fault)))
new_refused files binding source place fault url told = by_kind (is_excused (number_of fault)) told where
  by_kind : (b : Bool) → MatchBool b (Unit {0}) (sound_of_file place.name (files place.name) ≡ Err fault)
      → MatchBool b (Unit {0}) (bound_to_new files binding source place ≡ Err (refusal_of_source source (Media fault)))
  by_kind true told = tt
  by_kind false told =
      let under = refused_under place.name (files place.name) fault told in
      let name = named source place url in
      rw (under, name) refl

-- The file of the source is opened.
pub new_added : (files : Files) (binding : Binding) (source : Source) (place : Place) (facts : SoundFacts)
    → sound_of_file place.name (files place.name) ≡ Ok facts
    → bound_to_new files binding source place
    ≡ Ok (with_index binding source (length binding.files) facts true
    (binding.files ++ record { path = place.path; facts = facts } ∷ []))
new_added files binding source place facts opened = let under =
    accepted_under place.name (files place.name) facts opened in rw under refl

-- A binding with these parts.
abbrev pub bound_parts : List OpenedFile → List BoundIndex → List Notice → Binding
bound_parts files indexes notices = record { files = files; indexes = indexes; notices = notices }

-- The index is added after the new file.
pub pushed_new : (binding new : Binding) (files : List OpenedFile) (opened : OpenedFile) (file : ℕ) (source : Source)
    → files ≡ binding.files ++ opened ∷ [] → file ≡ length binding.files
    → ((o : OpenedFile) → slice_get files file ≡ Some o
    → new ≡ with_index (record binding { files = files }) source file o.facts true files)
    → new ≡ with_index binding source (length binding.files) opened.facts true (binding.files ++ opened ∷ [])
pushed_new binding new files opened file source pushed place added =
    added opened (rw (pushed, place) (get_last binding.files opened)) ∙ rw (pushed, place) refl
