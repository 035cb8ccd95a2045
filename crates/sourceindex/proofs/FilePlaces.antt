-- Opened files with their paths, and the position of each by name.
use Rattle.std.proofs.Common.{◌≡◌, ◌∙◌, ℕ, zero, suc, ◌<◌, Bool, true, false, cond, List, [], ◌∷◌, ◌++◌, length, map, None, Some, Global, get_or, refl, sym, ap, arith, bytes_eq, string_bytes, length-append}
use Rattle.std.specs.BTreeMap as tree
use Rattle.std.specs.BTreeMap.{BTreeMap, get_by_text}
use Rattle.std.specs.Cmp.Lexicographic.{slice_cmp}
use Rattle.std.specs.List.{slice_get}
use Rattle.std.specs.Option.{option_or}
use Rattle.std.specs.Ordering.{nat_cmp}
use Rattle.std.specs.String.{string_cmp}
use Rattle.std.specs.declared.string.String.{String}
use Rattle.std.proofs.lemmas.Option.{slice_get_read}
use Rattle.std.proofs.lemmas.Slice.Eq.{bytes_eq-Decides}
use Rattle.std.proofs.lemmas.Map.Text.{btree_map_updates_text}
use Rattle.sound_terms.specs.Sounds.{SoundFacts}
use Rattle.list_terms.specs.Binding.{OpenedFile, file_named}
use Rattle.sourceindex.specs.Files.{ArePlaced, opened_of}
use Rattle.sourceindex.proofs.Places.{earlier_place, position-push}

pub opened_of-push : (paths : List (List ℕ)) (sounds : List SoundFacts) (path : List ℕ) (facts : SoundFacts)
    → length paths ≡ length sounds
    → opened_of (paths ++ path ∷ []) (sounds ++ facts ∷ [])
    ≡ opened_of paths sounds ++ record { path = path; facts = facts } ∷ []
opened_of-push [] [] path facts together = refl
opened_of-push [] (s ∷ sounds) path facts together = absurd (omega (arith, together))
opened_of-push (p ∷ paths) [] path facts together = absurd (omega (arith, together))
opened_of-push (p ∷ paths) (s ∷ sounds) path facts together =
    ap (λ files. record { path = p; facts = s } ∷ files)
    (opened_of-push paths sounds path facts (omega (arith, together)))

pub sounds_opened : (paths : List (List ℕ)) (sounds : List SoundFacts)
    → map (λ (file : OpenedFile). file.facts) (opened_of paths sounds) ≡ sounds
sounds_opened paths [] = refl
sounds_opened [] (s ∷ sounds) = ap (λ rest. s ∷ rest) (sounds_opened [] sounds)
sounds_opened (p ∷ paths) (s ∷ sounds) = ap (λ rest. s ∷ rest) (sounds_opened paths sounds)

pub length-opened_of : (paths : List (List ℕ)) (sounds : List SoundFacts)
    → length (opened_of paths sounds) ≡ length sounds
length-opened_of paths [] = refl
length-opened_of [] (s ∷ sounds) = ap suc (length-opened_of [] sounds)
length-opened_of (p ∷ paths) (s ∷ sounds) = ap suc (length-opened_of paths sounds)

-- The path and the sound of the file at a position.
pub opened_at : (paths : List (List ℕ)) (sounds : List SoundFacts) (place : ℕ) (file : OpenedFile)
    → length paths ≡ length sounds
    → slice_get (opened_of paths sounds) place ≡ Some file
    → (slice_get paths place ≡ Some file.path) × (slice_get sounds place ≡ Some file.facts)
opened_at [] [] place file together there = cc
opened_at [] (s ∷ sounds) place file together there = absurd (omega (arith, together))
opened_at (p ∷ paths) [] place file together there = absurd (omega (arith, together))
opened_at (p ∷ paths) (s ∷ sounds) zero file together there =
    let same : record { path = p; facts = s } ≡ file = cc in
    (ap (λ (f : OpenedFile). Some f.path) same, ap (λ (f : OpenedFile). Some f.facts) same)
opened_at (p ∷ paths) (s ∷ sounds) (suc place) file together there =
    opened_at paths sounds place file (omega (arith, together)) there

-- A position in the list of files is one in both of its parts.
module _ {paths : List (List ℕ)} {sounds : List SoundFacts} {places : BTreeMap (String Global) ℕ} {files : List OpenedFile}
    (placed : ArePlaced paths sounds places) (view : opened_of paths sounds ≡ files) (place : ℕ)
    (within : place < length files) where
  pub sound_within : place < length sounds
  sound_within = omega (arith, length-opened_of paths sounds, ap length view, within)

  pub path_within : place < length paths
  path_within = omega (arith, sound_within, placed.together)

  -- The parts at that position belong to the file.
  module _ (file : OpenedFile) (there : slice_get files place ≡ Some file) where
    both_at : (slice_get paths place ≡ Some file.path) × (slice_get sounds place ≡ Some file.facts)
    both_at = opened_at paths sounds place file placed.together (ap (λ l. slice_get l place) view ∙ there)

    pub sound_read : (sound : SoundFacts) → sound ≡ get_or sounds place sound → sound ≡ file.facts
    sound_read sound read =
        let own = slice_get_read sounds (length sounds) place sound refl sound_within read in
        let both = both_at in cc

    pub path_read : (path : List ℕ) → path ≡ get_or paths place path → path ≡ file.path
    path_read path read =
        let own = slice_get_read paths (length paths) place path refl path_within read in
        let both = both_at in cc

-- The name of the file at a position, from the facts of the files.
pub named_at : (files : List OpenedFile) (place : ℕ) (name : List ℕ) (facts : SoundFacts)
    → ((file : OpenedFile) → slice_get files place ≡ Some file → name ≡ file.facts.name)
    → slice_get (map (λ (file : OpenedFile). file.facts) files) place ≡ Some facts → name ≡ facts.name
named_at [] place name facts is there = cc
named_at (f ∷ files) zero name facts is there = let same : f.facts ≡ facts = cc in
    is f refl ∙ ap (λ (s : SoundFacts). s.name) same
named_at (f ∷ files) (suc place) name facts is there = named_at files place name facts is there

-- One more file, whose name is new.
pub placed_push : (old new : BTreeMap (String Global) ℕ) (paths : List (List ℕ)) (sounds : List SoundFacts)
    (path : List ℕ) (facts : SoundFacts) (name : List ℕ)
    → ArePlaced paths sounds old → name ≡ facts.name → file_named facts.name (opened_of paths sounds) ≡ None
    → tree.UpdatesBy string_cmp (λ k. slice_cmp nat_cmp name (string_bytes k)) old new (Some (length sounds))
    → ArePlaced (paths ++ path ∷ []) (sounds ++ facts ∷ []) new
placed_push old new paths sounds path facts name are same missing updates =
    let files = opened_of paths sounds in
    let last = length sounds in
    let file : OpenedFile = record { path = path; facts = facts } in
    record {
      together = omega (arith, are.together, length-append paths (path ∷ []), length-append sounds (facts ∷ []));
      placed = λ sought.
          let pushed = opened_of-push paths sounds path facts are.together in
          let many = length-opened_of paths sounds in
          btree_map_updates_text name old new (Some last) updates sought
          ∙ by_name sought (bytes_eq name sought) refl
          ∙ sym (ap (file_named sought) pushed ∙ position-push (λ (f : OpenedFile).
          bytes_eq f.facts.name sought) file files
          ∙ rw (many, ← same) refl);
    } where
      by_name : (sought : List ℕ) (is : Bool) → bytes_eq name sought ≡ is
          → cond (bytes_eq name sought) (Some (length sounds)) (get_by_text old sought)
          ≡ option_or (file_named sought (opened_of paths sounds))
          (cond (bytes_eq name sought) (Some (length sounds)) None)
      by_name sought true e =
          let here : sought ≡ facts.name = sym ((bytes_eq-Decides name sought).0 e) ∙ same in
          let none : file_named sought (opened_of paths sounds) ≡ None =
          ap (λ n. file_named n (opened_of paths sounds)) here ∙ missing in
          rw (e, none) refl
      by_name sought false e =
          rw (e, are.placed sought) (earlier_place (file_named sought (opened_of paths sounds)) false (length sounds)
          (λ same. cc))
