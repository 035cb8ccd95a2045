-- Opened files with their paths, and the position of each by name.
use Rattle.std.specs.Prelude.{◌≡◌, ℕ, List, [], ◌∷◌, length}
use Rattle.std.specs.BTreeMap.{BTreeMap, get_by_text}
use Rattle.std.specs.declared.string.String.{String}
use Rattle.std.proofs.Common.{Global}
use Rattle.sound_terms.specs.Sounds.{SoundFacts}
use Rattle.list_terms.specs.Binding.{OpenedFile, file_named}

-- The files with these paths and sounds, in parallel lists.
abbrev pub opened_of : List (List ℕ) → List SoundFacts → List OpenedFile
opened_of paths [] = []
opened_of [] (facts ∷ sounds) = record { path = []; facts = facts } ∷ opened_of [] sounds
opened_of (path ∷ paths) (facts ∷ sounds) = record { path = path; facts = facts } ∷ opened_of paths sounds

-- The invariants of opened files: one path for each sound, and for each name the position of the first file with
-- that name.
pub record ArePlaced (paths : List (List ℕ)) (sounds : List SoundFacts)
    (places : BTreeMap (String Global) ℕ) : Type 0 where
  pub together : length paths ≡ length sounds
  pub placed : (name : List ℕ) → get_by_text places name ≡ file_named name (opened_of paths sounds)
