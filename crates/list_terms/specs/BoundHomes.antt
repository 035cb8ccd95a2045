-- Invariants of bindings, and the home index of each file.
use Rattle.std.specs.Prelude.{◌≡◌, ℕ, ◌+◌, ◌<◌, ◌==◌, nat_le, Bool, true, List, [], ◌∷◌, length, All, Option, None, Some, if◌then◌else◌, slice_get, unwrap_or}
use Rattle.std.specs.List.{list_any}
use Rattle.sound_terms.specs.declared.BoundIndex.{BoundIndex}
use Rattle.sound_terms.specs.declared.piece.Home.{Home}
use Rattle.list_terms.specs.Binding.{Binding, OpenedFile, addressable_from, file_named}

-- An index that refers to one of these files and reaches its sample frames up to the end of the day.
pub record IsBoundTo (files : List OpenedFile) (index : BoundIndex) : Type 0 where
  pub file : OpenedFile
  pub there : slice_get files index.file ≡ Some file
  pub addressable : index.addressable ≡ addressable_from index.base file.facts

-- Files that their names identify: looking up the name of a file finds that file.
abbrev pub AreNamed : List OpenedFile → Type 0
AreNamed files = (i : ℕ) (file : OpenedFile) → slice_get files i ≡ Some file → file_named file.facts.name files ≡ Some i

-- Whether some index refers to the file.
abbrev pub has_index : List BoundIndex → ℕ → Bool
has_index indexes file = list_any (λ index. index.file == file) indexes

-- The invariants of every binding.
pub record IsBinding (binding : Binding) : Type 0 where
  pub bound : All (IsBoundTo binding.files) binding.indexes
  pub named : AreNamed binding.files
  pub used : (file : ℕ) → file < length binding.files → has_index binding.indexes file ≡ true

-- The home that an index at this position offers.
abbrev pub home_at : ℕ → BoundIndex → Home
home_at position index = record { base = index.base; addressable = index.addressable; position = position }

-- The home with the smaller base, or the earlier one if the bases are equal.
abbrev pub earlier_home : Home → Option Home → Home
earlier_home home None = home
earlier_home home (Some later) = if nat_le home.base later.base then home else later

-- The home index of a file, among indexes that start at this position: the first one with the smallest base.
abbrev pub home_from : ℕ → List BoundIndex → ℕ → Option Home
home_from place [] file = None
home_from place (index ∷ indexes) file =
    if index.file == file then Some (earlier_home (home_at place index) (home_from (place + 1) indexes file))
    else home_from (place + 1) indexes file

-- The home of a file without an index, which no binding has.
abbrev pub no_home : Home
no_home = record { base = 0; addressable = 0; position = 0 }

-- The homes of these files, the first of which has this position.
abbrev pub homes_from : List BoundIndex → ℕ → List OpenedFile → List Home
homes_from indexes file [] = []
homes_from indexes file (opened ∷ files) =
    unwrap_or (home_from 0 indexes file) no_home ∷ homes_from indexes (file + 1) files

-- The home of each file.
abbrev pub homes_of : Binding → List Home
homes_of binding = homes_from binding.indexes 0 binding.files
