-- Files by name in memory.
use Rattle.std.specs.Prelude.{◌≡◌, ◌⊎◌, ℕ, ◌+◌, ◌<◌, Option, Some, None, List, Result, OnErr, option_map}
use Rattle.std.specs.BTreeMap.{get_by_text}
use Rattle.work_terms.specs.Disk.{Files, end_of}
use Rattle.shelf.specs.declared.memory.files.NamedFiles.{NamedFiles}

-- contents of each file
abbrev pub files_of : NamedFiles → Files
files_of named name = option_map (λ bytes. bytes.items) (get_by_text named.files name)

-- a failed call changes no file
abbrev pub KeepsFiles : {X E : Type 0} → NamedFiles → NamedFiles → Result X E → Type 0
KeepsFiles old new result = OnErr result ((n : List ℕ) → files_of new n ≡ files_of old n)

-- the file has these bytes after the change
abbrev pub IsPut : List ℕ → Option (List ℕ) → Option (List ℕ) → Type 0
IsPut bytes old new = new ≡ Some bytes

-- the contents after the change are `make` of the contents before
abbrev pub IsMade : (Option (List ℕ) → Option (List ℕ)) → Option (List ℕ) → Option (List ℕ) → Type 0
IsMade make old new = new ≡ make old

-- the range of n bytes from offset `at` on isn't inside the file
abbrev pub IsOutside : Option (List ℕ) → ℕ → ℕ → Type 0
IsOutside file at n = (file ≡ None) ⊎ (end_of file < at + n)
