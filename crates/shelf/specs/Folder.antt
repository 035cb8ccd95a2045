-- Models of the stores in a folder.
use Rattle.std.specs.Prelude.{◌≡◌, ℕ, true, false, List, [], ◌∷◌, codes}
use Rattle.shelf.specs.declared.folder.open_files.Access.{Access}
use Rattle.shelf.specs.declared.folder.open_files.Access.TheVariants.{Read, Write}
use Rattle.shelf.specs.declared.folder.open_files.Overwrite.{Overwrite}
use Rattle.shelf.specs.declared.folder.open_files.Overwrite.TheVariants.{Never}

-- a folder of sources: its path and the number of failed calls
pub record SourceFolder : Type 0 where
  pub folder : List ℕ
  pub failures : ℕ

-- a folder of outputs: its path, whether existing files may be replaced, and the number of failed calls
pub record OutputFolder : Type 0 where
  pub folder : List ℕ
  pub overwrite : Overwrite
  pub failures : ℕ

-- path of the folder; the empty path is the current folder
abbrev pub folder_named : List ℕ → List ℕ
folder_named [] = codes "."
folder_named (first ∷ rest) = first ∷ rest

-- the replacement rule for output files; never replace them if access is read-only
abbrev pub overwrite_of : Access → Overwrite
overwrite_of Read = Never
overwrite_of (Write overwrite) = overwrite

-- a store in a folder isn't honest
pub not_honest : false ≡ true → ⊥
not_honest e = cc
