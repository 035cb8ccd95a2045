-- Naming of a file, compared with the path by which it was named before.
use Rattle.std.specs.Prelude.{◌≡◌, ℕ, List, Option, None, Some, bytes_eq, if◌then◌else◌, option_map}
use Rattle.std.specs.BTreeMap.{get_by_text}
use Rattle.std.specs.List.{find}
use Rattle.list_terms.specs.Names.{Place}
use Rattle.opening.specs.declared.further.paths.Naming.{Naming}
use Rattle.opening.specs.declared.further.paths.Paths.{Paths}
use Rattle.opening.specs.declared.further.paths.Naming.TheVariants.{First, Again, ByOtherPath}

-- path of the first location with this file name
abbrev pub path_among : List ℕ → List Place → Option (List ℕ)
path_among name places = option_map (λ place. place.path) (find (λ place. bytes_eq place.name name) places)

-- the known paths are those of these locations, by file name
abbrev pub Knows : Paths → List Place → Type 0
Knows paths places = (name : List ℕ) → get_by_text paths.paths name ≡ path_among name places

-- naming of a file, given the path by which it was first named
abbrev pub naming_of : Option (List ℕ) → List ℕ → Naming
naming_of None path = First
naming_of (Some known) path = if bytes_eq known path then Again else ByOtherPath
